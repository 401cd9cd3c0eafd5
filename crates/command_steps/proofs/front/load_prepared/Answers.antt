use Rattle.link_core.specs.Prepared.{files_of}
use Rattle.command_scripts.specs.Words.{seen_err, takes_go, takes_ok, takes_refused, takes_stop}
use Rattle.command_steps.proofs.front.load_prepared.Goals as goal

pub returns-in_err-inputs-clause-takes : goal.returns-in_err-inputs-clause-takes
returns-in_err-inputs-clause-takes g c = takes_stop _ _ c.in_err-inputs.ensures (seen_err files_of c.from_residual.result _ c.from_residual.ensures.1)

pub returns-in_err-files-clause-takes : goal.returns-in_err-files-clause-takes
returns-in_err-files-clause-takes g c =
    takes_go _ _ c.in_ok-inputs.ensures (takes_refused _ _ c.in_err-files.ensures.answer (seen_err files_of c.from_residual-in_err-files.result _ c.from_residual-in_err-files.ensures.1))

pub returns-clause-takes : goal.returns-clause-takes
returns-clause-takes g c = takes_go _ _ c.in_ok-inputs.ensures (takes_ok (files_of c.in_ok-files.files) c.in_ok-files.ensures.answer)
