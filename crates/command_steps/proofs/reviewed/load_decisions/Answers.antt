use Rattle.std.proofs.Common.{refl}
use Rattle.link_core.specs.Rules.{decisions_of}
use Rattle.command_steps.specs.Reviewed.{shared_decisions_of}
use Rattle.command_scripts.specs.Words.{seen_err, takes_fault, takes_go, takes_ok, takes_stop}
use Rattle.command_steps.proofs.reviewed.load_decisions.Goals as goal

pub returns-in_err-shares-clause-takes : goal.returns-in_err-shares-clause-takes
returns-in_err-shares-clause-takes g c = takes_stop _ _ c.in_err-shares.ensures.takes (seen_err (shared_decisions_of c.args.files.now) c.from_residual.result _ c.from_residual.ensures.1)

pub returns-in-Err-clause-takes : goal.returns-in-Err-clause-takes
returns-in-Err-clause-takes g c =
    takes_go _ _ c.in_ok-shares.ensures.takes (takes_stop _ _ (takes_fault c.in-Err.ensures.answer) refl)

pub returns-in-Ok-clause-takes : goal.returns-in-Ok-clause-takes
returns-in-Ok-clause-takes g c = takes_go _ _ c.in_ok-shares.ensures.takes (takes_go _ _ (takes_ok (decisions_of c.args.files.now c.in-Ok.decided) c.in-Ok.ensures.answer) (takes_ok _ refl))

pub returns-in-Ok-clause-decided : goal.returns-in-Ok-clause-decided
returns-in-Ok-clause-decided g c = let d = c.in-Ok.ensures in record { of_files = d.of_files; of_plan = d.of_plan; rule = d.rule; rows = d.rows }
