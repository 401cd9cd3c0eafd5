use Rattle.std.proofs.Common.{refl}
use Rattle.command_steps.specs.Reviewed.{review_of}
use Rattle.command_scripts.specs.Words.{seen_err, takes_go, takes_ok, takes_stop}
use Rattle.command_steps.proofs.reviewed.load_reviewed.Goals as goal

pub returns-in_err-files-clause-takes : goal.returns-in_err-files-clause-takes
returns-in_err-files-clause-takes g c = takes_stop _ _ c.in_err-files.ensures.takes (seen_err review_of c.from_residual.result _ c.from_residual.ensures.1)

pub returns-in-Err-clause-takes : goal.returns-in-Err-clause-takes
returns-in-Err-clause-takes g c = takes_go _ _ c.in_ok-files.ensures.takes (takes_stop _ _ c.in-Err.ensures.takes refl)

pub returns-in-Err-load_journal-clause-takes : goal.returns-in-Err-load_journal-clause-takes
returns-in-Err-load_journal-clause-takes g c =
    takes_go _ _ c.in_ok-files.ensures.takes (takes_go _ _ c.in-Ok.ensures.takes (takes_stop _ _ c.in-Err-load_journal.ensures.takes refl))

pub returns-in-Ok-load_journal-clause-takes : goal.returns-in-Ok-load_journal-clause-takes
returns-in-Ok-load_journal-clause-takes g c =
    takes_go _ _ c.in_ok-files.ensures.takes (takes_go _ _ c.in-Ok.ensures.takes (takes_go _ _ c.in-Ok-load_journal.ensures.takes (takes_ok _ refl)))

pub returns-in-Ok-load_journal-clause-reviewed : goal.returns-in-Ok-load_journal-clause-reviewed
returns-in-Ok-load_journal-clause-reviewed g c =
    let d = c.in-Ok.ensures.decided in
    record { ready = c.in_ok-files.ensures.ready; of_files = d.of_files; of_plan = d.of_plan; rule = d.rule; rows = d.rows; journal = c.in-Ok-load_journal.ensures.of_files }
