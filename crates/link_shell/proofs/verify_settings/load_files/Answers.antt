use Rattle.std.proofs.Common.{refl}
use Rattle.written_check.specs.Verified.{texts_in}
use Rattle.command_scripts.specs.Words.{seen_err, takes_go, takes_ok, takes_stop}
use Rattle.link_shell.proofs.verify_settings.load_files.Goals as goal

pub returns-in_err-rule-clause-takes : goal.returns-in_err-rule-clause-takes
returns-in_err-rule-clause-takes g c = takes_stop _ _ c.in_err-rule.ensures.takes (seen_err texts_in c.from_residual.result _ c.from_residual.ensures.1)

pub returns-in-Err-clause-takes : goal.returns-in-Err-clause-takes
returns-in-Err-clause-takes g c = takes_go _ _ c.in_ok-rule.ensures.takes (takes_stop _ _ c.in-Err.ensures.takes refl)

pub returns-in-Err-load_written-clause-takes : goal.returns-in-Err-load_written-clause-takes
returns-in-Err-load_written-clause-takes g c =
    takes_go _ _ c.in_ok-rule.ensures.takes (takes_go _ _ c.in-Ok.ensures.takes (takes_stop _ _ c.in-Err-load_written.ensures.takes refl))

pub returns-in-Ok-load_written-clause-takes : goal.returns-in-Ok-load_written-clause-takes
returns-in-Ok-load_written-clause-takes g c =
    takes_go _ _ c.in_ok-rule.ensures.takes (takes_go _ _ c.in-Ok.ensures.takes (takes_go _ _ c.in-Ok-load_written.ensures.takes (takes_ok _ refl)))
