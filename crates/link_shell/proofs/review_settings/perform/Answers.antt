use Rattle.std.proofs.Common.{refl, Ok}
use Rattle.command_scripts.specs.Words.{Put, gives, does_go, does_puts, does_stop, takes_ok}
use Rattle.command_steps.specs.Reviewed.{put_of_journal}
use Rattle.link_shell.specs.SettingsCommands.{is_one_put}
use Rattle.link_shell.proofs.review_settings.perform.Goals as goal

pub returns-in_err-plan : goal.returns-in_err-plan
returns-in_err-plan g c = does_stop _ _ _ c.in_err-plan.ensures.takes c.from_residual.ensures.1

pub returns-in-Err : goal.returns-in-Err
returns-in-Err g c = does_go _ _ _ c.in_ok-plan.ensures.takes (does_stop _ _ _ c.in-Err.ensures refl)

pub returns-in-Ok : goal.returns-in-Ok
returns-in-Ok g c =
    let put : Put = put_of_journal c.in_ok-plan.plan c.in-Ok.text in
    does_go _ _ _ c.in_ok-plan.ensures.takes (does_go _ _ _ c.in-Ok.ensures (does_puts (gives (Ok put)) is_one_put {x = put} (takes_ok _ refl) c.put_journal-ended.ensures refl))
