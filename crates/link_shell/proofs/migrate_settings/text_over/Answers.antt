use Rattle.command_scripts.specs.Words.{takes_go, takes_ok, takes_refused, takes_stop}
use Rattle.link_shell.proofs.migrate_settings.text_over.Goals as goal

pub returns-in_err-journal : goal.returns-in_err-journal
returns-in_err-journal g c = takes_stop _ _ c.in_err-journal.ensures.takes c.from_residual.ensures.1

pub returns-in_err-text : goal.returns-in_err-text
returns-in_err-text g c = takes_go _ _ c.in_ok-journal.ensures.takes (takes_refused _ _ c.in_err-text.ensures.answer c.from_residual-in_err-text.ensures.1)

pub returns : goal.returns
returns g c = takes_go _ _ c.in_ok-journal.ensures.takes (takes_ok _ c.in_ok-text.ensures.answer)
