use Rattle.command_scripts.specs.Words.{takes_go, takes_stop}
use Rattle.link_shell.proofs.migrate_settings.load_text.Goals as goal

pub returns-in_err-files : goal.returns-in_err-files
returns-in_err-files g c = takes_stop _ _ c.in_err-files.ensures.takes c.from_residual.ensures.1

pub returns : goal.returns
returns g c = takes_go _ _ c.in_ok-files.ensures.takes c.text_over-text.ensures
