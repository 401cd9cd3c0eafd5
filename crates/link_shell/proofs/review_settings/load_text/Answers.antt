use Rattle.command_scripts.specs.Words.{takes_go, takes_stop}
use Rattle.link_shell.proofs.review_settings.load_text.Goals as goal

pub returns-in_err-reviewed : goal.returns-in_err-reviewed
returns-in_err-reviewed g c = takes_stop _ _ c.in_err-reviewed.ensures.takes c.from_residual.ensures.1

pub returns : goal.returns
returns g c = takes_go _ _ c.in_ok-reviewed.ensures.takes c.add_loaded-added.ensures

pub add_loaded-added-requires-clause-of_files : goal.add_loaded-added-requires-clause-of_files
add_loaded-added-requires-clause-of_files g c = c.in_ok-reviewed.ensures.reviewed.of_files

pub add_loaded-added-requires-clause-journal : goal.add_loaded-added-requires-clause-journal
add_loaded-added-requires-clause-journal g c = c.in_ok-reviewed.ensures.reviewed.journal
