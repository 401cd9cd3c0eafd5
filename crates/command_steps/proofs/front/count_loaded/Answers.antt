use Rattle.command_scripts.specs.Words.{takes_go, takes_stop}
use Rattle.command_steps.proofs.front.count_loaded.Goals as goal

pub returns-in_err-files-clause-takes : goal.returns-in_err-files-clause-takes
returns-in_err-files-clause-takes g c = takes_stop _ _ c.in_err-files.ensures.takes c.from_residual.ensures.1

pub returns-clause-takes : goal.returns-clause-takes
returns-clause-takes g c = takes_go _ _ c.in_ok-files.ensures.takes c.count_named-shares.ensures.takes
