use Rattle.std.proofs.Common.{refl}
use Rattle.command_scripts.specs.Words.{takes_go, takes_ok, takes_stop}
use Rattle.command_steps.proofs.front.load_shared.Goals as goal

pub returns-in_err-plan-clause-takes : goal.returns-in_err-plan-clause-takes
returns-in_err-plan-clause-takes g c = takes_stop _ _ c.in_err-plan.ensures.takes c.from_residual.ensures.1

pub returns-in-Err-clause-takes : goal.returns-in-Err-clause-takes
returns-in-Err-clause-takes g c = takes_go _ _ c.in_ok-plan.ensures.takes (takes_stop _ _ c.in-Err.ensures.takes refl)

pub returns-in-Ok-clause-takes : goal.returns-in-Ok-clause-takes
returns-in-Ok-clause-takes g c = takes_go _ _ c.in_ok-plan.ensures.takes (takes_go _ _ c.in-Ok.ensures.takes (takes_ok _ refl))
