use Rattle.std.proofs.Common.{refl}
use Rattle.command_scripts.specs.Words.{takes_go, takes_ok, takes_stop}
use Rattle.command_steps.proofs.front.load_both.Goals as goal

pub returns-in_err-a : goal.returns-in_err-a
returns-in_err-a g c = takes_stop _ _ c.in_err-a.ensures c.from_residual.ensures.1

pub returns-in-Err : goal.returns-in-Err
returns-in-Err g c = takes_go _ _ c.in_ok-a.ensures (takes_stop _ _ c.in-Err.ensures refl)

pub returns-in-Ok : goal.returns-in-Ok
returns-in-Ok g c = takes_go _ _ c.in_ok-a.ensures (takes_go _ _ c.in-Ok.ensures (takes_ok _ refl))
