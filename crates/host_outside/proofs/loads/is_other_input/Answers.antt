use Rattle.std.proofs.Common.{arith, take_all}
use Rattle.host_outside.proofs.loads.is_other_input.Goals as goal

pub returns-clause-none : goal.returns-clause-none
returns-clause-none c = rw (take_all c.loop-loaded.loaded-index c.args.loads.now (omega arith)) at c.loop-loaded.invariant
