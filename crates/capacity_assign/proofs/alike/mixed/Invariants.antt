use Rattle.std.proofs.Common.{◌-◌}
use Rattle.capacity_assign.proofs.alike.mixed.Given as goal

abbrev pub decreases-loop-k : goal.decreases-loop-k
decreases-loop-k l = l.to - l.k
