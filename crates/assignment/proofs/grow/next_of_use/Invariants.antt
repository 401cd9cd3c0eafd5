use Rattle.std.proofs.Common.{◌-◌}
use Rattle.assignment.specs.Growth.{IsNextOfUse}
use Rattle.assignment.proofs.grow.next_of_use.Given as goal

abbrev pub invariant-loop-place : goal.invariant-loop-place
invariant-loop-place l = IsNextOfUse l.ground l.base l.best l.k l.end l.place

abbrev pub decreases-loop-place : goal.decreases-loop-place
decreases-loop-place l = l.end - l.place
