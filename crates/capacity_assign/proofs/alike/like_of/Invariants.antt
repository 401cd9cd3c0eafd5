use Rattle.std.proofs.Common.{◌≡◌, length}
use Rattle.capacity_assign.specs.Seating.{AreAlike}
use Rattle.capacity_assign.proofs.alike.like_of.Given as goal

abbrev pub invariant-loop-a : goal.invariant-loop-a
invariant-loop-a l = record { slots : length l.noted.items ≡ l.rows; alike : AreAlike l.edges l.a l.like.items }
