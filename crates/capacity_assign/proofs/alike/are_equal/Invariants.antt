use Rattle.capacity_assign.specs.Seating.{AreEqual}
use Rattle.capacity_assign.proofs.alike.are_equal.Given as goal

abbrev pub invariant-loop-i : goal.invariant-loop-i
invariant-loop-i l = record { equal : AreEqual l.edges l.one l.other l.i }
