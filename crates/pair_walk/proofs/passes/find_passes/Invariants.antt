use Rattle.pair_walk.specs.Joining.{AreFoundRows}
use Rattle.pair_walk.proofs.passes.find_passes.Given as goal

abbrev pub invariant-loop-at : goal.invariant-loop-at
invariant-loop-at l = AreFoundRows l.passes l.at l.a l.b l.found.items
