use Rattle.assignment.specs.Growth.{AreTakenUp}
use Rattle.assignment.proofs.round.search_each.Given as goal

abbrev pub invariant-loop-root : goal.invariant-loop-root
invariant-loop-root l = AreTakenUp l.bounded l.edges l.root l.price_a l.price_b l.link_a l.link_b l.tree
