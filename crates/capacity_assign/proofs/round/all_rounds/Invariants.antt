use Rattle.std.proofs.Common.{length}
use Rattle.assignment_steps.specs.Words.{IsAtRest}
use Rattle.capacity_assign.specs.Round.{Advances}
use Rattle.capacity_assign.specs.Seating.{seating}
use Rattle.capacity_assign.proofs.round.all_rounds.Given as goal

abbrev pub invariant-loop-root : goal.invariant-loop-root
invariant-loop-root l = record {
  advances : Advances l.edges l.fn.link_a l.fn.seats.left.items l.price_a l.price_b l.link_a (seating l.seats) l.root;
  tree : IsAtRest (length l.price_a) (length l.price_b) (length l.edges) l.tree.reached;
}
