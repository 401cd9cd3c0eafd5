use Rattle.capacity_assign.specs.Round.{AreTried}
use Rattle.capacity_assign.specs.Seating.{seating}
use Rattle.capacity_assign.proofs.seats.link_tight.Given as goal

abbrev pub invariant-loop-k : goal.invariant-loop-k
invariant-loop-k l = AreTried l.net.edges.now l.net.price_a.now l.net.price_b.now l.k l.fn.link_a l.fn.seats.left.items l.link_a (seating l.seats)
