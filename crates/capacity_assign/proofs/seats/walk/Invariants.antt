use Rattle.assignment_steps.specs.Words.{above, number}
use Rattle.capacity_assign.proofs.Ways.{IsWalking}
use Rattle.capacity_assign.proofs.seats.walk.Given as goal

abbrev pub invariant-loop-left : goal.invariant-loop-left
invariant-loop-left l = IsWalking l.net.edges.now l.net.price_a.now l.net.price_b.now l.ways.from.now l.ways.rank.now l.ways.root l.fn.hole l.fn.link_a l.fn.seat l.fn.sitter l.link_a l.seat l.sitter l.free

abbrev pub decreases-loop-left : goal.decreases-loop-left
decreases-loop-left l = number l.ways.rank.now (above l.net.edges.now l.ways.from.now l.free.b)
