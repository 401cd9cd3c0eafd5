use Rattle.assignment_steps.specs.Words.{number, above}
use Rattle.assignment.proofs.Ways.{IsWalking}
use Rattle.assignment.proofs.round.walk.Given as goal

abbrev pub invariant-loop-freed : goal.invariant-loop-freed
invariant-loop-freed l = IsWalking l.net.edges.now l.net.price_a.now l.net.price_b.now l.ways.from.now l.ways.rank.now l.ways.root l.hole l.fn.link_a l.fn.link_b l.link_a l.link_b l.b

abbrev pub decreases-loop-freed : goal.decreases-loop-freed
decreases-loop-freed l = number l.ways.rank.now (above l.net.edges.now l.ways.from.now l.b)
