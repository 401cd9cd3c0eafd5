use Rattle.std.proofs.Common.{arith}
use Rattle.assignment_steps.specs.Words.{few_edges, rising_edges}
use Rattle.capacity_assign.proofs.start.listed_edges.Goals as goal

pub starts_of-requires-clause-rising : goal.starts_of-requires-clause-rising
starts_of-requires-clause-rising c = rw (c.deref.ensures.value, c.in_ok-edges.ensures) (rising_edges c.args.candidates.now c.requires.rising)

pub starts_of-requires-clause-few : goal.starts_of-requires-clause-few
starts_of-requires-clause-few c = rw (c.deref.ensures.value, c.in_ok-edges.ensures) (omega (arith, few_edges c.args.candidates.now, c.requires.few))
