use Rattle.assignment_steps.specs.Words.{AreJoinedWith, IsMatched}
use Rattle.assignment_steps.proofs.other_links.join_mates.Given as goal

abbrev pub invariant-loop-a : goal.invariant-loop-a
invariant-loop-a l = record {
  matched : IsMatched l.board.edges.now l.link_a l.link_b;
  joined : AreJoinedWith l.board l.link_a l.link_b l.mates l.a;
}
