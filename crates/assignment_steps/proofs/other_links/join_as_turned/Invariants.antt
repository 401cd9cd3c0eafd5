use Rattle.assignment_steps.specs.Words.{AreJoinedAs, IsMatched}
use Rattle.assignment_steps.proofs.other_links.join_as_turned.Given as goal

abbrev pub invariant-loop-i : goal.invariant-loop-i
invariant-loop-i l = record {
  matched : IsMatched l.board.edges.now l.link_a l.link_b;
  joined : AreJoinedAs l.board l.link_a l.link_b l.links l.i;
}
