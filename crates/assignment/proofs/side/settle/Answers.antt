use Rattle.std.proofs.lemmas.Bool.{false≢true}
use Rattle.assignment.proofs.Growing.{between_done}
use Rattle.assignment.proofs.side.settle.Goals as goal

pub search_each-requires-clause-between : goal.search_each-requires-clause-between
search_each-requires-clause-between c = c.link_tight.ensures.between

pub waiting-requires : goal.waiting-requires
waiting-requires c = c.search_each.ensures.between.priced.rows_a

pub returns-then-waiting-eq0 : goal.returns-then-waiting-eq0
returns-then-waiting-eq0 c = between_done _ _ _ _ _ _ c.search_each.ensures.between (c.waiting.ensures.0 c.if-waiting-eq0.true)

pub take_proposal-requires : goal.take_proposal-requires
take_proposal-requires c = record { between = c.search_each.ensures.between }

pub search_each-requires-2 : goal.search_each-requires-2
search_each-requires-2 c = record {
  listed = rw (c.take_proposal.auto.price_a, c.search_each.auto.price_a) c.requires.listed;
  rest = rw (c.take_proposal.auto.price_a, c.take_proposal.auto.price_b) c.search_each.ensures.rest;
  between = c.take_proposal.ensures.between;
}

pub returns : goal.returns
returns c = (let s = c.search_each-2.ensures in between_done _ _ _ _ _ _ s.between (s.done (λ on. absurd (false≢true on))))
