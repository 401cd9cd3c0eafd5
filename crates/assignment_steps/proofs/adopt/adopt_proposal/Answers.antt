use Rattle.std.proofs.Common.{◌∙◌}
use Rattle.assignment_steps.specs.Words.{none_matched}
use Rattle.assignment_steps.proofs.adopt.adopt_proposal.Goals.{then-proposal-price_a-via-then-proposal-price_a, then-proposal-price_a-via-else-proposal-price_a+then-proposal-price_b}
use Rattle.assignment_steps.proofs.adopt.adopt_proposal.Goals as goal

pub join_mates-requires-clause-matched : goal.join_mates-requires-clause-matched
join_mates-requires-clause-matched c = none_matched c.args.board.edges.now _ _ c.clear_links.ensures.none c.clear_links-2.ensures.none

pub join_mates-requires-clause-in_range : goal.join_mates-requires-clause-in_range
join_mates-requires-clause-in_range c =
    let w = c.requires.between in
    rw (c.clear_links.ensures.count, c.if-spare_a-link_a.false, w.priced.rows_a, c.clear_links-2.ensures.count, c.if-spare_b-link_b.false, w.rows_b) w.priced.in_range

pub adopt_all-requires-clause-link_a : goal.adopt_all-requires-clause-link_a
adopt_all-requires-clause-link_a c = c.join_mates.auto.link_a ∙ (c.clear_links.ensures.count ∙ c.if-spare_a-link_a.false)

pub adopt_all-requires-clause-link_b : goal.adopt_all-requires-clause-link_b
adopt_all-requires-clause-link_b c = c.join_mates.auto.link_b ∙ (c.clear_links-2.ensures.count ∙ c.if-spare_b-link_b.false)

pub returns-then-proposal-price_a-clause-joined : goal.returns-then-proposal-price_a-clause-joined
returns-then-proposal-price_a-clause-joined c fits = elim c.then-proposal-price_a.branch [
  | then-proposal-price_a-via-then-proposal-price_a w ↦ absurd (w.if-proposal-price_a.true fits.prices_a)
  | then-proposal-price_a-via-else-proposal-price_a+then-proposal-price_b w ↦ absurd (w.if-proposal-price_b.true fits.prices_b)
]

pub returns-clause-between : goal.returns-clause-between
returns-clause-between c = c.adopt_all.ensures.between

pub returns-clause-joined : goal.returns-clause-joined
returns-clause-joined c _ = c.join_mates.ensures.joined

pub returns-clause-adopted : goal.returns-clause-adopted
returns-clause-adopted c _ = c.adopt_all.ensures.adopted
