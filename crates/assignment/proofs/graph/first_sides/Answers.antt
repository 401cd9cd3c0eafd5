use Rattle.std.proofs.Common.{ℕ, ◌∙◌, ap, length}
use Rattle.std.proofs.lemmas.List.{length-replicate}
use Rattle.assignment_steps.specs.Words.{ReachAll, all_zero}
use Rattle.assignment.proofs.graph.first_sides.Goals as goal

pub first_prices-requires-clause-small : goal.first_prices-requires-clause-small
first_prices-requires-clause-small c = rw c.deref.ensures.value c.requires.listed.small

pub first_prices-requires-clause-in_range : goal.first_prices-requires-clause-in_range
first_prices-requires-clause-in_range c = rw (c.deref.ensures.value, c.deref-2.ensures.value, (c.in_ok-price_b.ensures.items_if_clones_equal (λ y same. same)), length-replicate {A = ℕ} c.args.rows_b 0) c.requires.in_range

pub first_prices-requires-2-clause-small : goal.first_prices-requires-2-clause-small
first_prices-requires-2-clause-small c = rw c.deref-3.ensures.value c.requires.turned_listed.small

pub first_prices-requires-2-clause-in_range : goal.first_prices-requires-2-clause-in_range
first_prices-requires-2-clause-in_range c = rw (c.deref-3.ensures.value, c.deref-4.ensures.value, (c.in_ok-other_b.ensures.items_if_clones_equal (λ y same. same)), length-replicate {A = ℕ} c.args.rows_a 0) c.requires.turned

pub other_if_less-requires-clause-reach : goal.other_if_less-requires-clause-reach
other_if_less-requires-clause-reach c =
    let b : ReachAll c.args.graph.now.turned.items c.args.rows_b c.in_ok-other_a.other_a.items c.in_ok-other_b.other_b.items = rw (c.deref-3.ensures.value, c.deref-4.ensures.value) at c.in_ok-other_a.ensures in
    rw (c.deref-5.ensures.value, b.records) b

pub other_if_less-requires-clause-none : goal.other_if_less-requires-clause-none
other_if_less-requires-clause-none c = rw (c.in_ok-other_b.ensures.items_if_clones_equal (λ y same. same)) (all_zero c.args.rows_a)

pub other_if_less-requires-clause-rows : goal.other_if_less-requires-clause-rows
other_if_less-requires-clause-rows c = rw (c.deref-6.ensures.value, c.in_ok-price_a.ensures.records) (ap length (c.in_ok-other_b.ensures.items_if_clones_equal (λ y same. same)) ∙ length-replicate {A = ℕ} c.args.rows_a 0)

pub other_if_less-requires-clause-in_range : goal.other_if_less-requires-clause-in_range
other_if_less-requires-clause-in_range c = rw (c.deref-5.ensures.value, c.in_ok-other_a.ensures.records, (c.in_ok-other_b.ensures.items_if_clones_equal (λ y same. same)), length-replicate {A = ℕ} c.args.rows_a 0) c.requires.turned

pub first_side-requires-clause-reach : goal.first_side-requires-clause-reach
first_side-requires-clause-reach c =
    let a : ReachAll c.args.graph.now.edges.items c.args.rows_a c.in_ok-price_a.price_a.items c.in_ok-price_b.price_b.items = rw (c.deref.ensures.value, c.deref-2.ensures.value) at c.in_ok-price_a.ensures in
    rw (c.deref-7.ensures.value, a.records) a

pub first_side-requires-clause-none : goal.first_side-requires-clause-none
first_side-requires-clause-none c = rw (c.in_ok-price_b.ensures.items_if_clones_equal (λ y same. same)) (all_zero c.args.rows_b)

pub first_side-requires-clause-in_range : goal.first_side-requires-clause-in_range
first_side-requires-clause-in_range c = rw (c.deref-7.ensures.value, c.in_ok-price_a.ensures.records, (c.in_ok-price_b.ensures.items_if_clones_equal (λ y same. same)), length-replicate {A = ℕ} c.args.rows_b 0) c.requires.in_range

pub returns-in-Ok : goal.returns-in-Ok
returns-in-Ok c = record {
  own = record {
    side = rw c.deref-7.ensures.value at c.in-Ok.ensures.side;
    count_a = c.in-Ok.ensures.count_a ∙ c.in_ok-price_a.ensures.records;
    count_b = c.in-Ok.ensures.count_b ∙ (ap length (c.in_ok-price_b.ensures.items_if_clones_equal (λ y same. same)) ∙ length-replicate {A = ℕ} c.args.rows_b 0);
  };
  other = rw (c.deref-5.ensures.value, c.deref-6.ensures.value, c.in_ok-price_a.ensures.records, c.in_ok-other_a.ensures.records) at c.in_ok-other.ensures.other;
}
