use Rattle.std.proofs.Common.{◌≤◌, ◌-◌, ◌∙◌, ap, length, inl, inr, arith}
use Rattle.std.proofs.lemmas.Bool.{cases_eq}
use Rattle.std.proofs.lemmas.List.{with_items_is}
use Rattle.link_limits.specs.declared.TheConstants.{MOST_VALUE}
use Rattle.assignment_steps.specs.Words.{edge, number}
use Rattle.assignment_steps.proofs.shift.first_prices.Goals as goal

pub raise_to-requires : goal.raise_to-requires
raise_to-requires c = rw (c.deref_mut.ensures.value, c.loop-k.invariant.records) (c.requires.in_range.record_a c.loop-k.k c.loop-k-test.true)

pub loop-k-preserved : goal.loop-k-preserved
loop-k-preserved c =
    let i = c.loop-k.invariant in
    let is = c.deref_mut.ensures.value in
    let k = c.loop-k.k in
    let e = edge c.args.edges.now k in
    let kept = rw is at c.raise_to.ensures.kept in
    let small = rw is at c.raise_to.ensures.small in
    let here : e.value - number c.args.price_b.now e.b ≤ number c.raise_to.new.prices e.a = rw c.saturating_sub-lacks.ensures at c.raise_to.ensures.here in
    let low : c.saturating_sub-lacks.result ≤ MOST_VALUE = omega (arith, c.saturating_sub-lacks.ensures, c.requires.small k) in
    rw (with_items_is c.loop-k.prices c.raise_to.new.prices (omega (arith, c.raise_to.auto.prices, c.deref_mut.ensures.len))) (record {
      records = c.raise_to.auto.prices ∙ (ap length is ∙ i.records);
      covered = λ j below. elim (cases_eq j k) [
        | inl same ↦ rw same (omega (arith, here))
        | inr other ↦ omega (arith, i.covered j (omega (arith, below, other)), kept (edge c.args.edges.now j).a)
      ];
      small = small low i.small;
    })

pub returns : goal.returns
returns c =
    let i = c.loop-k.invariant in
    record { records = i.records; covered = λ k lt. i.covered k (omega (arith, lt, c.loop-k-test.false)); small = i.small }
