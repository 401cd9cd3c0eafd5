use Rattle.std.proofs.Common.{◌∙◌, ap, length, inl, inr, arith}
use Rattle.std.proofs.lemmas.Bool.{cases_eq}
use Rattle.std.proofs.lemmas.List.{with_items_is}
use Rattle.assignment_steps.specs.Words.{edge}
use Rattle.capacity_assign.proofs.start.closed_prices.Goals as goal

pub close-requires : goal.close-requires
close-requires c = record {
  within = c.requires.within c.loop-k.k c.loop-k-test.true;
  records = ap length c.deref_mut.ensures.value ∙ c.loop-k.invariant.records;
}

pub loop-k-preserved : goal.loop-k-preserved
loop-k-preserved c =
    let i = c.loop-k.invariant in
    let is = c.deref_mut.ensures.value in
    let kept = rw is at c.close.ensures.kept in
    let vacant = rw is at c.close.ensures.vacant in
    let small = rw is at c.close.ensures.small in
    rw (with_items_is c.loop-k.prices c.close.new.prices (omega (arith, c.close.auto.prices, c.deref_mut.ensures.len))) (record {
      records = c.close.auto.prices ∙ (ap length is ∙ i.records);
      covered = λ j low none. elim (cases_eq j c.loop-k.k) [
        | inl same ↦ rw same (c.close.ensures.here (rw same at none))
        | inr other ↦ omega (arith, i.covered j (omega (arith, low, other)) none, kept (edge c.args.edges.now j).b)
      ];
      vacant = λ b some. vacant b some ∙ i.vacant b some;
      small = small (c.requires.small c.loop-k.k) i.small;
    })

pub returns : goal.returns
returns c =
    let i = c.loop-k.invariant in
    record { records = i.records; covered = λ k lt none. i.covered k (omega (arith, lt, c.loop-k-test.false)) none; vacant = i.vacant; small = i.small }
