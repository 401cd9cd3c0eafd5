use Rattle.std.proofs.Common.{List, ap, arith, length, ℤ, All}
use Rattle.std.proofs.lemmas.Int.{ints}
use Rattle.std.proofs.lemmas.List.Elements.{All-contains}
use Rattle.price_check.specs.Assignment.{IsCovered, price_sum}
use Rattle.price_check.specs.Verdict.{HasAllowedValue}
use Rattle.written_check.specs.PricesSeen.{prices_seen}
use Rattle.written_check.proofs.StepLemmas.{sums_differ, sums_ok, sums_uncovered}
use Rattle.written_check.proofs.sums.verify_sums.Goals as goal

pub first_uncovered-requires-clause-in_range : goal.first_uncovered-requires-clause-in_range
first_uncovered-requires-clause-in_range c = λ k d lt.
    let within = c.requires.within k d lt in
    let a = ap (λ (l : List ℤ). length l) c.prices-a.ensures in
    let b = ap (λ (l : List ℤ). length l) c.prices-b.ensures in
    (omega (arith, a, within.0, c.requires.rows_a), omega (arith, b, within.1, c.requires.rows_b))

pub value_total-worth-requires-clause-allowed : goal.value_total-worth-requires-clause-allowed
value_total-worth-requires-clause-allowed c = λ k d lt. All-contains HasAllowedValue c.args.candidates.now _ c.requires.allowed (c.requires.taken.among k d lt)

pub overflow_add-paid : goal.overflow_add-paid
overflow_add-paid c = omega (arith, ints)

pub returns-in-Some-clause-within : goal.returns-in-Some-clause-within
returns-in-Some-clause-within c = c.requires.within c.in-Some.index _ c.in-Some.ensures.0

pub returns-in-Some-clause-answer : goal.returns-in-Some-clause-answer
returns-in-Some-clause-answer c =
    sums_uncovered c.args.candidates.now c.args.links.now (prices_seen c.args.prices.now) c.in-Some.index _ (rw (c.prices-a.ensures, c.prices-b.ensures) at c.in-Some.ensures)

pub returns-then-worth-paid-clause-answer : goal.returns-then-worth-paid-clause-answer
returns-then-worth-paid-clause-answer c =
    let covered : All (IsCovered c.args.prices.now.a c.args.prices.now.b) c.args.candidates.now = rw (c.prices-a.ensures, c.prices-b.ensures) at c.in_default.ensures in
    sums_differ c.args.candidates.now c.args.links.now (prices_seen c.args.prices.now) _ _ covered (omega (arith, ints, c.value_total-worth.ensures))
    (omega (arith, ints, ap price_sum c.prices-a.ensures, ap price_sum c.prices-b.ensures)) (λ e. grind (arith, ints))

pub returns-clause-answer : goal.returns-clause-answer
returns-clause-answer c =
    let covered : All (IsCovered c.args.prices.now.a c.args.prices.now.b) c.args.candidates.now = rw (c.prices-a.ensures, c.prices-b.ensures) at c.in_default.ensures in
    sums_ok c.args.candidates.now c.args.links.now (prices_seen c.args.prices.now) covered
    (omega (arith, ints, c.value_total-worth.ensures, ap price_sum c.prices-a.ensures, ap price_sum c.prices-b.ensures))
