use Rattle.std.proofs.Common.{arith}
use Rattle.std.proofs.lemmas.Int.{ints}
use Rattle.price_check.specs.Assignment.{no_candidate}
use Rattle.price_check.proofs.Order.{choose, within_links}
use Rattle.price_check.proofs.capacity.verdict.Goals as goal

pub first_unplaced-requires-clause-in_range : goal.first_unplaced-requires-clause-in_range
first_unplaced-requires-clause-in_range c = λ k d lt.
    let at = c.in_default.ensures k d lt in
    let p = at.1.1 no_candidate in
    let q = c.requires.in_range at.0 no_candidate at.1.0 in
    omega (arith, p.1, q.1)

pub overflow_add-prices : goal.overflow_add-prices
overflow_add-prices c = omega (arith, ints)

pub returns-then-worth-prices : goal.returns-then-worth-prices
returns-then-worth-prices c =
    (c.in_default.ensures, (rw c.in_default-2.is at c.in_ok-index.ensures), c.in_default-first_negative.ensures, c.in_default-first_negative-2.ensures, c.in_default-first_uncovered.ensures, omega (arith, ints), (λ chosen are. omega (arith, ints, c.links_worth-worth.ensures chosen are)), (λ e. grind (arith, ints)))

pub returns : goal.returns
returns c =
    let cs = c.args.candidates.now in
    let ch = choose cs c.args.links.now no_candidate c.in_default.ensures in (
      ch.0,
      (
        ch.1,
        within_links cs c.args.capacity.now c.args.links.now ch.0 ch.1 c.requires.links_rising (rw c.in_default-2.is at c.in_ok-index.ensures),
        record {
          floor_a = c.in_default-first_negative.ensures;
          floor_b = c.in_default-first_negative-2.ensures;
          covered = c.in_default-first_uncovered.ensures;
          balanced = omega (arith, ints, c.links_worth-worth.ensures ch.0 ch.1);
        },
      ),
    )
