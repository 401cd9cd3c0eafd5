use Rattle.std.proofs.Common.{arith}
use Rattle.assignment_steps.proofs.adopt.serve.Goals as goal

pub returns : goal.returns
returns c =
    let matched = c.requires.matched in (
      λ free. record {
        priced = record {
          rows_a = c.requires.rows_a;
          in_range = c.requires.in_range;
          covered = c.cover.ensures.0 c.if-not-cover.false;
          small_a = c.are_small.ensures.0 c.if-not-are_small.false;
          small_b = c.are_small-else-not-are_small.ensures.0 c.if-not-are_small-2.false;
          linked = λ a k on. (let both = matched.of_a a k on in (both.0, both.1));
          tight = c.are_tight.ensures.0 c.if-not-are_tight.false;
          free_a = λ a low none. absurd (omega (arith, low));
          free_b = c.are_free_without_price.ensures.0 free;
        };
        rows_b = c.requires.rows_b;
        matched = matched;
      },
      λ w. c.are_free_without_price.ensures.1 w.priced.free_b,
    )
