use Rattle.std.proofs.Common.{◌∙◌, List, ap, arith, false, length, filter, take_all}
use Rattle.link_limits.specs.declared.TheConstants.{MOST_ROWS}
use Rattle.patterns.specs.Patterns.{rare_of}
use Rattle.sample_counts.specs.declared.counts.Judged.{Judged}
use Rattle.sample_counts.specs.Counts.{digit_in, is_digit}
use Rattle.sample_counts.specs.Tallies.{counted_at}
use Rattle.sample_counts.proofs.Lemmas.{front-le, tally-step}
use Rattle.sample_counts.proofs.counts.tally_of.Goals as goal

pub more_at-counts-requires : goal.more_at-counts-requires
more_at-counts-requires c = λ k h.
    rw (c.loop-row.invariant k h) (front-le (λ row. is_digit k (digit_in (rare_of c.args.shape.now) c.args.field c.args.matched row)) c.args.rows.now c.loop-row.row-index MOST_ROWS c.requires.few)

pub loop-row-preserved : goal.loop-row-preserved
loop-row-preserved c = λ k h.
    tally-step (digit_in (rare_of c.args.shape.now) c.args.field c.args.matched) c.args.rows.now c.loop-row.row-index (record { matched = false; pattern = 0 }) (counted_at c.loop-row.counts k) (counted_at c.more_at-counts.result k) k c.digit_at.result c.loop-row-test.true (c.loop-row.invariant k h) (c.more_at-counts.ensures k h) c.digit_at.ensures

pub returns : goal.returns
returns c = λ k h.
    c.loop-row.invariant k h ∙ ap (λ (xs : List Judged). length (filter (λ row. is_digit k (digit_in (rare_of c.args.shape.now) c.args.field c.args.matched row)) xs)) (take_all c.loop-row.row-index c.args.rows.now (omega arith))
