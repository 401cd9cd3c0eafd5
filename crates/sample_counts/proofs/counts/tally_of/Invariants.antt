use Rattle.std.proofs.Common.{◌≡◌, ◌<◌, ℕ, length, take, filter}
use Rattle.patterns.specs.Patterns.{rare_of}
use Rattle.sample_counts.specs.Counts.{digit_in, is_digit}
use Rattle.sample_counts.specs.Tallies.{counted_at}
use Rattle.sample_counts.proofs.counts.tally_of.Given as goal

abbrev pub invariant-loop-row : goal.invariant-loop-row
invariant-loop-row l = (k : ℕ) → k < 4 → counted_at l.counts k ≡ length (filter (λ row. is_digit k (digit_in (rare_of l.shape) l.field l.matched row)) (take l.row-index l.rows))
