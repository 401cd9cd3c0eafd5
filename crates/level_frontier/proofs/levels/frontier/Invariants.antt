use Rattle.std.proofs.Common.{◌≡◌, ℕ, ◌<◌, length, slice_index, slice_index_or, vec_len}
use Rattle.patterns.specs.Patterns.{pattern_count_of}
use Rattle.level_frontier.specs.Frontier.{IsFrontierRow}
use Rattle.level_frontier.specs.declared.levels.FrontierRow.{FrontierRow}
use Rattle.level_frontier.proofs.levels.frontier.Given as goal

abbrev pub invariant-loop-k : goal.invariant-loop-k
invariant-loop-k l = record {
  table : vec_len l.table.cells ≡ pattern_count_of l.shares;
  size : length l.rows ≡ length l.mus;
  rows : (k : ℕ) (d : FrontierRow) → k < l.k → IsFrontierRow l.shares (slice_index l.mus k) l.lambda_ppm (slice_index_or l.rows k d);
}
