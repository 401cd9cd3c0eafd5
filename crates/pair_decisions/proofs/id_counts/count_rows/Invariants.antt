use Rattle.std.proofs.Common.{◌≡◌, ◌+◌, ◌<◌, ℕ, length, take, filter, slice_index}
use Rattle.pair_decisions.specs.Words.{has_id}
use Rattle.pair_decisions.proofs.id_counts.count_rows.Given as goal

abbrev pub invariant-loop-at : goal.invariant-loop-at
invariant-loop-at l = record {
  as_many : length l.counts ≡ length l.fn.counts;
  counted : (k : ℕ) → k < length l.fn.counts → slice_index l.counts k ≡ slice_index l.fn.counts k + length (filter (has_id l.field k) (take l.at l.table.rows));
}
