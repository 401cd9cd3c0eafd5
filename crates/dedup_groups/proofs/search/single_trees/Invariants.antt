use Rattle.std.proofs.Common.{◌≡◌, ◌<◌, ℕ, length, slice_index}
use Rattle.dedup_groups.proofs.search.single_trees.Given as goal

abbrev pub invariant-loop-at : goal.invariant-loop-at
invariant-loop-at l = record {
  count : length l.leaders.items ≡ l.rows;
  single : (x : ℕ) → x < l.at → slice_index l.leaders.items x ≡ x;
}
