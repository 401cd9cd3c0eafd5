use Rattle.std.proofs.Common.{◌≡◌, ◌<◌, ℕ, length, slice_index}
use Rattle.price_check.proofs.numbering.single_places.Given as goal

abbrev pub invariant-loop-i : goal.invariant-loop-i
invariant-loop-i l = record {
  count : length l.up.items ≡ l.count;
  single : (x : ℕ) → x < l.i → slice_index l.up.items x ≡ x;
}
