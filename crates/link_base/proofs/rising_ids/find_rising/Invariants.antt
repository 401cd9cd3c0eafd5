use Rattle.std.proofs.Common.{◌≡◌, ◌<◌, ◌≤◌, ◌-◌, ℕ, [], get_or, length, true}
use Rattle.link_base.specs.Words.{comes_before}
use Rattle.link_base.proofs.rising_ids.find_rising.Given as goal

abbrev pub invariant-halves : goal.invariant-halves
invariant-halves l = record {
  ordered : l.low ≤ l.high;
  inside : l.high ≤ length l.ids;
  below : (k : ℕ) → k < l.low → comes_before (get_or l.ids k []) l.id ≡ true;
  above : (k : ℕ) → l.high ≤ k → k < length l.ids → comes_before l.id (get_or l.ids k []) ≡ true;
}

abbrev pub decreases-halves : goal.decreases-halves
decreases-halves l = l.high - l.low
