use Rattle.std.proofs.Common.{◌≡◌, ◌*◌, take, pos, neg_ℤ, ◌≤ℤ◌}
use Rattle.link_limits.specs.declared.TheConstants.{MOST_CAPACITY, MOST_VALUE}
use Rattle.price_check.specs.Assignment.{place_sum}
use Rattle.price_check.proofs.places.place_total.Given as goal

abbrev pub invariant-loop-i : goal.invariant-loop-i
invariant-loop-i l = record {
  value : l.sum ≡ place_sum (take l.i l.capacity) (take l.i l.prices);
  low : neg_ℤ (pos (MOST_CAPACITY * MOST_VALUE * l.i)) ≤ℤ l.sum;
  high : l.sum ≤ℤ pos (MOST_CAPACITY * MOST_VALUE * l.i);
}
