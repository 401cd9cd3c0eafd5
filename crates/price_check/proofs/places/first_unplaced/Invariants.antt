use Rattle.std.proofs.Common.{◌≡◌, ℕ, ◌<◌, length}
use Rattle.price_check.specs.Search.{AreUsed}
use Rattle.price_check.specs.Verdict.{HasPlace}
use Rattle.price_check.proofs.places.first_unplaced.Given as goal

abbrev pub invariant-loop-i : goal.invariant-loop-i
invariant-loop-i l = record {
  placed : (k : ℕ) → k < l.i → HasPlace l.capacity l.links k;
  used : AreUsed l.used.items l.links l.i;
  records : length l.used.items ≡ length l.capacity;
}
