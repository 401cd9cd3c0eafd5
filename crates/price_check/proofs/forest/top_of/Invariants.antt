use Rattle.std.proofs.Common.{◌≡◌, ℕ, ◌<◌, ◌≤◌, length}
use Rattle.price_check.specs.Forest.{PointsUp, top}
use Rattle.price_check.proofs.forest.top_of.Given as goal

abbrev pub invariant-loop-up : goal.invariant-loop-up
invariant-loop-up l = record {
  earlier : PointsUp l.up;
  within : l.x < length l.up;
  low : l.x ≤ l.from;
  at : top l.up l.x ≡ top l.fn.up l.from;
  kept : (y : ℕ) → top l.up y ≡ top l.fn.up y;
}

abbrev pub decreases-loop-up : goal.decreases-loop-up
decreases-loop-up l = l.x
