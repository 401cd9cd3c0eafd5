use Rattle.std.proofs.Common.{◌≡◌, ◌≤◌, ℕ, false, length, map, take, get_or}
use Rattle.patterns.proofs.numbers.shape_of.Given as goal

abbrev pub invariant-loop-i : goal.invariant-loop-i
invariant-loop-i g l = record {
  size : length l.rare ≡ 6;
  front : take l.i l.rare ≡ map g.C.Comparator.is_rare (take l.i l.kinds);
  unused : (k : ℕ) → l.i ≤ k → get_or l.rare k false ≡ false;
}
