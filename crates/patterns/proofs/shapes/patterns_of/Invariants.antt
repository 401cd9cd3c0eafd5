use Rattle.std.proofs.Common.{◌≡◌, length, take}
use Rattle.patterns.specs.Patterns.{rare_in}
use Rattle.patterns.proofs.shapes.patterns_of.Given as goal

abbrev pub invariant-loop-i : goal.invariant-loop-i
invariant-loop-i l = (length l.rare ≡ 6) × (take l.i l.rare ≡ rare_in (take l.i l.shares))
