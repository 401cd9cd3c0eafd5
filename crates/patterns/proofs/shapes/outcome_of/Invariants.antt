use Rattle.std.proofs.Common.{◌≡◌, ◌-◌, drop}
use Rattle.patterns.specs.Patterns.{outcome_at}
use Rattle.patterns.proofs.shapes.outcome_of.Given as goal

abbrev pub invariant-loop-i : goal.invariant-loop-i
invariant-loop-i l = outcome_at (drop l.i l.fields) l.rest (l.place - l.i) ≡ outcome_at l.fields l.pattern l.place
