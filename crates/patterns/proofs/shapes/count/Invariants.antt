use Rattle.std.proofs.Common.{◌≡◌, ◌*◌, drop}
use Rattle.patterns.specs.Patterns.{pattern_count_by}
use Rattle.patterns.proofs.shapes.count.Given as goal

abbrev pub invariant-loop-rare : goal.invariant-loop-rare
invariant-loop-rare l = l.count * pattern_count_by (drop l.rare-index l.fields) ≡ pattern_count_by l.fields
