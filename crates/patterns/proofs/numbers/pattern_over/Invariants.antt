use Rattle.std.proofs.Common.{◌≡◌, ◌+◌, ◌*◌, map, drop}
use Rattle.patterns.specs.Patterns.{pattern_count_by, number_of, outcomes}
use Rattle.patterns.proofs.numbers.pattern_over.Given as goal

abbrev pub invariant-loop-i : goal.invariant-loop-i
invariant-loop-i g l =
    let c = g.C.Comparator in
    l.number * pattern_count_by (map c.is_rare (drop l.i l.kinds)) + number_of (map c.is_rare (drop l.i l.kinds)) (outcomes c.outcome_of (drop l.i l.kinds) (drop l.i l.a) (drop l.i l.b))
    ≡ number_of (map c.is_rare l.kinds) (outcomes c.outcome_of l.kinds l.a l.b)
