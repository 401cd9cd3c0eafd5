use Rattle.std.proofs.Common.{◌≡◌, ◌<◌, All, map, take}
use Rattle.patterns.specs.Patterns.{pattern_count_by}
use Rattle.sample_counts.specs.declared.counts.Judged.{Judged}
use Rattle.sample_counts.specs.Counts.{judged_by}
use Rattle.sample_counts.proofs.rows.judge.Given as goal

abbrev pub invariant-loop-pair : goal.invariant-loop-pair
invariant-loop-pair g l = record {
  rows : l.rows.items ≡ map (judged_by g.C.Comparator.is_rare g.C.Comparator.outcome_of l.kinds (g.T.Sides.all l.sides_a) (g.T.Sides.all l.sides_b)) (take l.pair-index l.sample);
  in_shape : All (λ (row : Judged). row.pattern < pattern_count_by (map g.C.Comparator.is_rare l.kinds)) l.rows.items;
}
