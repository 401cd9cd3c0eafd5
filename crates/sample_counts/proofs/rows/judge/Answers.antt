use Rattle.std.proofs.Common.{◌++◌, ◌∷◌, ◌∙◌, ◌<◌, [], ℕ, List, ap, arith, get_or, map, sym}
use Rattle.std.proofs.lemmas.List.{map_more}
use Rattle.std.proofs.lemmas.List.Elements.{All-push}
use Rattle.patterns.specs.Patterns.{pattern_count_by}
use Rattle.sample_counts.specs.Counts.{judged_by}
use Rattle.sample_counts.specs.declared.counts.Judged.{Judged}
use Rattle.sample_counts.specs.declared.reviewed.Reviewed.{Reviewed}
use Rattle.sample_counts.proofs.rows.judge.Goals as goal

pub loop-pair-preserved : goal.loop-pair-preserved
loop-pair-preserved g c =
    let judged : Reviewed → Judged = judged_by g.C.Comparator.is_rare g.C.Comparator.outcome_of c.args.kinds.now (g.T.Sides.all c.args.sides_a.now) (g.T.Sides.all c.args.sides_b.now) in
    let number = rw (c.sides-of_a.ensures, c.sides-of_b.ensures) at c.pattern_over-pattern.ensures.number in
    let pair : Reviewed = get_or c.args.sample.now c.loop-pair.pair-index _ in
    let new = c.in_ok-push.ensures.items in
    record {
      rows =
          new ∙ ap (λ (pattern : ℕ). c.loop-pair.rows.items ++ record { matched = pair.matched; pattern = pattern } ∷ []) number
          ∙ ap (λ (rows : List Judged). rows ++ judged pair ∷ []) c.loop-pair.invariant.rows ∙ sym (map_more judged c.args.sample.now c.loop-pair.pair-index _ (omega arith));
      in_shape = rw new (All-push (λ (row : Judged). row.pattern < pattern_count_by (map g.C.Comparator.is_rare c.args.kinds.now)) c.loop-pair.rows.items _ c.loop-pair.invariant.in_shape c.pattern_over-pattern.ensures.range);
    }
