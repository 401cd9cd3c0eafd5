use Rattle.std.proofs.Common.{◌∙◌, ap, map, refl}
use Rattle.sample_counts.specs.declared.reviewed.Reviewed.{Reviewed}
use Rattle.sample_counts.specs.declared.counts.Judged.{Judged}
use Rattle.sample_counts.specs.Counts.{judged_by}
use Rattle.sample_counts.proofs.Lemmas.{are-judged, inside_sides, read_outcomes}
use Rattle.sample_counts.proofs.rows.count_sample_over.Goals as goal

pub new-requires : goal.new-requires
new-requires g c =
    let judged : Reviewed → Judged = judged_by g.C.Comparator.is_rare g.C.Comparator.outcome_of c.args.kinds.now (g.T.Sides.all c.args.sides_a.now) (g.T.Sides.all c.args.sides_b.now) in
    rw c.shape_of.ensures.rare (are-judged (map g.C.Comparator.is_rare c.args.kinds.now) judged (λ r. refl) c.in-Ok.sample.items c.in-Ok-judge.rows.items (c.in-Ok-judge.ensures.rows ∙ ap (map judged) c.deref.ensures.value) c.in-Ok.ensures.is.few c.in-Ok.ensures.is.matched c.in-Ok.ensures.is.unmatched c.in-Ok-judge.ensures.in_shape)

pub returns-in-Ok-judge-clause-outcomes : goal.returns-in-Ok-judge-clause-outcomes
returns-in-Ok-judge-clause-outcomes g c = λ sample read.
    let laws = g.met.C.Comparator.laws in
    let all_a = g.T.Sides.all c.args.sides_a.now in
    let all_b = g.T.Sides.all c.args.sides_b.now in
    let judged : Reviewed → Judged = judged_by g.C.Comparator.is_rare g.C.Comparator.outcome_of c.args.kinds.now all_a all_b in
    read_outcomes g.C.Comparator.is_rare g.C.Comparator.outcome_of g.C.Comparator.is_valid (λ k. (laws k).only_rare) c.args.kinds.now all_a all_b c.requires.sides_a c.requires.sides_b
    _ c.in-Ok.sample.items sample c.new.result c.in-Ok.ensures.answer
    (inside_sides c.in-Ok.sample.items _ _ _ _ c.requires.rows_a c.requires.rows_b c.in-Ok.ensures.is.in_files)
    (c.new.ensures.rares ∙ c.shape_of.ensures.rare)
    (c.new.ensures.rows ∙ c.in-Ok-judge.ensures.rows ∙ ap (map judged) c.deref.ensures.value)
    read
