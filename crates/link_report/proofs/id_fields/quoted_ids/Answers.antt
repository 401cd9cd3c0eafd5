use Rattle.std.proofs.Common.{◌∙◌, ◌++◌, ◌∷◌, ℕ, List, [], ap, arith, sym}
use Rattle.std.proofs.lemmas.List.{map_more, take_all}
use Rattle.csv.specs.Writing.{default_writer, field_text}
use Rattle.link_base.specs.Words.{Record, no_record}
use Rattle.link_report.specs.LineParts.{id_fields}
use Rattle.link_report.proofs.id_fields.quoted_ids.Goals as goal

pub loop-at-preserved : goal.loop-at-preserved
loop-at-preserved c =
    let id : Record → List ℕ = λ r. field_text default_writer r.id in
    let at = c.loop-at.at in
    c.in_ok-push_id.ensures ∙ (λ i. c.loop-at.invariant i ++ field_text default_writer (c.id.ensures i) ∷ [])
    ∙ sym (map_more id c.args.file.now at no_record (omega (arith, c.rows-at-end.ensures)))

pub returns : goal.returns
returns c = c.loop-at.invariant ∙ ap id_fields (take_all c.loop-at.at c.args.file.now (omega (arith, c.rows-at-end.ensures)))
