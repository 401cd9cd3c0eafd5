use Rattle.std.proofs.Common.{◌++◌, ◌∷◌, [], ◌∙◌, ℕ, List, ap, append_assoc, arith, take_all}
use Rattle.csv.specs.Writing.{default_writer, field_text}
use Rattle.link_base.specs.Words.{id_at}
use Rattle.link_report.specs.LineParts.{two_fields}
use Rattle.link_report.proofs.HeaderLemmas.{rows_more}
use Rattle.link_report.proofs.ids.push_lines.Goals as goal

pub loop-partner-preserved : goal.loop-partner-preserved
loop-partner-preserved c =
    let first = c.args.first.now in
    let line : ℕ → List ℕ = λ j. two_fields first (field_text default_writer (id_at c.args.b.now j)) ++ 10 ∷ [] in
    let old = c.loop-partner.text.items in
    let more =
    c.in_ok-push.ensures.items ∙ ap (λ (t : List ℕ). t ++ 10 ∷ []) c.in_ok-push_two.ensures ∙ append_assoc old (two_fields first c.field.result.now) (10 ∷ [])
    ∙ ap (λ field. old ++ (two_fields first field ++ 10 ∷ [])) c.field.ensures in
    rows_more line c.args.text.now.items old c.push.new.self.items c.args.partners.now c.loop-partner.partner-index 0 (omega arith) c.loop-partner.invariant more

pub returns : goal.returns
returns c = rw (take_all c.loop-partner.partner-index c.args.partners.now c.loop-partner-test.false) at c.loop-partner.invariant
