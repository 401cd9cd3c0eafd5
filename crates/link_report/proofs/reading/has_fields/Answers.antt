use Rattle.std.proofs.Common.{◌≡◌, ◌∙◌, [], Bool, true, false, List, ap, arith, get_or, map, not, refl, sym, ℕ, bytes_eq}
use Rattle.std.proofs.lemmas.List.{get_or-map, length-map}
use Rattle.csv.specs.Records.{fields_of}
use Rattle.link_report.proofs.HeaderLemmas.{differ_at, differ_length, same_more}
use Rattle.link_report.proofs.reading.has_fields.Goals as goal

is_true : (t u : Bool) → u ≡ false → u ≡ not t → t ≡ true
is_true true u h e = refl
is_true false u h e = cc (h, e)

is_false : (t u : Bool) → u ≡ true → u ≡ not t → t ≡ false
is_false true u h e = cc (h, e)
is_false false u h e = refl

pub returns-then-len-fields : goal.returns-then-len-fields
returns-then-len-fields c =
    sym (differ_length (fields_of c.args.row.now) (map (λ field. field.now) c.args.fields.now) (λ e. c.if-len-fields.true (c.len.ensures ∙ e ∙ length-map c.args.fields.now (λ field. field.now))))

pub returns-then-ne : goal.returns-then-ne
returns-then-ne c =
    let own = get_or (map (λ field. field.now) c.args.fields.now) c.loop-at.at [] in
    let same : own ≡ (get_or c.args.fields.now c.loop-at.at (record { ref_ptr = (0, 0); now = [] })).now = get_or-map (λ field. field.now) c.args.fields.now c.loop-at.at (record { ref_ptr = (0, 0); now = [] }) [] c.loop-at-test.true in
    let differs = is_false (bytes_eq c.field_of.result.now (get_or c.args.fields.now c.loop-at.at (record { ref_ptr = (0, 0); now = [] })).now) c.ne.result c.if-ne.true c.ne.ensures in
    sym (differ_at (fields_of c.args.row.now) (map (λ field. field.now) c.args.fields.now) c.loop-at.at [] (ap (λ (f : List ℕ). bytes_eq f own) (sym c.field_of.ensures) ∙ ap (bytes_eq c.field_of.result.now) same ∙ differs))

pub loop-at-preserved : goal.loop-at-preserved
loop-at-preserved c =
    let own = get_or (map (λ field. field.now) c.args.fields.now) c.loop-at.at [] in
    let same : own ≡ (get_or c.args.fields.now c.loop-at.at (record { ref_ptr = (0, 0); now = [] })).now = get_or-map (λ field. field.now) c.args.fields.now c.loop-at.at (record { ref_ptr = (0, 0); now = [] }) [] c.loop-at-test.true in
    let agrees = is_true (bytes_eq c.field_of.result.now (get_or c.args.fields.now c.loop-at.at (record { ref_ptr = (0, 0); now = [] })).now) c.ne.result c.if-ne.false c.ne.ensures in
    same_more (fields_of c.args.row.now) (map (λ field. field.now) c.args.fields.now) c.loop-at.at [] (omega (arith, c.len.ensures, c.if-len-fields.false, c.loop-at-test.true)) (omega (arith, length-map c.args.fields.now (λ field. field.now), c.loop-at-test.true))
    (ap (λ (f : List ℕ). bytes_eq f own) (sym c.field_of.ensures) ∙ ap (bytes_eq c.field_of.result.now) same ∙ agrees)
    ∙ c.loop-at.invariant
