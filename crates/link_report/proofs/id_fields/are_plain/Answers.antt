use Rattle.std.proofs.Common.{◌≡◌, ◌∙◌, List, ℕ, ap, arith, false, get_or, refl, sym, take_all}
use Rattle.std.proofs.lemmas.List.Elements.{All-more}
use Rattle.csv.specs.Writing.{default_writer, field_text, needs_quotes}
use Rattle.link_base.specs.Words.{no_record, Record}
use Rattle.link_report.proofs.id_fields.are_plain.Goals as goal

plain : (id : List ℕ) → needs_quotes default_writer id ≡ false → field_text default_writer id ≡ id
plain id none = rw none refl

pub loop-at-preserved : goal.loop-at-preserved
loop-at-preserved c =
    let file = c.args.file.now in
    let at = c.loop-at.at in
    let id = (get_or file at no_record).id in
    let none : needs_quotes default_writer id ≡ false = ap (needs_quotes default_writer) (sym c.id.ensures) ∙ sym c.calls_for_quotes.ensures ∙ c.if-calls_for_quotes.false in
    All-more (λ (r : Record). field_text default_writer r.id ≡ r.id) file at no_record (omega (arith, c.rows-at-end.ensures)) c.loop-at.invariant (plain id none)

pub returns : goal.returns
returns c = λ yes. rw (take_all c.loop-at.at c.args.file.now (omega (arith, c.rows-at-end.ensures))) at c.loop-at.invariant
