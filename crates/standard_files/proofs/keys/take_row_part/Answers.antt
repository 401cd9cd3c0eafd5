use Rattle.std.proofs.Common.{◌≡◌, ◌∙◌, ◌<◌, ℕ, Option, Some, ap, arith, get_or, length, option_to_list, refl, subst, sym}
use Rattle.std.proofs.lemmas.List.{get_or_read_under}
use Rattle.block_passes.specs.Keys.{part_id, part_key}
use Rattle.comparators.specs.Fields.{id_in}
use Rattle.comparators.specs.declared.ids.IdValue.TheVariants as id
use Rattle.link_base.specs.Words.{absent_value}
use Rattle.value_forms.specs.Canons.{canon_by}
use Rattle.standard_files.specs.Taking.{IsIdOf, InLater, TakesTexts}
use Rattle.standard_files.specs.Sides.{standard_text}
use Rattle.standard_files.proofs.TakingLemmas.{canon-held, takes-held}
use Rattle.standard_files.proofs.KnownLemmas.{holds-more, id-part, known-part, id-taken, ids-at, ids-many}
use Rattle.standard_files.proofs.keys.take_row_part.Goals.{In-Some}
use Rattle.standard_files.proofs.keys.take_row_part.Goals as goal

pub bounds-texts-field : goal.bounds-texts-field
bounds-texts-field c = omega (arith, c.requires.within, c.requires.known.as_many, ids-many c.args.pool.now.texts c.args.row.now c.args.texts.now c.requires.known.texts)

-- the part that is a standard text has its id
text-id : (c : In-Some) → IsIdOf c.args.pool.now.texts (part_key c.args.row.now c.args.part) (Some c.in-Some.text)
text-id c =
    let held = c.args.pool.now.texts in
    let row = c.args.row.now in
    let v = get_or row c.args.part.field absent_value in
    let text = c.index-texts-field.result in
    let within : c.args.part.field < length row = omega (arith, c.requires.within, c.requires.known.as_many) in
    c.in-Some.ensures held v (subst (IsIdOf held (standard_text v)) (sym (c.get.ensures ∙ c.index-texts-field.is)) (ids-at held row c.args.texts.now c.args.part.field absent_value text within c.requires.known.texts))

pub returns-in-Some : goal.returns-in-Some
returns-in-Some c =
    let pool = c.args.pool.now in
    let key = part_key c.args.row.now c.args.part in
    record {
      limit = refl;
      taken = id-taken pool.limit pool.texts key (Some c.in-Some.text) (text-id c);
      holds = λ final e. id-part pool.texts final key (Some c.in-Some.text) e (text-id c);
    }

pub returns-then-is_canon : goal.returns-then-is_canon
returns-then-is_canon c =
    let pool = c.args.pool.now in
    let kinds = c.args.kinds.now in
    let row = c.args.row.now in
    let sides = c.args.sides.now in
    let part = c.args.part in
    let canon = c.is_canon.ensures.canon c.if-is_canon.true in
    let side = get_or_read_under sides part.field (length sides) c.index-sides-field.result id.Absent c.index-sides-field.is (omega (arith, c.requires.within, c.requires.known.width)) refl in
    record {
      limit = refl;
      taken = takes-held pool.limit pool.texts (part_key row part)
          (canon-held kinds row part.field part.key pool.texts c.requires.within c.requires.known.as_many (canon (get_or row part.field absent_value)) c.requires.known.canons);
      holds = λ final e.
          known-part pool.texts final kinds row c.args.texts.now sides part c.requires.within canon (c.is_canon.ensures.by_id c.if-is_canon.true) e c.requires.known
          ∙ ap id_in (sym side) ∙ sym c.id_of_side.ensures;
    }

pub returns : goal.returns
returns c =
    let pool = c.args.pool.now in
    let new = c.take_part.new.pool in
    let row = c.args.row.now in
    let part = c.args.part in
    let key = part_key row part in
    holds-more pool new (option_to_list key) (IsIdOf new.texts key) (λ (id : Option ℕ). InLater new.texts (λ final. part_id final row part ≡ id)) c.take_part.result (λ id h final e. id-part new.texts final key id e h)
    (subst (λ v. TakesTexts pool new (option_to_list (canon_by part.key v)) (IsIdOf new.texts (canon_by part.key v)) c.take_part.result) c.value.ensures c.take_part.ensures)
