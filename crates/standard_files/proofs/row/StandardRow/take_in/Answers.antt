use Rattle.std.proofs.Common.{◌≡◌, ◌<◌, ◌∙◌, [], ap, arith, get_or, length, length-append}
use Rattle.std.proofs.lemmas.List.Elements.{All-push}
use Rattle.link_base.specs.Words.{WrittenRows, IsValid}
use Rattle.standard_files.specs.Values.{standard_values, unreadable_from, unreadable_in_row}
use Rattle.standard_files.proofs.SortFacts.{first_more, few_more, unreadable_more, values_more, within_more}
use Rattle.standard_files.proofs.row.StandardRow.take_in.Goals as goal

pub add_value-requires : goal.add_value-requires
add_value-requires c = rw c.loop-column.invariant.rows (omega (arith, c.loop-column.invariant.count, c.loop-column-test.true, c.requires.room))

pub loop-column-preserved : goal.loop-column-preserved
loop-column-preserved c =
    let t = c.args.tables.now in
    let sorts = c.args.sorts.now in
    let texts = c.args.row.now in
    let at = c.loop-column.column in
    let old = c.loop-column.self in
    let new = c.note.new.self in
    let values = c.loop-column.rows.row in
    let inv = c.loop-column.invariant in
    let made = c.in_ok-told.ensures in
    let in_texts : at < length texts = omega (arith, c.requires.width) in
    let text : c.text_of-text.result.now ≡ get_or texts at [] = c.text_of-text.ensures ∙ c.field.ensures in
    let added = rw text at made.value in
    let value = ap (λ (w : WrittenRows). w.row) added in
    let unreadable = rw text at made.unreadable in
    let count = rw unreadable at c.note.ensures.unreadable in
    let first = rw unreadable at c.note.ensures.first in
    record {
      rows = ap (λ (w : WrittenRows). w.rows) added ∙ inv.rows;
      count = ap length value ∙ length-append values _ ∙ omega (arith, inv.count);
      few = few_more t sorts texts at _ c.loop-column-test.true in_texts old.unreadable new.unreadable count inv.few;
      within = within_more t sorts texts at _ c.loop-column-test.true in_texts old.first new.first first inv.within;
      values = values_more t sorts texts at _ c.loop-column-test.true in_texts values c.add_value.new.rows.row (standard_values t sorts texts) value inv.values;
      unreadable = unreadable_more t sorts texts at _ c.loop-column-test.true in_texts old.unreadable new.unreadable (unreadable_in_row t sorts texts) count inv.unreadable;
      first = first_more t sorts texts at _ c.loop-column-test.true in_texts old.first new.first (unreadable_from t 0 sorts texts) first inv.first;
      valid = rw value (All-push IsValid values _ inv.valid (rw text at made.valid));
    }
