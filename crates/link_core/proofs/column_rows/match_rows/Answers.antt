use Rattle.std.proofs.Common.{◌≡◌, ◌≤◌, ◌∙◌, Ok, ap, arith, length, map, sym}
use Rattle.block_passes.specs.Keys.{rows_with_number}
use Rattle.block_passes.specs.Numbering.{no_number}
use Rattle.link_base.specs.declared.fault.FileRole.TheVariants as role
use Rattle.link_core.specs.Pairs.{column_of}
use Rattle.link_core.proofs.ResultLemmas.{columns_read, rows_matched}
use Rattle.link_core.proofs.column_rows.match_rows.Goals as goal

pub returns-clause-answer : goal.returns-clause-answer
returns-clause-answer c =
    let a = c.in-Ok.ensures.answer in
    let b = c.in-Ok-number_column.ensures.answer in
    let of_a = c.in-Ok.numbers in
    let of_b = c.in-Ok-number_column.numbers in
    let few : length of_b.pool.texts ≤ no_number = omega (arith, c.len-count.ensures, c.len-count.type_inv) in
    let told_a : column_of role.A c.args.column.now c.args.a ≡ Ok a.0 = ap (column_of role.A c.args.column.now) (sym c.bytes.ensures) ∙ a.1 in
    let told_b : column_of role.B c.args.column.now c.args.b ≡ Ok b.0 = ap (column_of role.B c.args.column.now) (sym c.bytes-2.ensures) ∙ b.1 in
    let rows =
    (λ i. map (rows_with_number (c.deref.ensures.value i) (c.len-count.ensures i)) of_a.numbers.items)
    ∙ rows_matched of_a.pool.texts of_b.pool.texts a.0 b.0 of_a.numbers.items of_b.numbers.items few a.2.numbers a.2.numbered b.2.kept b.2.numbers b.2.numbered in
    columns_read (column_of role.A c.args.column.now c.args.a) (column_of role.B c.args.column.now c.args.b) a.0 b.0 told_a told_b ∙ ap Ok (sym (c.in_ok-rows.ensures ∙ rows))
