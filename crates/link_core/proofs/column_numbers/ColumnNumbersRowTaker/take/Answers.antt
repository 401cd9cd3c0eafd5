use Rattle.std.proofs.Common.{◌∙◌, [], ap, arith, length, subst, rules}
use Rattle.block_passes.specs.Numbering.{IsNumbered, number_among}
use Rattle.link_core.specs.Pairs.{present}
use Rattle.link_core.proofs.ResultLemmas.{row_numbered}
use Rattle.link_core.proofs.column_numbers.ColumnNumbersRowTaker.take.Goals as goal

pub number_field-requires : goal.number_field-requires
number_field-requires c =
    let size = ap length c.field.ensures in
    let short = (c.requires.texts 0 [] (omega (arith, c.requires.fields))).short in
    let taken = c.requires.room.1.1 in
    omega (arith, size, short, taken.used, taken.room, taken.limit, c.requires.room.1.2)

pub returns-clause-one_more : goal.returns-clause-one_more
returns-clause-one_more c before rows h =
    let new = c.number_field.new.pool in
    let short = (c.requires.texts 0 [] (omega (arith, c.requires.fields))).short in
    let made = c.in_ok-number.ensures in
    row_numbered before.pool c.args.self.now.pool new rows c.args.row.now c.args.self.now.numbers.items c.push.new.self.items c.in_ok-number.number h short
    c.number_field.ensures.limit (omega (arith, made.used, ap length c.field.ensures)) made.kept (made.number ∙ ap (λ f. number_among new.texts (present f)) c.field.ensures)
    (subst (λ f. IsNumbered new.texts (present f)) c.field.ensures made.numbered) (search (rules, c.in_ok-push.ensures.items))
