use Rattle.std.proofs.Common.{◌<◌, ◌∙◌, arith, sym}
use Rattle.file_reader.proofs.RowFacts.{count_at, field_at, length_table}
use Rattle.file_reader.proofs.table.Table.field.Goals as goal

pub cell_of-requires-clause-row : goal.cell_of-requires-clause-row
cell_of-requires-clause-row c =
    rw (← c.self.view_is, length_table c.self.inside.rows c.self.inside.width c.self.inside.cells c.self.inside.ids) at c.requires.row

pub cell_of-requires-clause-place : goal.cell_of-requires-clause-place
cell_of-requires-clause-place c =
    let within : c.args.at < c.self.inside.rows = rw (← c.self.view_is, length_table c.self.inside.rows c.self.inside.width c.self.inside.cells c.self.inside.ids) at c.requires.row in
    let count = count_at c.self.inside.rows c.self.inside.width c.self.inside.cells c.self.inside.ids c.args.at c.self.invariant.0 within in
    let column = rw (← c.self.view_is) at c.requires.column in
    omega (arith, count, column)

pub returns : goal.returns
returns c =
    let within : c.args.at < c.self.inside.rows = rw (← c.self.view_is, length_table c.self.inside.rows c.self.inside.width c.self.inside.cells c.self.inside.ids) at c.requires.row in
    rw (← c.self.view_is) (c.cell_of.ensures ∙ sym (field_at c.self.inside.rows c.self.inside.width c.self.inside.cells c.self.inside.ids c.args.at c.args.column within))
