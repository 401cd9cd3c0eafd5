use Rattle.std.proofs.Common.{◌≤◌, ◌<◌, ◌∙◌, arith, length, sym}
use Rattle.file_reader.proofs.RowFacts.{id_at, length_table, no_id_at}
use Rattle.file_reader.proofs.table.Table.id.Goals as goal

pub returns-then-at-len : goal.returns-then-at-len
returns-then-at-len c =
    let within : c.args.at < c.self.inside.rows = rw (← c.self.view_is, length_table c.self.inside.rows c.self.inside.width c.self.inside.cells c.self.inside.ids) at c.requires in
    rw (← c.self.view_is) (c.id.ensures ∙ sym (id_at c.self.inside.rows c.self.inside.width c.self.inside.cells c.self.inside.ids c.args.at within))

pub returns-else-at-len : goal.returns-else-at-len
returns-else-at-len c =
    let within : c.args.at < c.self.inside.rows = rw (← c.self.view_is, length_table c.self.inside.rows c.self.inside.width c.self.inside.cells c.self.inside.ids) at c.requires in
    let past : length c.self.inside.ids ≤ c.args.at = omega (arith, c.if-at-len.false, c.len.ensures) in
    rw (← c.self.view_is) (sym (no_id_at c.self.inside.rows c.self.inside.width c.self.inside.cells c.self.inside.ids c.args.at within past))
