use Rattle.std.proofs.Common.{sym}
use Rattle.file_reader.proofs.RowFacts.{length_table}
use Rattle.file_reader.proofs.table.Table.rows.Goals as goal

pub returns : goal.returns
returns c = rw (← c.self.view_is) (sym (length_table c.self.inside.rows c.self.inside.width c.self.inside.cells c.self.inside.ids))
