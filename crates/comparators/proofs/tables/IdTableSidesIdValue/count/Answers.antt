use Rattle.std.proofs.Common.{sym}
use Rattle.comparators.proofs.RowLemmas.{length-rows}
use Rattle.comparators.proofs.tables.IdTableSidesIdValue.count.Goals as goal

pub returns : goal.returns
returns c = rw (← c.self.view_is) (sym (length-rows c.self.inside.fields c.self.inside.rows c.self.inside.values.items))
