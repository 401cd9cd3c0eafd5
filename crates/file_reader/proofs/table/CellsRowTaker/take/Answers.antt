use Rattle.file_reader.proofs.RowFacts.{cells_more}
use Rattle.file_reader.proofs.table.CellsRowTaker.take.Goals as goal

pub returns-clause-one_more : goal.returns-clause-one_more
returns-clause-one_more c before rows h =
    cells_more c.args.self.now.width c.args.self.now.cells c.push_fields.new.cells c.args.row.now rows h c.requires.fields c.in_ok-push_fields.ensures
