use Rattle.std.proofs.Common.{◌∙◌, sym}
use Rattle.file_reader.proofs.RowFacts.{cell_in}
use Rattle.file_reader.proofs.table.cell_of.Goals as goal

pub returns : goal.returns
returns c =
    c.get.ensures ∙ sym (cell_in c.args.rows c.args.width c.args.cells.now c.args.at c.args.place c.requires.whole c.requires.row c.requires.place)
