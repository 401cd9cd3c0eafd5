use Rattle.std.proofs.Common.{◌∙◌, ap, sym, Ok, is_some}
use Rattle.file_reader.specs.Words.{records_in, table_of, wanted_of, HasCells, table_sound}
use Rattle.file_reader.proofs.RowFacts.{table_taken, taken_ids}
use Rattle.file_reader.proofs.rows.read_table.Goals as goal

pub new-requires-clause-ids : goal.new-requires-clause-ids
new-requires-clause-ids c =
    taken_ids (is_some c.args.layout.now.id) c.args.layout.now.most_rows (HasCells c.read_rows.new.taker.width c.read_rows.new.taker.cells) c.in-Ok.told.rows c.in-Ok.told.ids
    (table_of c.args.role (wanted_of c.args.layout.now) (records_in c.args.layout.now.delimiter c.args.bytes.now)) c.in-Ok.ensures.answer

pub returns-in-Ok-clause-sound : goal.returns-in-Ok-clause-sound
returns-in-Ok-clause-sound c =
    let records = records_in c.args.layout.now.delimiter c.args.bytes.now in
    let wanted = wanted_of c.args.layout.now in
    table_sound c.args.role wanted records c.new.result
    (table_taken (is_some c.args.layout.now.id) c.args.layout.now.most_rows c.read_rows.new.taker.width c.in-Ok.told.rows c.read_rows.new.taker.cells c.in-Ok.told.ids (table_of c.args.role wanted records) c.in-Ok.ensures.answer
    ∙ ap Ok (sym c.new.ensures))
