use Rattle.std.proofs.Common.{[], arith}
use Rattle.csv.specs.Records.{fields_of}
use Rattle.file_reader.specs.Words.{column_in}
use Rattle.file_reader.proofs.FindFacts.{made_more}
use Rattle.file_reader.proofs.header.find_columns.Goals as goal

pub loop-name-preserved : goal.loop-name-preserved
loop-name-preserved c =
    made_more (column_in (fields_of c.args.row.now)) [] c.loop-name.columns.items c.push_column.new.columns.items c.args.names.now c.loop-name.name-index c.name-item.result (omega arith) c.loop-name.invariant (rw (← c.name-item.is) c.in_ok-push_column.ensures)
