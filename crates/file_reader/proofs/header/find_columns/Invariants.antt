use Rattle.std.proofs.Common.{◌≡◌, take}
use Rattle.csv.specs.Records.{fields_of}
use Rattle.file_reader.specs.Words.{columns_of}
use Rattle.file_reader.proofs.header.find_columns.Given as goal

abbrev pub invariant-loop-name : goal.invariant-loop-name
invariant-loop-name l = l.columns.items ≡ columns_of (take l.name-index l.names) (fields_of l.row)
