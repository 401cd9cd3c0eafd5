use Rattle.std.proofs.Common.{◌≡◌, drop, find, ◌==◌}
use Rattle.csv.specs.Records.{fields_of}
use Rattle.file_reader.specs.Words.{count_in}
use Rattle.file_reader.proofs.header.test_missing.Given as goal

abbrev pub invariant-loop-name : goal.invariant-loop-name
invariant-loop-name l = find (λ name. count_in (fields_of l.row) name == 0) (drop l.name-index l.names) ≡ find (λ name. count_in (fields_of l.row) name == 0) l.names
