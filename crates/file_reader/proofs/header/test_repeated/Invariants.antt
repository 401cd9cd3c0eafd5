use Rattle.std.proofs.Common.{◌≡◌, drop, find, nat_lt}
use Rattle.csv.specs.Records.{fields_of}
use Rattle.file_reader.specs.Words.{count_in}
use Rattle.file_reader.proofs.header.test_repeated.Given as goal

abbrev pub invariant-loop-name : goal.invariant-loop-name
invariant-loop-name l = find (λ name. nat_lt 1 (count_in (fields_of l.row) name)) (drop l.name-index l.names) ≡ find (λ name. nat_lt 1 (count_in (fields_of l.row) name)) l.names
