use Rattle.std.proofs.Common.{◌≡◌, drop, find, not}
use Rattle.std.specs.Str.{is_utf8}
use Rattle.csv.specs.Records.{fields_of}
use Rattle.file_reader.specs.Words.{cell}
use Rattle.file_reader.proofs.rows.test_utf8.Given as goal

abbrev pub invariant-loop-needed : goal.invariant-loop-needed
invariant-loop-needed l = find (λ c. not (is_utf8 (cell (fields_of l.row) c))) (drop l.needed-index l.head.columns.items) ≡ find (λ c. not (is_utf8 (cell (fields_of l.row) c))) l.head.columns.items
