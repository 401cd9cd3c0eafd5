use Rattle.std.proofs.Common.{◌≡◌, drop, length, find, nat_lt}
use Rattle.csv.specs.Records.{fields_of}
use Rattle.link_limits.specs.declared.TheConstants.{MOST_FIELD_BYTES}
use Rattle.file_reader.specs.Words.{cell}
use Rattle.file_reader.proofs.rows.test_lengths.Given as goal

abbrev pub invariant-loop-needed : goal.invariant-loop-needed
invariant-loop-needed l = find (λ c. nat_lt MOST_FIELD_BYTES (length (cell (fields_of l.row) c))) (drop l.needed-index l.head.columns.items) ≡ find (λ c. nat_lt MOST_FIELD_BYTES (length (cell (fields_of l.row) c))) l.head.columns.items
