use Rattle.std.proofs.Common.{◌≡◌, ◌++◌, drop}
use Rattle.csv.specs.Writing.{default_writer, escaped}
use Rattle.csv_rows.proofs.fields.push_escaped.Given as goal

abbrev pub invariant-loop-byte : goal.invariant-loop-byte
invariant-loop-byte l =
    l.line.items ++ escaped default_writer (drop l.byte-index l.field) ≡ l.fn.line.items ++ escaped default_writer l.field
