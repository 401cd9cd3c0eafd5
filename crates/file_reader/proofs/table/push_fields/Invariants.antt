use Rattle.std.proofs.Common.{◌≡◌, ◌++◌, drop}
use Rattle.file_reader.proofs.table.push_fields.Given as goal

abbrev pub invariant-loop-at : goal.invariant-loop-at
invariant-loop-at l = l.cells ++ drop l.at l.row ≡ l.fn.cells ++ l.row
