use Rattle.std.proofs.Common.{◌≤◌}
use Rattle.file_reader.proofs.room.lines_in.Given as goal

abbrev pub invariant-loop-byte : goal.invariant-loop-byte
invariant-loop-byte l = l.lines ≤ l.byte-index
