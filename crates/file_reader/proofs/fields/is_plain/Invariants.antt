use Rattle.std.proofs.Common.{◌<◌, ℕ, get_or}
use Rattle.file_reader.proofs.fields.is_plain.Given as goal

abbrev pub invariant-loop-byte : goal.invariant-loop-byte
invariant-loop-byte l = (k : ℕ) → k < l.byte-index → get_or l.field k 0 < 128
