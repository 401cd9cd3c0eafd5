use Rattle.std.proofs.Common.{◌*◌, take}
use Rattle.std.specs.Str.{IsAscii}
use Rattle.file_reader.proofs.fields.are_plain.Given as goal

abbrev pub invariant-loop-word : goal.invariant-loop-word
invariant-loop-word l = IsAscii (take (l.word-index * 8) l.bytes)
