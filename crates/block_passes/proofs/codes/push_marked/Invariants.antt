use Rattle.std.proofs.Common.{◌≡◌, ◌++◌, drop}
use Rattle.block_passes.specs.Numbering.{coded_text}
use Rattle.block_passes.proofs.codes.push_marked.Given as goal

abbrev pub invariant-loop-byte : goal.invariant-loop-byte
invariant-loop-byte l = l.code.items ++ coded_text (drop l.byte-index l.text) ≡ l.fn.code.items ++ coded_text l.text
