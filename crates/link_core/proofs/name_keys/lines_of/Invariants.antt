use Rattle.std.proofs.Common.{◌≡◌, ◌++◌, drop, map, string_bytes}
use Rattle.link_core.specs.NameKeys.{keys_text}
use Rattle.link_core.proofs.name_keys.lines_of.Given as goal

abbrev pub invariant-loop-word : goal.invariant-loop-word
invariant-loop-word l = l.lines.items ++ keys_text (map string_bytes (drop l.word-index l.words)) ≡ keys_text (map string_bytes l.words)
