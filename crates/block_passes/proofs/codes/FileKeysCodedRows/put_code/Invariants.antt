use Rattle.std.proofs.Common.{◌≡◌, ℕ, List, drop}
use Rattle.block_passes.specs.Numbering.{coded_texts}
use Rattle.block_passes.specs.Keys.{extended, key_in_pass}
use Rattle.block_passes.proofs.codes.FileKeysCodedRows.put_code.Given as goal

abbrev pub invariant-loop-part : goal.invariant-loop-part
invariant-loop-part l = (texts : List (List ℕ)) × (l.code.items ≡ coded_texts texts) × (extended texts (key_in_pass l.row (drop l.part-index l.part-items)) ≡ key_in_pass l.row l.part-items)
