use Rattle.std.proofs.Common.{◌≡◌, drop}
use Rattle.block_passes.specs.Numbering.{coded_texts}
use Rattle.block_passes.specs.Keys.{extended, key_in_pass}
use Rattle.block_passes.proofs.keys.pass_key.Given as goal

abbrev pub invariant-loop-part : goal.invariant-loop-part
invariant-loop-part l = record {
  code : l.code.items ≡ coded_texts l.texts.items;
  key : extended l.texts.items (key_in_pass l.row (drop l.part-index l.part-items)) ≡ key_in_pass l.row l.part-items;
}
