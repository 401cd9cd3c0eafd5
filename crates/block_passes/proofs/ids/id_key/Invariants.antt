use Rattle.std.proofs.Common.{◌≡◌, drop}
use Rattle.block_passes.specs.Numbering.{bytes_of_ids}
use Rattle.block_passes.specs.Ids.{id_key_in}
use Rattle.block_passes.specs.Keys.{extended}
use Rattle.block_passes.proofs.ids.id_key.Given as goal

abbrev pub invariant-loop-part : goal.invariant-loop-part
invariant-loop-part l = record {
  code : l.code.items ≡ bytes_of_ids l.ids.items;
  key : extended l.ids.items (id_key_in l.pool.texts l.row (drop l.part-index l.part-items)) ≡ id_key_in l.pool.texts l.row l.part-items;
}
