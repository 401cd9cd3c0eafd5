use Rattle.std.proofs.Common.{◌≡◌, ◌++◌, drop}
use Rattle.block_passes.specs.Keys.{key_ids}
use Rattle.block_passes.proofs.part_ids.key_ids.Given as goal

abbrev pub invariant-loop-at : goal.invariant-loop-at
invariant-loop-at l = l.ids.items ++ key_ids l.pool.texts l.fn.passes (drop l.at l.file) ≡ key_ids l.pool.texts l.fn.passes l.file
