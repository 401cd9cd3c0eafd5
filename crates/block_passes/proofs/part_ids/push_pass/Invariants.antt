use Rattle.std.proofs.Common.{◌≡◌, ◌++◌, drop}
use Rattle.block_passes.specs.Keys.{ids_in_pass}
use Rattle.block_passes.proofs.part_ids.push_pass.Given as goal

abbrev pub invariant-loop-part : goal.invariant-loop-part
invariant-loop-part l = l.ids.items ++ ids_in_pass l.pool.texts l.row (drop l.part-index l.part-items) ≡ l.fn.ids.items ++ ids_in_pass l.pool.texts l.row l.part-items
