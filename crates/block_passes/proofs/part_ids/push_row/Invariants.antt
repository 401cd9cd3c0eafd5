use Rattle.std.proofs.Common.{◌≡◌, ◌++◌, drop}
use Rattle.block_passes.specs.Keys.{ids_of_row}
use Rattle.block_passes.proofs.part_ids.push_row.Given as goal

abbrev pub invariant-loop-pass : goal.invariant-loop-pass
invariant-loop-pass l = l.ids.items ++ ids_of_row l.pool.texts (drop l.pass-index l.passes) l.row ≡ l.fn.ids.items ++ ids_of_row l.pool.texts l.passes l.row
