use Rattle.std.proofs.Common.{◌≡◌, ◌++◌, drop}
use Rattle.block_passes.specs.Keys.{ids_in_pass}
use Rattle.standard_files.specs.Taking.{IsKnownRow, InLater}
use Rattle.standard_files.specs.Sides.{parts_in_pass}
use Rattle.standard_files.proofs.TakingLemmas.{Goes}
use Rattle.standard_files.proofs.keys.take_key.Given as goal

abbrev pub invariant-loop-part : goal.invariant-loop-part
invariant-loop-part l = record {
  goes : Goes l.fn.pool l.pool (parts_in_pass l.row (drop l.part-index l.part-items)) (parts_in_pass l.row l.part-items);
  known : IsKnownRow l.pool.texts l.kinds l.row l.texts l.sides;
  ids : InLater l.pool.texts (λ final. l.ids.items ++ ids_in_pass final l.row (drop l.part-index l.part-items) ≡ l.fn.ids.items ++ ids_in_pass final l.row l.part-items);
}
