use Rattle.std.proofs.Common.{◌≡◌, ◌++◌, drop}
use Rattle.block_passes.specs.Keys.{ids_of_row}
use Rattle.standard_files.specs.Taking.{IsKnownRow, InLater}
use Rattle.standard_files.specs.Sides.{parts_of_row}
use Rattle.standard_files.proofs.TakingLemmas.{Goes}
use Rattle.standard_files.proofs.keys.take_row.Given as goal

abbrev pub invariant-loop-pass : goal.invariant-loop-pass
invariant-loop-pass l = record {
  goes : Goes l.fn.pool l.pool (parts_of_row (drop l.pass-index l.pass-items) l.row) (parts_of_row l.pass-items l.row);
  known : IsKnownRow l.pool.texts l.kinds l.row l.texts l.sides;
  ids : InLater l.pool.texts (λ final. l.ids.items ++ ids_of_row final (drop l.pass-index l.pass-items) l.row ≡ l.fn.ids.items ++ ids_of_row final l.pass-items l.row);
}
