use Rattle.std.proofs.Common.{◌≡◌, ◌+◌, ◌++◌, drop, length}
use Rattle.standard_files.specs.Taking.{AreKnown, AreTextIds, InLater}
use Rattle.standard_files.specs.Sides.{sides_of_row, canons_of_row}
use Rattle.standard_files.proofs.TakingLemmas.{Goes}
use Rattle.standard_files.proofs.canons.take_row.Given as goal

abbrev pub invariant-loop-field : goal.invariant-loop-field
invariant-loop-field l = record {
  goes : Goes l.fn.pool l.pool (canons_of_row (drop l.field l.kinds) (drop l.field l.row)) (canons_of_row l.kinds l.row);
  ids : AreTextIds l.pool.texts l.row l.ids;
  known : AreKnown l.pool.texts l.kinds l.known;
  width : length l.sides.items ≡ length l.fn.sides.items + l.field;
  sides : InLater l.pool.texts (λ final. l.sides.items ++ sides_of_row final (drop l.field l.kinds) (drop l.field l.row) ≡ l.fn.sides.items ++ sides_of_row final l.kinds l.row);
}
