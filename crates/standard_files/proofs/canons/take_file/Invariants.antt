use Rattle.std.proofs.Common.{◌≡◌, ◌+◌, ◌*◌, ◌++◌, drop, length}
use Rattle.standard_files.specs.Taking.{AreKnown, AreTextIds, file_values, flat_sides, InLater}
use Rattle.standard_files.specs.Sides.{canons_of_row, file_texts}
use Rattle.standard_files.proofs.TakingLemmas.{Goes}
use Rattle.standard_files.proofs.canons.take_file.Given as goal

abbrev pub invariant-loop-at : goal.invariant-loop-at
invariant-loop-at l = record {
  goes : Goes l.fn.pool l.pool (file_texts (canons_of_row l.kinds) (drop l.at l.file)) (file_texts (canons_of_row l.kinds) l.file);
  left : AreTextIds l.pool.texts (file_values (drop l.at l.file)) l.left;
  known : AreKnown l.pool.texts l.kinds l.known;
  width : length l.sides.items ≡ length l.initial.sides.items + l.at * length l.kinds;
  sides : InLater l.pool.texts (λ final. l.sides.items ++ flat_sides final l.kinds (drop l.at l.file) ≡ l.initial.sides.items ++ flat_sides final l.kinds l.file);
}
