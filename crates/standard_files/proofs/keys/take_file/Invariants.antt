use Rattle.std.proofs.Common.{◌≡◌, ◌++◌, drop}
use Rattle.block_passes.specs.Keys.{key_ids}
use Rattle.standard_files.specs.Taking.{AreTextIds, HoldsTexts, file_values, InLater}
use Rattle.standard_files.specs.Sides.{sides_of_file, canons_of_row, file_texts, parts_of_row}
use Rattle.standard_files.proofs.TakingLemmas.{Goes}
use Rattle.standard_files.proofs.keys.take_file.Given as goal

abbrev pub invariant-loop-at : goal.invariant-loop-at
invariant-loop-at l = record {
  goes : Goes l.fn.pool l.pool (file_texts (parts_of_row l.passes) (drop l.at l.file)) (file_texts (parts_of_row l.passes) l.file);
  left : AreTextIds l.pool.texts (file_values (drop l.at l.file)) l.left;
  canons : HoldsTexts l.pool.texts (file_texts (canons_of_row l.kinds) l.file);
  sides : InLater l.pool.texts (λ final. sides_of_file final l.kinds l.file ≡ l.table.rows);
  ids : InLater l.pool.texts (λ final. l.ids.items ++ key_ids final l.passes (drop l.at l.file) ≡ key_ids final l.passes l.file);
}
