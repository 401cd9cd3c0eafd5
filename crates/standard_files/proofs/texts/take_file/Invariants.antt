use Rattle.std.proofs.Common.{drop, take}
use Rattle.standard_files.specs.Taking.{AreTextIds, file_values}
use Rattle.standard_files.specs.Sides.{file_texts, texts_of_row}
use Rattle.standard_files.proofs.TakingLemmas.{Goes}
use Rattle.standard_files.proofs.texts.take_file.Given as goal

abbrev pub invariant-loop-at : goal.invariant-loop-at
invariant-loop-at l = record {
  goes : Goes l.fn.pool l.pool (file_texts texts_of_row (drop l.at l.file)) (file_texts texts_of_row l.file);
  ids : AreTextIds l.pool.texts (file_values (take l.at l.file)) l.ids.items;
}
