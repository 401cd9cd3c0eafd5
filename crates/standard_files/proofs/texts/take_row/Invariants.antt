use Rattle.std.proofs.Common.{◌++◌, List, drop, take}
use Rattle.link_base.specs.declared.standard.Value.{Value}
use Rattle.standard_files.specs.Taking.{AreTextIds}
use Rattle.standard_files.specs.Sides.{texts_of_row}
use Rattle.standard_files.proofs.TakingLemmas.{Goes}
use Rattle.standard_files.proofs.texts.take_row.Given as goal

abbrev pub invariant-loop-at : goal.invariant-loop-at
invariant-loop-at l = record {
  goes : Goes l.fn.pool l.pool (texts_of_row (drop l.at l.row)) (texts_of_row l.row);
  ids : (before : List Value) → AreTextIds l.fn.pool.texts before l.fn.ids.items → AreTextIds l.pool.texts (before ++ take l.at l.row) l.ids.items;
}
