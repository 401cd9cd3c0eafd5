use Rattle.block_passes.specs.Numbering.{AreNumbered, AreNumbers}
use Rattle.block_passes.proofs.coded_rows.RowsByCode.of.Given as goal

abbrev pub invariant-loop-at : goal.invariant-loop-at
invariant-loop-at g l = record {
  numbers : AreNumbers l.numbering (g.K.CodedRows.code_of l.keys) l.at l.numbers.items;
  numbered : AreNumbered l.numbering (g.K.CodedRows.code_of l.keys) l.at;
}
