use Rattle.block_passes.specs.Numbering.{AreNumbers}
use Rattle.block_passes.proofs.index.PassRows.by_code.Given as goal

abbrev pub invariant-loop-at : goal.invariant-loop-at
invariant-loop-at g l = AreNumbers l.index.numbering (g.K.CodedRows.code_of l.a) l.at l.numbers.items
