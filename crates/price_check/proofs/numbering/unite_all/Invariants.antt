use Rattle.std.proofs.Common.{◌≡◌, length}
use Rattle.price_check.specs.Forest.{AreUnited, AreLast}
use Rattle.price_check.proofs.numbering.unite_all.Given as goal

abbrev pub invariant-loop-k : goal.invariant-loop-k
invariant-loop-k l = record {
  united : AreUnited l.candidates l.up l.k;
  last : AreLast l.candidates l.last l.k;
  records : length l.last ≡ length l.fn.last;
}
