use Rattle.std.proofs.Common.{◌≡◌, ◌≤◌, length}
use Rattle.price_check.specs.Forest.{AreByTop}
use Rattle.price_check.proofs.numbering.number.Given as goal

abbrev pub invariant-loop-i : goal.invariant-loop-i
invariant-loop-i l = record {
  count : length l.numbers ≡ length l.up;
  by_top : AreByTop l.up l.numbers l.i l.parts;
  few : l.parts ≤ l.i;
}
