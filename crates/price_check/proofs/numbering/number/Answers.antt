use Rattle.std.proofs.Common.{arith, length-set}
use Rattle.price_check.proofs.Chains.{by_top_first, by_top_later}
use Rattle.price_check.proofs.numbering.number.Goals as goal

pub loop-i-preserved-then-up-i : goal.loop-i-preserved-then-up-i
loop-i-preserved-then-up-i c = record {
  count = rw length-set c.loop-i.invariant.count;
  by_top = by_top_first c.args.up.now c.loop-i.numbers c.loop-i.i c.loop-i.parts c.requires.earlier (omega arith) (omega arith) c.loop-i.invariant.by_top;
  few = omega arith;
}

pub loop-i-preserved : goal.loop-i-preserved
loop-i-preserved c = record {
  count = rw length-set c.loop-i.invariant.count;
  by_top = by_top_later c.args.up.now c.loop-i.numbers c.loop-i.i c.loop-i.parts c.requires.earlier (omega arith) (λ e. omega arith) c.loop-i.invariant.by_top;
  few = omega arith;
}
