use Rattle.std.proofs.Common.{arith, refl}
use Rattle.price_check.specs.Assignment.{IsCovered}
use Rattle.price_check.proofs.Order.{each_more}
use Rattle.price_check.proofs.first.first_uncovered.Goals as goal

pub loop-i-preserved : goal.loop-i-preserved
loop-i-preserved c = each_more (IsCovered c.args.prices_a.now c.args.prices_b.now) c.args.candidates.now c.loop-i.i _ c.loop-i.invariant c.loop-i-test.true (c.if-not-is_covered.ensures.0 refl)

pub returns : goal.returns
returns c = λ k d lt. c.loop-i.invariant k d (omega arith)
