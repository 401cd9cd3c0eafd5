use Rattle.std.proofs.Common.{◌≤ℤ◌, get_or, pos, arith}
use Rattle.std.proofs.lemmas.Grind.{common_steps}
use Rattle.price_check.proofs.Order.{each_more}
use Rattle.price_check.proofs.first.first_negative.Goals as goal

pub loop-i-preserved : goal.loop-i-preserved
loop-i-preserved c =
    let here : pos 0 ≤ℤ get_or c.args.prices.now c.loop-i.i (pos 0) = grind (arith, common_steps) in
    each_more (λ p. pos 0 ≤ℤ p) c.args.prices.now c.loop-i.i (pos 0) c.loop-i.invariant c.loop-i-test.true here

pub returns : goal.returns
returns c = λ k d lt. c.loop-i.invariant k d (omega arith)
