use Rattle.std.proofs.Common.{pos, ℤ, arith}
use Rattle.std.proofs.lemmas.Int.{ints}
use Rattle.price_check.proofs.Order.{total_more}
use Rattle.price_check.proofs.certificate.price_total.Goals as goal

pub loop-p-preserved : goal.loop-p-preserved
loop-p-preserved c =
    let one = c.requires.small c.loop-p.p-index (pos 0) c.loop-p-test.true in
    let more = total_more (λ (p : ℤ). p) c.args.prices.now c.loop-p.p-index (pos 0) c.loop-p-test.true in
    record { value = omega (arith, ints, one.0, one.1, more); low = omega (arith, ints, one.0, one.1); high = omega (arith, ints, one.0, one.1) }
