use Rattle.std.proofs.Common.{refl, arith}
use Rattle.price_check.specs.Assignment.{no_candidate}
use Rattle.price_check.proofs.Bounds.{rising_more, rising_at}
use Rattle.price_check.proofs.rising_order.are_rising.Goals as goal

pub loop-k-preserved : goal.loop-k-preserved
loop-k-preserved c = rising_more c.args.candidates.now no_candidate c.loop-k.k (omega arith) c.loop-k.invariant (c.if-not-is_before.ensures.0 refl)

pub returns : goal.returns
returns c = (λ t. rising_at c.args.candidates.now no_candidate (λ i j lt within. c.loop-k.invariant i j lt (omega arith)), λ h. refl)
