use Rattle.std.proofs.Common.{arith, sym}
use Rattle.link_base.proofs.RisingFacts.{lesser_at, none_lesser}
use Rattle.link_base.proofs.rising_ids.is_lesser.Goals as goal

pub returns-then-x-at : goal.returns-then-x-at
returns-then-x-at c =
    sym (lesser_at c.args.x.now c.args.y.now c.loop-at.at c.loop-at.invariant c.loop-at-test.true (omega (arith, c.requires, c.loop-at-test.true)) c.if-x-at.true)

pub returns : goal.returns
returns c =
    none_lesser c.args.x.now c.args.y.now c.requires (λ k lt. c.loop-at.invariant k (omega (arith, lt, c.loop-at-test.false, c.loop-at.auto.at-end)))
