use Rattle.std.proofs.Common.{arith}
use Rattle.patterns.proofs.Lemmas.{exponent_below, doubled}
use Rattle.patterns.proofs.weight.doublings_within.Goals as goal

pub loop-raised-preserved : goal.loop-raised-preserved
loop-raised-preserved c =
    (doubled c.args.low c.loop-raised.raised c.loop-raised.count c.loop-raised.invariant.0, omega arith, omega arith)

pub returns-clause-bound : goal.returns-clause-bound
returns-clause-bound c =
    exponent_below c.args.low c.loop-raised.count 80 c.args.high c.requires.some (omega arith) c.requires.small
