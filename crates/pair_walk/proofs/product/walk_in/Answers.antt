use Rattle.std.proofs.Common.{◌∙◌}
use Rattle.pair_walk.specs.PairLaws.{all-pairs}
use Rattle.pair_walk.proofs.product.walk_in.Goals as goal

pub returns-in-Ok : goal.returns-in-Ok
returns-in-Ok c =
    rw (← all-pairs c.args.a.now c.args.b.now c.args.passes.now, ← (c.walk.ensures.left ∙ c.in-Ok.ensures)) c.collect.ensures
