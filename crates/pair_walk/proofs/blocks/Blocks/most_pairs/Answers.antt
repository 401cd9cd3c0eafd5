use Rattle.std.proofs.Common.{◌≡◌, ◌∙◌, arith, take, take_all}
use Rattle.pair_walk.proofs.JoinLemmas.{pairs_counted}
use Rattle.pair_walk.proofs.blocks.Blocks.most_pairs.Goals as goal

pub returns : goal.returns
returns c small =
    let blocks = c.self.inside in
    let whole : take c.loop-pass.pass-index c.deref-pass-items.result.now ≡ blocks.passes.items =
    take_all c.loop-pass.pass-index c.deref-pass-items.result.now (omega (arith, c.loop-pass-test.false)) ∙ c.deref-pass-items.ensures.value in
    let told = rw whole at c.loop-pass.invariant small in
    rw (← c.self.view_is) (omega (arith, pairs_counted blocks.passes.items blocks.width blocks.rows c.self.invariant.0, told))
