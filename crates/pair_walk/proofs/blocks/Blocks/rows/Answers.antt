use Rattle.std.proofs.Common.{◌∙◌, ap, length, sym}
use Rattle.pair_walk.proofs.JoinLemmas.{joined-len}
use Rattle.pair_walk.proofs.blocks.Blocks.rows.Goals as goal

pub returns : goal.returns
returns c =
    let blocks = c.self.inside in
    sym (joined-len blocks.passes.items blocks.width 0 blocks.rows) ∙ ap length c.self.view_is
