use Rattle.std.proofs.Common.{ap, arith, length}
use Rattle.pair_walk.proofs.JoinLemmas.{pairs_left}
use Rattle.pair_walk.specs.Rows.{pairs_of_rows}
use Rattle.pair_walk.proofs.walker.Walker.most_pairs.Goals as goal

pub returns : goal.returns
returns c small =
    let walker = c.self.inside in
    omega (arith, c.most_pairs.ensures small, pairs_left walker.blocks.now walker.at, ap (λ w. length (pairs_of_rows w.left)) c.self.view_is)
