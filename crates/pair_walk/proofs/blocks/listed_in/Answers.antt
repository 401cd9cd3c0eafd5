use Rattle.std.proofs.Common.{ap, arith, length}
use Rattle.pair_walk.proofs.JoinLemmas.{listed_more}
use Rattle.pair_walk.proofs.blocks.listed_in.Goals as goal

pub loop-at-preserved : goal.loop-at-preserved
loop-at-preserved c =
    listed_more c.args.pass.now c.loop-at.at c.loop-at.listed c.saturating_add-listed.result _ (omega (arith, c.loop-at-test.true, c.requires)) c.loop-at.invariant (ap length c.rows.ensures)
    (λ small. omega (arith, c.saturating_add-listed.ensures, small))
