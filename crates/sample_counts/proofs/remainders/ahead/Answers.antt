use Rattle.sample_counts.proofs.Lemmas.{ahead_step}
use Rattle.sample_counts.proofs.remainders.ahead.Goals as goal

pub loop-k-preserved : goal.loop-k-preserved
loop-k-preserved c = ahead_step c.args.counts.now c.args.i c.loop-k.k c.args.n c.loop-k.ahead c.comes_ahead.result c.from-ahead.result c.requires.n (rw c.spread-spread.ensures at c.comes_ahead.ensures) c.from-ahead.ensures c.loop-k.invariant.0 c.loop-k.invariant.1
