use Rattle.std.proofs.Common.{arith}
use Rattle.sample_counts.proofs.Lemmas.{left_step}
use Rattle.sample_counts.proofs.remainders.left_over.Goals as goal

pub overflow_sub-left : goal.overflow_sub-left
overflow_sub-left c =
    let s = left_step c.args.counts.now c.loop-count.count-index c.loop-count.left (omega arith) (omega arith) c.loop-count.invariant in
    rw (c.spread-spread.ensures, c.requires.n) s.0

pub loop-count-preserved : goal.loop-count-preserved
loop-count-preserved c =
    let s = left_step c.args.counts.now c.loop-count.count-index c.loop-count.left (omega arith) (omega arith) c.loop-count.invariant in
    rw (c.spread-spread.ensures, c.requires.n) s.1
