use Rattle.std.proofs.Common.{arith, length-set}
use Rattle.level_frontier.proofs.Lemmas.{row_step, rows_fall, row_near}
use Rattle.level_frontier.proofs.levels.frontier.Goals as goal

pub loop-k-preserved : goal.loop-k-preserved
loop-k-preserved c =
    let inv = c.loop-k.invariant in
    record {
      table = omega (arith, c.row_of.ensures.size, inv.table);
      size = omega (arith, length-set c.loop-k.rows c.loop-k.k c.row_of.result, inv.size);
      rows = row_step c.args.shares.now c.args.lambda_ppm c.args.mus.now c.loop-k.rows c.loop-k.k c.row_of.result (omega (arith, inv.size, c.loop-k-test.true)) inv.rows c.row_of.ensures.row;
    }

pub returns-clause-falling : goal.returns-clause-falling
returns-clause-falling c = λ j k d j_in k_in le.
    rows_fall c.args.shares.now _ _ c.args.lambda_ppm _ _ le (c.loop-k.invariant.rows j d (omega arith)) (c.loop-k.invariant.rows k d (omega arith))

pub returns-clause-near_least : goal.returns-clause-near_least
returns-clause-near_least c = λ k d k_in. row_near c.args.shares.now _ c.args.lambda_ppm _ (c.loop-k.invariant.rows k d (omega arith))
