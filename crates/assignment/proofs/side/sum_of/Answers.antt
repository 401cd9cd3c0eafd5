use Rattle.std.proofs.Common.{arith, rules}
use Rattle.std.proofs.lemmas.List.Sums.{sum_by_more}
use Rattle.assignment.proofs.side.sum_of.Goals as goal

pub loop-i-preserved : goal.loop-i-preserved
loop-i-preserved c =
    let more = sum_by_more (λ x. x) c.args.prices.now c.loop-i.i 0 c.loop-i-test.true in
    record {
      total = omega (arith, more, c.loop-i.invariant.total, c.from-total.ensures);
      small = search rules;
    }
