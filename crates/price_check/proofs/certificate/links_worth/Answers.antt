use Rattle.std.proofs.Common.{get_or, arith}
use Rattle.std.proofs.lemmas.Int.{ints}
use Rattle.price_check.specs.Assignment.{no_candidate}
use Rattle.price_check.specs.Verdict.{HasAllowedValue}
use Rattle.price_check.proofs.Order.{worth_more}
use Rattle.price_check.proofs.certificate.links_worth.Goals as goal

pub loop-link-preserved : goal.loop-link-preserved
loop-link-preserved c =
    let one : HasAllowedValue (get_or c.args.candidates.now c.in-Some.k (no_candidate)) = c.requires.small c.in-Some.k _ c.in-Some.ensures.0 in
    let is = c.from-sum.ensures in
    record {
      value = λ chosen are.
          let more = worth_more c.args.candidates.now c.args.links.now chosen c.loop-link.link-index c.in-Some.k _ (no_candidate) _ c.requires.rising are c.loop-link-test.true c.in-Some.ensures (c.loop-link.invariant.value chosen are) in
          omega (arith, ints, one.0, one.1, is, more);
      low = omega (arith, ints, one.0, one.1, is);
      high = omega (arith, ints, one.0, one.1, is);
    }
