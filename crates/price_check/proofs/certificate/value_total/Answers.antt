use Rattle.std.proofs.Common.{arith}
use Rattle.std.proofs.lemmas.Int.{ints}
use Rattle.link_base.specs.declared.rule.Candidate.{Candidate}
use Rattle.price_check.specs.Assignment.{no_candidate}
use Rattle.price_check.proofs.Order.{total_more}
use Rattle.price_check.proofs.certificate.value_total.Goals as goal

pub loop-link-preserved : goal.loop-link-preserved
loop-link-preserved c =
    let one = c.requires.allowed c.loop-link.link-index no_candidate c.loop-link-test.true in
    let is = c.from-sum.ensures in
    let more = total_more (λ (x : Candidate). x.value) c.args.links.now c.loop-link.link-index no_candidate c.loop-link-test.true in
    record { value = omega (arith, ints, one.0, one.1, is, more); low = omega (arith, ints, one.0, one.1, is); high = omega (arith, ints, one.0, one.1, is) }
