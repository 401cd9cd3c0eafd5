use Rattle.std.proofs.Common.{arith}
use Rattle.std.proofs.lemmas.Int.{ints}
use Rattle.price_check.specs.Assignment.{no_candidate}
use Rattle.link_base.specs.declared.rule.Candidate.{Candidate}
use Rattle.candidate_links.specs.PassLaws.{total_more}
use Rattle.candidate_links.proofs.choice.worth.Goals as goal

pub loop-link-preserved : goal.loop-link-preserved
loop-link-preserved c =
    let more = total_more (λ (x : Candidate). x.value) c.args.links.now c.loop-link.link-index no_candidate c.loop-link-test.true in
    record {
      value = omega (arith, ints, more, c.from-sum.ensures, c.loop-link.invariant.value);
      low = omega (arith, ints, c.from-sum.ensures);
      high = omega (arith, ints, c.from-sum.ensures);
    }
