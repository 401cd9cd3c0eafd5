use Rattle.std.proofs.Common.{◌∙◌, arith}
use Rattle.assignment_steps.proofs.Members.{one_more_as}
use Rattle.assignment_steps.proofs.other_links.join_as_turned.Goals as goal

pub loop-i-preserved : goal.loop-i-preserved
loop-i-preserved c = record {
  matched = c.join_turned.ensures.keeps.matched;
  joined = one_more_as c.args.board _ _ _ _ c.join_turned.ensures.keeps.kept_a c.join_turned.ensures.keeps.kept_b c.args.links.now c.loop-i.i c.loop-i.invariant.joined (λ j is. c.join_turned.ensures.joined j (c.link_of.ensures ∙ is));
}

pub returns-clause-joined : goal.returns-clause-joined
returns-clause-joined c n less = c.loop-i.invariant.joined n (omega (arith, less, c.loop-i-test.false))
