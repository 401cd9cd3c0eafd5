use Rattle.std.proofs.Common.{arith}
use Rattle.assignment_steps.proofs.Members.{one_more_with}
use Rattle.assignment_steps.proofs.other_links.join_mates.Goals as goal

pub loop-a-preserved : goal.loop-a-preserved
loop-a-preserved c = record {
  matched = c.join_mate.ensures.keeps.matched;
  joined = one_more_with c.args.board _ _ _ _ c.join_mate.ensures.keeps.kept_a c.join_mate.ensures.keeps.kept_b c.args.mates.now c.loop-a.a c.loop-a.invariant.joined c.join_mate.ensures.joined;
}

pub returns-clause-joined : goal.returns-clause-joined
returns-clause-joined c n less = c.loop-a.invariant.joined n (omega (arith, less, c.loop-a-test.false))
