use Rattle.std.proofs.Common.{◌≡◌, ◌+◌, ◌∙◌, rules, arith}
use Rattle.assignment_steps.proofs.Members.{one_more_start}
use Rattle.assignment_steps.proofs.starts.starts_of.Goals as goal

pub loop-a-preserved : goal.loop-a-preserved
loop-a-preserved c = record {
  count = search rules;
  within = c.start_from-start.ensures.within;
  below = λ j low. omega (arith, c.start_from-start.ensures.below j low);
  starts_at = rw c.in_ok-push.ensures.items (one_more_start c.args.edges.now c.loop-a.starts.items c.loop-a.a c.start_from-start.result c.loop-a.invariant.count c.loop-a.invariant.starts_at c.start_from-start.ensures);
}

pub returns : goal.returns
returns c =
    let end : c.loop-a.a ≡ c.args.rows + 1 = omega (arith, c.loop-a.auto.a-end, c.loop-a-test.false) in
    record {
      count = c.loop-a.invariant.count ∙ end;
      starts_at = λ a le. c.loop-a.invariant.starts_at a (omega (arith, le, end));
    }
