use Rattle.std.proofs.Common.{◌≡◌, length, ap, ◌∙◌, arith}
use Rattle.std.proofs.lemmas.List.{with_items_is}
use Rattle.capacity_assign.proofs.Final.{one_more_alike}
use Rattle.capacity_assign.proofs.alike.like_of.Goals as goal

pub loop-a-preserved : goal.loop-a-preserved
loop-a-preserved c =
    let i = c.loop-a.invariant in
    let e = c.like_at.ensures in
    record {
      slots = rw (with_items_is c.loop-a.noted c.like_at.new.noted (omega (arith, c.like_at.auto.noted, c.deref_mut.ensures.len))) (c.like_at.auto.noted ∙ (ap length c.deref_mut.ensures.value ∙ i.slots));
      alike = rw c.in_ok-push.ensures.items (one_more_alike c.args.edges.now c.loop-a.a c.like_at.result c.loop-a.like.items i.alike e.there e.back);
    }

pub returns : goal.returns
returns c =
    let end : c.loop-a.a ≡ c.args.rows = omega (arith, c.loop-a.auto.a-end, c.loop-a-test.false) in
    rw end at c.loop-a.invariant.alike
