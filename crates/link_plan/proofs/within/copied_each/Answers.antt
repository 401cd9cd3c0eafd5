use Rattle.link_plan.proofs.Lemmas.{copied_more}
use Rattle.link_plan.proofs.within.copied_each.Goals as goal

pub loop-item-preserved : goal.loop-item-preserved
loop-item-preserved g c =
    copied_more c.args.items.now c.loop-item.item-index c.item-item.result c.in_ok-copied.field-0 c.loop-item.copy.items c.push.new.self.items c.loop-item-test.true c.item-item.is c.in_ok-copied.ensures c.loop-item.invariant c.in_ok-push.ensures.items
