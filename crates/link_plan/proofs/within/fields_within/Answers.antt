use Rattle.link_plan.specs.Within.{field_within}
use Rattle.link_plan.proofs.Lemmas.{mapped_more}
use Rattle.link_plan.proofs.within.fields_within.Goals as goal

pub loop-field-preserved : goal.loop-field-preserved
loop-field-preserved c =
    mapped_more field_within c.fields-field-items.result.now c.loop-field.field-index c.field-item.result c.in_ok-field_within.field-0 c.loop-field.within.items c.push.new.self.items c.loop-field-test.true c.field-item.is c.in_ok-field_within.ensures c.loop-field.invariant c.in_ok-push.ensures.items
