use Rattle.std.proofs.Common.{◌++◌, ◌∷◌, ◌∙◌, [], ap}
use Rattle.link_plan.specs.Plan.{FieldKeys}
use Rattle.link_core.proofs.StepLemmas.{map_more}
use Rattle.link_core.proofs.preparing.kinds_of_plan.Goals as goal

pub loop-field-preserved : goal.loop-field-preserved
loop-field-preserved c =
    map_more (λ (f : FieldKeys). f.compare) c.fields-field-items.result.now c.loop-field.field-index c.field-item.result c.loop-field.kinds.items c.push.new.self.items
    c.loop-field-test.true c.loop-field.invariant (c.in_ok-push.ensures.items ∙ ap (λ (f : FieldKeys). c.loop-field.kinds.items ++ f.compare ∷ []) (c.field.view_is ∙ c.field-item.is))
