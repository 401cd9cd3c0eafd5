use Rattle.std.proofs.Common.{◌≡◌, map, take}
use Rattle.link_plan.specs.Plan.{FieldKeys}
use Rattle.link_core.proofs.preparing.kinds_of_plan.Given as goal

abbrev pub invariant-loop-field : goal.invariant-loop-field
invariant-loop-field l = l.kinds.items ≡ map (λ (f : FieldKeys). f.compare) (take l.field-index l.field-items)
