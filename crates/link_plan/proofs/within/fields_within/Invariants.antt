use Rattle.std.proofs.Common.{◌≡◌, map, take}
use Rattle.link_plan.specs.Within.{field_within}
use Rattle.link_plan.proofs.within.fields_within.Given as goal

abbrev pub invariant-loop-field : goal.invariant-loop-field
invariant-loop-field l = l.within.items ≡ map field_within (take l.field-index l.field-items)
