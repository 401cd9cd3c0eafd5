use Rattle.std.proofs.Common.{◌≡◌, take}
use Rattle.link_plan.proofs.within.copied_each.Given as goal

abbrev pub invariant-loop-item : goal.invariant-loop-item
invariant-loop-item g l = l.copy.items ≡ take l.item-index l.items
