use Rattle.std.proofs.Common.{◌≡◌, ◌++◌, take, flat_map}
use Rattle.dedup_groups.specs.GroupsText.{group_row}
use Rattle.dedup_groups.proofs.writing.push_next.Given as goal

abbrev pub invariant-loop-at : goal.invariant-loop-at
invariant-loop-at l = l.text.items ≡ l.fn.text.items ++ flat_map (group_row l.groups.vias l.file l.last) (take l.at-index l.group)
