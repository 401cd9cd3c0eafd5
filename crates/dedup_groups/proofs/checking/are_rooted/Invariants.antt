use Rattle.std.proofs.Common.{◌<◌, ℕ}
use Rattle.dedup_groups.specs.Groups.{group_lists, IsRooted}
use Rattle.dedup_groups.specs.Forest.{IsNear}
use Rattle.dedup_groups.proofs.checking.are_rooted.Given as goal

abbrev pub invariant-loop-at : goal.invariant-loop-at
invariant-loop-at l = (x : ℕ) → x < l.at → IsRooted (IsNear l.near) (group_lists l.leader l.via l.depth) x
