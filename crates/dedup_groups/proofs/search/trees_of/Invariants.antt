use Rattle.dedup_groups.specs.Forest.{AreFound, lists_of}
use Rattle.dedup_groups.proofs.search.trees_of.Given as goal

abbrev pub invariant-loop-leader : goal.invariant-loop-leader
invariant-loop-leader l = AreFound l.near (lists_of l.trees) l.leader
