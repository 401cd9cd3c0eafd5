use Rattle.dedup_groups.specs.Forest.{waiting_room, lists_of}
use Rattle.dedup_groups.proofs.SearchLemmas.{IsVisit}
use Rattle.dedup_groups.proofs.search.visit_all.Given as goal

abbrev pub invariant-loop-at : goal.invariant-loop-at
invariant-loop-at l =
    IsVisit l.near (lists_of l.trees) l.trees.queue.items l.heads l.done l.leader l.from l.at-index (waiting_room (lists_of l.fn.trees) l.fn.trees.queue.items l.leader)
