use Rattle.std.proofs.Common.{◌-◌, ◌<◌, ◌^◌}
use Rattle.dedup_groups.specs.Forest.{IsSearch, waiting_room, lists_of}
use Rattle.dedup_groups.proofs.search.search_from.Given as goal

abbrev pub invariant-search : goal.invariant-search
invariant-search l = record {
  search : IsSearch l.near (lists_of l.trees) l.trees.queue.items l.done l.leader;
  room : waiting_room (lists_of l.trees) l.trees.queue.items l.leader < 2 ^ 32;
}

abbrev pub decreases-search : goal.decreases-search
decreases-search l = waiting_room (lists_of l.trees) l.trees.queue.items l.leader - l.done
