use Rattle.std.proofs.Common.{◌≡◌, ◌≤◌, ◌+◌, All, length, drop, map, take}
use Rattle.link_limits.specs.declared.TheConstants.{MOST_CAPACITY}
use Rattle.candidate_links.specs.Capacities.{after_rows, capacities_by, listed_capacity}
use Rattle.candidate_links.proofs.reading.capacities_of.Given as goal

abbrev pub invariant-loop-at : goal.invariant-loop-at
invariant-loop-at l = record {
  told : capacities_by l.b l.table ≡ after_rows l.b (map (listed_capacity l.table) l.b) (l.at + 1) (drop l.at l.table);
  listed : l.each.items ≡ map (listed_capacity (take l.at l.table)) l.b;
  for_each : length l.each.items ≡ length l.b;
  allowed : All (λ capacity. capacity ≤ MOST_CAPACITY) l.each.items;
}
