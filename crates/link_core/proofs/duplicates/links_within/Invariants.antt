use Rattle.std.proofs.Common.{◌≡◌, ◌≤◌, length, take, All}
use Rattle.dedup_groups.specs.Groups.{IsLinkWithin}
use Rattle.link_core.specs.Prepared.{links_within}
use Rattle.link_core.proofs.duplicates.links_within.Given as goal

abbrev pub invariant-loop-at : goal.invariant-loop-at
invariant-loop-at l = record {
  within : l.within.items ≡ links_within (take l.at-index l.links);
  few : length l.within.items ≤ l.at-index;
  inside : All (IsLinkWithin l.rows) l.within.items;
}
