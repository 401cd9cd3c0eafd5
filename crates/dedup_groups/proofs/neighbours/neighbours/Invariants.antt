use Rattle.std.proofs.Common.{◌≡◌, take}
use Rattle.dedup_groups.proofs.ForestLemmas.{heads, tails}
use Rattle.dedup_groups.proofs.neighbours.neighbours.Given as goal

abbrev pub invariant-loop-link : goal.invariant-loop-link
invariant-loop-link l = record {
  tails : l.tails.items ≡ tails (take l.link-index l.links);
  heads : l.heads.items ≡ heads (take l.link-index l.links);
}
