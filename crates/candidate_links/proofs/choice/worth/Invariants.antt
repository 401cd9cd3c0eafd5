use Rattle.std.proofs.Common.{◌≡◌, ◌*◌, take, pos, neg_ℤ, ◌≤ℤ◌}
use Rattle.price_check.specs.Assignment.{worth}
use Rattle.candidate_links.proofs.choice.worth.Given as goal

abbrev pub invariant-loop-link : goal.invariant-loop-link
invariant-loop-link l = record {
  value : l.sum ≡ worth (take l.link-index l.links);
  low : neg_ℤ (pos (2147483648 * l.link-index)) ≤ℤ l.sum;
  high : l.sum ≤ℤ pos (2147483648 * l.link-index);
}
