use Rattle.std.proofs.Common.{◌≡◌, ◌*◌, take, pos, neg_ℤ, ◌≤ℤ◌}
use Rattle.link_limits.specs.declared.TheConstants.{MOST_VALUE}
use Rattle.price_check.specs.Assignment.{worth}
use Rattle.price_check.proofs.certificate.value_total.Given as goal

abbrev pub invariant-loop-link : goal.invariant-loop-link
invariant-loop-link l = record {
  value : l.sum ≡ worth (take l.link-index l.links);
  low : neg_ℤ (pos (MOST_VALUE * l.link-index)) ≤ℤ l.sum;
  high : l.sum ≤ℤ pos (MOST_VALUE * l.link-index);
}
