use Rattle.std.proofs.Common.{◌≡◌, ◌*◌, take, pos, neg_ℤ, ◌≤ℤ◌}
use Rattle.link_limits.specs.declared.TheConstants.{MOST_VALUE}
use Rattle.price_check.specs.Assignment.{price_sum}
use Rattle.price_check.proofs.certificate.price_total.Given as goal

abbrev pub invariant-loop-p : goal.invariant-loop-p
invariant-loop-p l = record {
  value : l.sum ≡ price_sum (take l.p-index l.prices);
  low : neg_ℤ (pos (MOST_VALUE * l.p-index)) ≤ℤ l.sum;
  high : l.sum ≤ℤ pos (MOST_VALUE * l.p-index);
}
