use Rattle.std.proofs.Common.{◌≡◌, ◌*◌, take, pos, neg_ℤ, ◌≤ℤ◌, List}
use Rattle.link_limits.specs.declared.TheConstants.{MOST_VALUE}
use Rattle.link_base.specs.declared.rule.Candidate.{Candidate}
use Rattle.price_check.specs.Assignment.{worth}
use Rattle.price_check.specs.Verdict.{AreLinks}
use Rattle.price_check.proofs.certificate.links_worth.Given as goal

abbrev pub invariant-loop-link : goal.invariant-loop-link
invariant-loop-link l = record {
  value : (chosen : List Candidate) → AreLinks l.candidates l.links chosen → l.sum ≡ worth (take l.link-index chosen);
  low : neg_ℤ (pos (MOST_VALUE * l.link-index)) ≤ℤ l.sum;
  high : l.sum ≤ℤ pos (MOST_VALUE * l.link-index);
}
