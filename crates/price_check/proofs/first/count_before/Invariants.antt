use Rattle.std.proofs.Common.{ℕ, ◌<◌, ◌≤◌, ◌-◌, get_or, length}
use Rattle.link_base.specs.declared.rule.Candidate.{Candidate}
use Rattle.price_check.specs.Search.{IsCandidateBefore}
use Rattle.price_check.proofs.first.count_before.Given as goal

abbrev pub invariant-loop-low : goal.invariant-loop-low
invariant-loop-low l = record {
  ordered : l.low ≤ l.high;
  within : l.high ≤ length l.candidates;
  below : (k : ℕ) (d : Candidate) → k < l.low → IsCandidateBefore (get_or l.candidates k d) l.link;
  above : (k : ℕ) (d : Candidate) → l.high ≤ k → k < length l.candidates → IsCandidateBefore (get_or l.candidates k d) l.link → ⊥;
}

abbrev pub decreases-loop-low : goal.decreases-loop-low
decreases-loop-low l = l.high - l.low
