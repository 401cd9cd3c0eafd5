use Rattle.std.proofs.Common.{ℕ, ◌<◌, get_or}
use Rattle.link_base.specs.declared.rule.Candidate.{Candidate}
use Rattle.price_check.specs.Assignment.{IsCovered}
use Rattle.price_check.proofs.first.first_uncovered.Given as goal

abbrev pub invariant-loop-i : goal.invariant-loop-i
invariant-loop-i l = (k : ℕ) (d : Candidate) → k < l.i → IsCovered l.prices_a l.prices_b (get_or l.candidates k d)
