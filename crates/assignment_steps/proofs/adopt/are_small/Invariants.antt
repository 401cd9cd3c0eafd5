use Rattle.std.proofs.Common.{ℕ, ◌<◌, ◌≤◌}
use Rattle.link_limits.specs.declared.TheConstants.{MOST_VALUE}
use Rattle.assignment_steps.specs.Words.{number}
use Rattle.assignment_steps.proofs.adopt.are_small.Given as goal

abbrev pub invariant-loop-price : goal.invariant-loop-price
invariant-loop-price l = (k : ℕ) → k < l.price-index → number l.prices k ≤ MOST_VALUE
