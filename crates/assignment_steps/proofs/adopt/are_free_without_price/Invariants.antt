use Rattle.std.proofs.Common.{◌≡◌, ℕ, ◌<◌, None}
use Rattle.assignment_steps.specs.Words.{link, number}
use Rattle.assignment_steps.proofs.adopt.are_free_without_price.Given as goal

abbrev pub invariant-loop-r : goal.invariant-loop-r
invariant-loop-r l = (j : ℕ) → j < l.r → link l.links j ≡ None → number l.prices j ≡ 0
