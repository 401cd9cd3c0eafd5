use Rattle.std.proofs.Common.{◌≡◌, ℕ, ◌<◌, None}
use Rattle.assignment_steps.specs.Words.{link}
use Rattle.assignment_steps.proofs.adopt.clear_links.Given as goal

abbrev pub invariant-loop-r : goal.invariant-loop-r
invariant-loop-r l = (j : ℕ) → j < l.r → link l.links j ≡ None
