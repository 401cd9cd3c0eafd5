use Rattle.std.proofs.Common.{◌≡◌, ◌<◌, ◌↔◌, ℕ, None}
use Rattle.assignment_steps.specs.Words.{link, number}
use Rattle.assignment_steps.proofs.left.waiting.Given as goal

abbrev pub invariant-loop-a : goal.invariant-loop-a
invariant-loop-a l = (l.count ≡ 0) ↔ ((r : ℕ) → r < l.a → link l.link_a r ≡ None → number l.price_a r ≡ 0)
