use Rattle.std.proofs.Common.{◌≡◌, ℕ, ◌<◌, Some}
use Rattle.assignment_steps.specs.Words.{link, IsTight}
use Rattle.assignment_steps.proofs.adopt.are_tight.Given as goal

abbrev pub invariant-loop-a : goal.invariant-loop-a
invariant-loop-a l = (r : ℕ) → r < l.a → (k : ℕ) → link l.link_a r ≡ Some k → IsTight l.net.edges.now l.net.price_a.now l.net.price_b.now k
