use Rattle.std.proofs.Common.{ℕ, ◌+◌, ◌<◌, ◌≤◌}
use Rattle.assignment_steps.specs.Words.{edge, number}
use Rattle.assignment_steps.proofs.adopt.cover.Given as goal

abbrev pub invariant-loop-k : goal.invariant-loop-k
invariant-loop-k l = (j : ℕ) → j < l.k → (edge l.net.edges.now j).value ≤ number l.net.price_a.now (edge l.net.edges.now j).a + number l.net.price_b.now (edge l.net.edges.now j).b
