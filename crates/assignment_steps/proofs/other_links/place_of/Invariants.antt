use Rattle.std.proofs.Common.{◌≢◌, ℕ, ◌<◌, ◌≤◌}
use Rattle.assignment_steps.specs.Words.{edge, number}
use Rattle.assignment_steps.proofs.other_links.place_of.Given as goal

abbrev pub invariant-loop-k : goal.invariant-loop-k
invariant-loop-k l = (j : ℕ) → number l.board.starts.now l.fn.a ≤ j → j < l.k → (edge l.board.edges.now j).b ≢ l.b
