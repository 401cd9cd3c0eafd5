use Rattle.std.proofs.Common.{ℕ, ◌-◌, ◌<◌, ◌≤◌, length}
use Rattle.assignment_steps.specs.Words.{edge}
use Rattle.assignment_steps.proofs.starts.start_from.Given as goal

abbrev pub invariant-loop-start : goal.invariant-loop-start
invariant-loop-start l = record {
  within : l.start ≤ length l.edges;
  below : (j : ℕ) → j < l.start → (edge l.edges j).a < l.a;
}

abbrev pub decreases-loop-start : goal.decreases-loop-start
decreases-loop-start l = length l.edges - l.start
