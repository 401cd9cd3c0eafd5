use Rattle.std.proofs.Common.{◌≡◌, ℕ, ◌<◌, ◌≤◌, length}
use Rattle.assignment_steps.specs.Words.{edge, number, IsStart}
use Rattle.assignment_steps.proofs.starts.starts_of.Given as goal

abbrev pub invariant-loop-a : goal.invariant-loop-a
invariant-loop-a l = record {
  count : length l.starts.items ≡ l.a;
  within : l.start ≤ length l.edges;
  below : (j : ℕ) → j < l.start → (edge l.edges j).a < l.a;
  starts_at : (i : ℕ) → i < l.a → IsStart l.edges i (number l.starts.items i);
}
