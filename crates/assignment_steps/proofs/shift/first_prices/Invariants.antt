use Rattle.std.proofs.Common.{◌≡◌, ℕ, ◌+◌, ◌<◌, ◌≤◌, length}
use Rattle.link_limits.specs.declared.TheConstants.{MOST_VALUE}
use Rattle.assignment_steps.specs.Words.{edge, number}
use Rattle.assignment_steps.proofs.shift.first_prices.Given as goal

abbrev pub invariant-loop-k : goal.invariant-loop-k
invariant-loop-k l = record {
  records : length l.prices.items ≡ l.rows_a;
  covered : (k : ℕ) → k < l.k → (edge l.edges k).value ≤ number l.prices.items (edge l.edges k).a + number l.price_b (edge l.edges k).b;
  small : (a : ℕ) → number l.prices.items a ≤ MOST_VALUE;
}
