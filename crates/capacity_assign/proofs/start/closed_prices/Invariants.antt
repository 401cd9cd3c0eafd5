use Rattle.std.proofs.Common.{◌≡◌, ℕ, ◌<◌, ◌≤◌, length}
use Rattle.link_limits.specs.declared.TheConstants.{MOST_VALUE}
use Rattle.price_check.specs.Assignment.{capacity_of}
use Rattle.assignment_steps.specs.Words.{edge, number}
use Rattle.capacity_assign.proofs.start.closed_prices.Given as goal

abbrev pub invariant-loop-k : goal.invariant-loop-k
invariant-loop-k l = record {
  records : length l.prices.items ≡ length l.capacity;
  covered : (k : ℕ) → k < l.k → capacity_of l.capacity (edge l.edges k).b ≡ 0 → (edge l.edges k).value ≤ number l.prices.items (edge l.edges k).b;
  vacant : (b : ℕ) → 0 < capacity_of l.capacity b → number l.prices.items b ≡ 0;
  small : (b : ℕ) → number l.prices.items b ≤ MOST_VALUE;
}
