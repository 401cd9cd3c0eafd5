use Rattle.std.proofs.Common.{◌≡◌, ℕ, ◌+◌, ◌-◌, ◌<◌, ◌≤◌, drop, Contains}
use Rattle.assignment_steps.specs.Words.{number, distance, far}
use Rattle.assignment_steps.proofs.shift.raise.Given as goal

abbrev pub invariant-loop-position : goal.invariant-loop-position
invariant-loop-position l = record {
  kept : (r : ℕ) → number l.prices r + (l.end - distance l.dist r) ≡ number l.fn.prices r + (l.end - distance l.fn.dist r);
  top : (r : ℕ) → distance l.dist r ≤ far;
  whole : (r : ℕ) → distance l.dist r < far → Contains (drop l.position-index l.touched) r;
}
