use Rattle.std.proofs.Common.{◌≡◌, ◌-◌, ◌*◌, ◌^◌, ◌≤◌}
use Rattle.patterns.proofs.weight.doublings_within.Given as goal

abbrev pub invariant-loop-raised : goal.invariant-loop-raised
invariant-loop-raised l = (l.raised ≡ l.low * 2 ^ l.count) × (l.raised ≤ l.high) × (1 ≤ l.raised)

abbrev pub decreases-loop-raised : goal.decreases-loop-raised
decreases-loop-raised l = l.high - l.raised
