use Rattle.std.proofs.Common.{◌≡◌, ◌≤◌}
use Rattle.std.specs.List.{count_by, range_with_len}
use Rattle.sample_counts.specs.Remainders.{is_ahead}
use Rattle.sample_counts.proofs.remainders.ahead.Given as goal

abbrev pub invariant-loop-k : goal.invariant-loop-k
invariant-loop-k l = (l.ahead ≤ l.k) × (l.ahead ≡ count_by (is_ahead l.counts l.i) (range_with_len 0 l.k))
