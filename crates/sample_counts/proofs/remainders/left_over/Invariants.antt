use Rattle.std.proofs.Common.{◌≡◌, ◌+◌, take, sum_by}
use Rattle.sample_counts.specs.Remainders.{quota_of, spread_of}
use Rattle.sample_counts.proofs.remainders.left_over.Given as goal

abbrev pub invariant-loop-count : goal.invariant-loop-count
invariant-loop-count l = l.left + sum_by (quota_of l.counts) (take l.count-index l.counts) ≡ spread_of l.counts
