use Rattle.std.proofs.Common.{◌≡◌, ◌≤◌, length, take}
use Rattle.link_limits.specs.declared.TheConstants.{MOST_PAIRS}
use Rattle.link_core.specs.Review.{open_pairs}
use Rattle.link_core.proofs.results.open_count.Given as goal

abbrev pub invariant-loop-at : goal.invariant-loop-at
invariant-loop-at l =
    (l.open ≡ length (open_pairs l.journal (take l.at-index l.at-items))) × (l.open ≤ l.at-index) × (length l.at-items ≤ MOST_PAIRS)
