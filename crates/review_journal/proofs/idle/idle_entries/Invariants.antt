use Rattle.std.proofs.Common.{◌≡◌, ◌≤◌, length, take}
use Rattle.link_limits.specs.declared.TheConstants.{MOST_ENTRIES}
use Rattle.review_journal.specs.Batch.{idle_count}
use Rattle.review_journal.proofs.idle.idle_entries.Given as goal

abbrev pub invariant-loop-entry : goal.invariant-loop-entry
invariant-loop-entry l =
    (l.idle ≡ idle_count l.possible (take l.entry-index l.entry-items)) × (l.idle ≤ l.entry-index) × (length l.entry-items ≤ MOST_ENTRIES)
