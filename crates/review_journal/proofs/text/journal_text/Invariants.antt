use Rattle.std.proofs.Common.{◌≡◌, ◌++◌, drop}
use Rattle.std.specs.List.{enumerate_from, flat_map}
use Rattle.review_journal.specs.Reading.{entry_line, text_of_journal}
use Rattle.review_journal.proofs.text.journal_text.Given as goal

abbrev pub invariant-loop-at : goal.invariant-loop-at
invariant-loop-at l =
    l.text.items ++ flat_map (entry_line l.a l.b) (enumerate_from l.at (drop l.at l.entries)) ≡ text_of_journal l.a l.b l.entries
