use Rattle.std.proofs.Common.{◌≡◌, All, [], length, drop}
use Rattle.review_journal.specs.Verdict.{IsWithinFiles}
use Rattle.review_journal.specs.Reading.{entries_read}
use Rattle.review_journal.proofs.reading.entries_in.Given as goal

abbrev pub invariant-loop-at : goal.invariant-loop-at
invariant-loop-at l = record {
  told : entries_read l.second l.a l.b [] l.table ≡ entries_read l.second l.a l.b l.journal (drop l.at l.table);
  count : length l.journal ≡ l.at;
  within : All (IsWithinFiles (length l.a) (length l.b)) l.journal;
}
