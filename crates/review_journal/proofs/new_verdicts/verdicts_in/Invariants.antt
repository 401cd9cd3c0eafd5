use Rattle.std.proofs.Common.{◌≡◌, All, [], length, drop}
use Rattle.review_journal.specs.Batch.{NamesRecords, verdicts_read}
use Rattle.review_journal.proofs.new_verdicts.verdicts_in.Given as goal

abbrev pub invariant-loop-at : goal.invariant-loop-at
invariant-loop-at l = record {
  told : verdicts_read l.a l.b [] l.table ≡ verdicts_read l.a l.b l.rows.items (drop l.at l.table);
  count : length l.rows.items ≡ l.at;
  placed : All (NamesRecords (length l.a) (length l.b)) l.rows.items;
}
