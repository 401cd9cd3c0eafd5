use Rattle.std.proofs.Common.{◌≡◌, ◌+◌, ◌<◌, length, take, drop, true}
use Rattle.review_journal.specs.Batch.{is_not_before, with_verdicts}
use Rattle.review_journal.proofs.journal.Journal.push_verdicts.Given as goal

abbrev pub invariant-loop-row : goal.invariant-loop-row
invariant-loop-row l = record {
  told : with_verdicts l.double l.date l.reviewer l.self (drop l.row-index l.rows) ≡ with_verdicts l.double l.date l.reviewer l.fn.self l.rows;
  count : length l.self ≡ length l.fn.self + l.row-index;
  kept : take (length l.fn.self) l.self ≡ l.fn.self;
  not_back : 0 < length l.rows → is_not_before l.self l.date ≡ true;
}
