use Rattle.std.proofs.Common.{◌≡◌, ◌<◌, ◌≤◌, ◌+◌, ◌++◌, drop, length, IfSome, All}
use Rattle.std.specs.Option.{option_or}
use Rattle.link_base.specs.Words.{IsValid}
use Rattle.standard_files.specs.Values.{standard_values, unreadable_from, unreadable_in_row}
use Rattle.standard_files.proofs.row.StandardRow.take_in.Given as goal

abbrev pub invariant-loop-column : goal.invariant-loop-column
invariant-loop-column l = record {
  rows : l.rows.rows ≡ l.fn.rows.rows;
  count : length l.rows.row ≡ l.column;
  few : l.self.unreadable ≤ l.column;
  within : IfSome l.self.first (λ place. place < l.column);
  values : l.rows.row ++ standard_values l.tables (drop l.column l.sorts) (drop l.column l.row) ≡ standard_values l.tables l.sorts l.row;
  unreadable : l.self.unreadable + unreadable_in_row l.tables (drop l.column l.sorts) (drop l.column l.row) ≡ unreadable_in_row l.tables l.sorts l.row;
  first : option_or l.self.first (unreadable_from l.tables l.column (drop l.column l.sorts) (drop l.column l.row)) ≡ unreadable_from l.tables 0 l.sorts l.row;
  valid : All IsValid l.rows.row;
}
