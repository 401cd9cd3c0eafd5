use Rattle.std.proofs.Common.{◌≡◌, ◌≤◌, length}
use Rattle.file_reader.specs.Words.{field_columns, heading_of, IsUnderway}
use Rattle.file_reader.proofs.rows.fill_rows.Given as goal

abbrev pub invariant-rows : goal.invariant-rows
invariant-rows g l = record {
  width : g.T.RowTaker.width l.taker ≡ length (field_columns (heading_of l.head));
  most : l.head.most_rows ≤ g.T.RowTaker.most l.taker;
  underway : IsUnderway (λ rows. g.T.RowTaker.took l.fn.taker rows l.taker) (heading_of l.head) l.rows l.ids l.fn.left l.left;
}

abbrev pub decreases-rows : goal.decreases-rows
decreases-rows g l = length l.left
