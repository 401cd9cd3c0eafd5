use Rattle.std.proofs.Common.{◌≡◌, ◌≤◌, ◌+◌, drop, length, map}
use Rattle.link_report.specs.LinksText.{cell_fields}
use Rattle.patterns.specs.Patterns.{rare_of}
use Rattle.written_check.specs.LinkRows.{first_difference}
use Rattle.written_check.proofs.rule.difference_in.Given as goal

abbrev pub invariant-loop-cell : goal.invariant-loop-cell
invariant-loop-cell l = record {
  short : l.number + length l.rows ≤ length l.fn.rows + 1;
  told : first_difference 1 l.fn.rows (map (cell_fields (rare_of l.shape)) l.table.cells.items)
      ≡ first_difference l.number l.rows (map (cell_fields (rare_of l.shape)) (drop l.cell-index l.table.cells.items));
}
