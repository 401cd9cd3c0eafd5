use Rattle.std.proofs.Common.{◌≡◌, ◌++◌, take, flat_map}
use Rattle.link_report.specs.PairsText.{pair_row}
use Rattle.pair_decisions.specs.Words.{shown_rows}
use Rattle.pair_decisions.proofs.lines.write_lines.Given as goal

abbrev pub invariant-loop-row : goal.invariant-loop-row
invariant-loop-row l = record {
  rares : l.writer.rares ≡ l.fn.writer.rares;
  text : l.writer.text ≡ l.fn.writer.text ++ flat_map (pair_row l.fn.writer.rares l.a l.b) (shown_rows l.rule.cells l.journal (take l.row-index l.rows));
}
