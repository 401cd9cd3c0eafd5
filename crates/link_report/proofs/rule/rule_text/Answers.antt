use Rattle.std.proofs.Common.{◌∙◌, ap, arith, take_all}
use Rattle.csv.specs.Writing.{default_writer, row_text}
use Rattle.link_report.specs.LinksText.{cell_row, rule_header, text_of_rule}
use Rattle.link_report.proofs.HeaderLemmas.{rows_more}
use Rattle.patterns.specs.Patterns.{rare_of}
use Rattle.link_report.proofs.rule.rule_text.Goals as goal

pub loop-cell-preserved : goal.loop-cell-preserved
loop-cell-preserved c =
    rows_more (cell_row (rare_of c.args.shape.now)) (row_text default_writer rule_header) c.loop-cell.text.items c.push_cell.new.text.items c.cells-cell-items.result.now c.loop-cell.cell-index _ (omega arith) c.loop-cell.invariant c.in_ok-push_cell.ensures

pub returns : goal.returns
returns c =
    c.of.ensures ∙ (rw (take_all c.loop-cell.cell-index c.cells-cell-items.result.now c.loop-cell-test.false) at c.loop-cell.invariant) ∙ ap (text_of_rule (rare_of c.args.shape.now)) c.cells-cell-items.ensures.all
