use Rattle.std.proofs.Common.{◌∙◌, arith, take_all}
use Rattle.csv.specs.Writing.{default_writer, row_text}
use Rattle.link_report.specs.LinksText.{open_header, open_row}
use Rattle.link_report.proofs.HeaderLemmas.{rows_more}
use Rattle.link_report.proofs.open.open_text.Goals as goal

pub loop-row-preserved : goal.loop-row-preserved
loop-row-preserved c =
    rows_more (open_row c.args.a.now c.args.b.now) (row_text default_writer open_header) c.loop-row.text.items c.push_open.new.text.items c.args.rows.now c.loop-row.row-index _ (omega arith) c.loop-row.invariant c.in_ok-push_open.ensures

pub returns : goal.returns
returns c = c.of.ensures ∙ (rw (take_all c.loop-row.row-index c.args.rows.now c.loop-row-test.false) at c.loop-row.invariant)
