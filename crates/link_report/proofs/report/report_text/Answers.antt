use Rattle.std.proofs.Common.{◌∙◌, ap, arith, length, take_all}
use Rattle.link_report.specs.ReportText.{dropped_row, report_head}
use Rattle.link_report.proofs.HeaderLemmas.{rows_more}
use Rattle.link_report.proofs.report.report_text.Goals as goal

pub loop-dropped-preserved : goal.loop-dropped-preserved
loop-dropped-preserved c =
    let a = c.args.a.now in
    let b = c.args.b.now in
    let report = c.args.report.now in
    let same = c.deref-dropped-items.ensures.value in
    let more = rw same at c.in_ok-push_dropped.ensures in
    rows_more (dropped_row a b) (report_head a b report) c.loop-dropped.text.items c.push_dropped.new.text.items report.dropped.items c.loop-dropped.dropped-index _ (omega (arith, ap length same)) c.loop-dropped.invariant more

pub returns : goal.returns
returns c =
    c.of.ensures ∙ (rw (take_all c.loop-dropped.dropped-index c.args.report.now.dropped.items (omega (arith, ap length c.deref-dropped-items.ensures.value))) at c.loop-dropped.invariant)
