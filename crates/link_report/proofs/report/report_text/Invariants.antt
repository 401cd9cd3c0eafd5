use Rattle.std.proofs.Common.{◌≡◌, ◌++◌, take, flat_map}
use Rattle.link_report.specs.ReportText.{dropped_row, report_head}
use Rattle.link_report.proofs.report.report_text.Given as goal

abbrev pub invariant-loop-dropped : goal.invariant-loop-dropped
invariant-loop-dropped l = l.text.items ≡ report_head l.a l.b l.report ++ flat_map (dropped_row l.a l.b) (take l.dropped-index l.report.dropped.items)
