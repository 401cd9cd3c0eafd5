use Rattle.std.proofs.Common.{◌≡◌, ◌++◌, drop, take}
use Rattle.link_report.specs.ReportText.{first_lines_of}
use Rattle.link_report.proofs.first.end_of_lines.Given as goal

abbrev pub invariant-loop-at : goal.invariant-loop-at
invariant-loop-at l = take l.at l.text ++ first_lines_of l.left (drop l.at l.text) ≡ first_lines_of l.count l.text
