use Rattle.std.proofs.Common.{◌≡◌, take}
use Rattle.link_report.specs.LinksText.{text_of_open}
use Rattle.link_report.proofs.open.open_text.Given as goal

abbrev pub invariant-loop-row : goal.invariant-loop-row
invariant-loop-row l = l.text.items ≡ text_of_open l.a l.b (take l.row-index l.rows)
