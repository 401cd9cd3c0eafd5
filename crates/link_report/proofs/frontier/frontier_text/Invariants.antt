use Rattle.std.proofs.Common.{◌≡◌, ◌++◌, take, zip, flat_map}
use Rattle.csv.specs.Writing.{default_writer, row_text}
use Rattle.link_report.specs.LinksText.{frontier_header, level_row}
use Rattle.link_report.proofs.frontier.frontier_text.Given as goal

abbrev pub invariant-loop-at : goal.invariant-loop-at
invariant-loop-at l = l.text.items ≡ row_text default_writer frontier_header ++ flat_map level_row (take l.at (zip l.mus l.rows))
