use Rattle.std.proofs.Common.{take}
use Rattle.link_report.specs.LineParts.{ArePlain}
use Rattle.link_report.proofs.id_fields.are_plain.Given as goal

abbrev pub invariant-loop-at : goal.invariant-loop-at
invariant-loop-at l = ArePlain (take l.at l.file)
