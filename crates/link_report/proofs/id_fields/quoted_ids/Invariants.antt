use Rattle.std.proofs.Common.{◌≡◌, take}
use Rattle.link_report.specs.LineParts.{id_fields}
use Rattle.link_report.proofs.id_fields.quoted_ids.Given as goal

abbrev pub invariant-loop-at : goal.invariant-loop-at
invariant-loop-at l = l.fields ≡ id_fields (take l.at l.file)
