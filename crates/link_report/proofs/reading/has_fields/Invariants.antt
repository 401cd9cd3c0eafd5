use Rattle.std.proofs.Common.{◌≡◌, drop, map}
use Rattle.csv.specs.Records.{fields_of}
use Rattle.link_report.specs.Reading.{same_row}
use Rattle.link_report.proofs.reading.has_fields.Given as goal

abbrev pub invariant-loop-at : goal.invariant-loop-at
invariant-loop-at l =
    same_row (drop l.at (fields_of l.row)) (drop l.at (map (λ field. field.now) l.fields)) ≡ same_row (fields_of l.row) (map (λ field. field.now) l.fields)
