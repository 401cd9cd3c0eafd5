use Rattle.std.proofs.Common.{◌≡◌, ◌++◌, drop, map}
use Rattle.csv.specs.Writing.{default_writer, fields_text}
use Rattle.csv_rows.proofs.rows.push_rest.Given as goal

abbrev pub invariant-loop-field : goal.invariant-loop-field
invariant-loop-field l =
    l.text.items ++ fields_text default_writer (map (λ field. field.now) (drop l.field-index l.fields))
    ≡ l.fn.text.items ++ fields_text default_writer (map (λ field. field.now) l.fields)
