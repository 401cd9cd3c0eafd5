-- A row as the code holds it (`row_at`, its lone clause).
use Rattle.std.specs.Prelude.{option_map}
use Rattle.review_journal.specs.Rows.{Written}
use Rattle.review_journal.specs.declared.row.Row.{Row}

abbrev pub written_of : Row → Written
written_of r = record {
  number = r.number.now;
  date = r.date.now;
  reviewer = r.reviewer.now;
  step = option_map (λ s. s.now) r.step;
  id_a = r.id_a.now;
  id_b = r.id_b.now;
  verdict = r.verdict.now;
}
