use Rattle.std.proofs.Common.{◌≡◌, ◌++◌, ◌∷◌, [], take, flat_map}
use Rattle.csv.specs.Writing.{default_writer, field_text}
use Rattle.link_base.specs.Words.{id_at}
use Rattle.link_report.specs.LineParts.{two_fields}
use Rattle.link_report.proofs.ids.push_lines.Given as goal

abbrev pub invariant-loop-partner : goal.invariant-loop-partner
invariant-loop-partner l = l.text.items ≡ l.fn.text.items ++ flat_map (λ j. two_fields l.first (field_text default_writer (id_at l.b j)) ++ 10 ∷ []) (take l.partner-index l.partners)
