-- Machinery of the lines of pairs: ids as fields of lines, the start of a line, and its end, which many lines share. No public
-- clause names it.
use Rattle.std.specs.Prelude.{◌≡◌, ◌≤◌, All, Bool, List, ℕ, [], ◌∷◌, ◌++◌, decimal, length, map, take, Option, Some, None}
use Rattle.std.specs.Fmt.{signed_decimal}
use Rattle.csv.specs.Writing.{default_writer, field_text, row_text}
use Rattle.link_base.specs.Words.{id_at, Record}
use Rattle.link_base.specs.declared.rule.PairAt.{PairAt}
use Rattle.link_report.specs.PairsText.{decision_word, printed_verdict}
use Rattle.link_report.specs.LinksText.{outcome_letters, source_of_link}
use Rattle.link_report.specs.declared.ends.LineEnd.{LineEnd}
use Rattle.link_report.specs.declared.open.PairRow.{PairRow}
use Rattle.link_base.specs.declared.rule.Candidate.{Candidate}
use Rattle.link_report.specs.declared.links.LinkEnd.{LinkEnd}

-- the ids of records as fields of a line
abbrev pub id_fields : List Record → List (List ℕ)
id_fields records = map (λ (r : Record). field_text default_writer r.id) records

-- the ids of records are fields as they are
abbrev pub ArePlain : List Record → Type 0
ArePlain records = All (λ (r : Record). field_text default_writer r.id ≡ r.id) records

-- fields that are kept are the ids of records; where none are kept, the ids are fields as they are
abbrev pub HasFields : List Record → Option (List (List ℕ)) → Type 0
HasFields records None = ArePlain records
HasFields records (Some fields) = fields ≡ id_fields records

-- two fields, and the comma between them
abbrev pub two_fields : List ℕ → List ℕ → List ℕ
two_fields first second = (first ++ 44 ∷ []) ++ second

-- the first two fields of a line: the ids of a pair
abbrev pub line_start : List Record → List Record → PairAt → List ℕ
line_start a b at = two_fields (field_text default_writer (id_at a at.a)) (field_text default_writer (id_at b at.b))

-- the end of the line of a pair, from the comma behind its ids on: the row of an empty field and of those that follow the ids
abbrev pub pair_end : List Bool → PairRow → List ℕ
pair_end rares row =
    row_text default_writer ([] ∷ decimal row.pattern ∷ outcome_letters rares row.pattern ∷ signed_decimal row.weight
    ∷ decision_word row.decision ∷ printed_verdict row.verdict ∷ [])

-- the bytes of an end that is kept
abbrev pub KeepsEnd : List ℕ → LineEnd → Type 0
KeepsEnd bytes end = (end.bytes ≤ length end.text.items) × (take end.bytes end.text.items ≡ bytes)

-- an end that is kept is that of the pair that it was written for
abbrev pub IsEnd : List Bool → LineEnd → Type 0
IsEnd rares end = KeepsEnd (pair_end rares end.of) end

-- Machinery of the text of the final links: the end of a line. No public clause names it.

-- the pair of a link
abbrev pub pair_of : Candidate → PairAt
pair_of link = record { a = link.a; b = link.b }

-- the end of the line of a link, from the comma behind its ids on: the row of an empty field and of those that follow the ids
abbrev pub end_of_link : Candidate → List ℕ
end_of_link link = row_text default_writer ([] ∷ signed_decimal link.weight ∷ signed_decimal link.value ∷ source_of_link link.reviewed ∷ [])

-- the bytes of an end that is kept
abbrev pub KeepsLinkEnd : List ℕ → LinkEnd → Type 0
KeepsLinkEnd bytes end = (end.bytes ≤ length end.text.items) × (take end.bytes end.text.items ≡ bytes)

-- an end that is kept is that of the link that it was written for
abbrev pub IsLinkEnd : LinkEnd → Type 0
IsLinkEnd end = KeepsLinkEnd (end_of_link end.of) end
