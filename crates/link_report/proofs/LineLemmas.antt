-- The lines of pairs, as their ids and ends.
use Rattle.std.proofs.Common.{◌≡◌, ◌∙◌, ◌++◌, ◌∷◌, ℕ, Bool, List, [], append_assoc, decimal, map, sym, ◌<◌, ◌&&◌, ◌^◌, suc, ℤ, pos, negsuc, true, false, arith, inl, inr, refl, w64, FitsSigned}
use Rattle.std.proofs.lemmas.List.Folds.{flat_map-map}
use Rattle.std.specs.Fmt.{signed_decimal}
use Rattle.std.specs.List.{flat_map, list_all}
use Rattle.csv.specs.Writing.{default_writer, field_text, fields_text, is_blank, needs_byte, needs_quotes, row_text}
use Rattle.link_base.specs.Words.{id_at, Record}
use Rattle.link_base.specs.declared.rule.Candidate.{Candidate}
use Rattle.link_base.specs.declared.rule.PairAt.{PairAt}
use Rattle.link_report.specs.LineParts.{line_start, pair_end, two_fields, end_of_link, pair_of}
use Rattle.link_report.specs.LinksText.{link_row, source_of_link, outcome_letters}
use Rattle.link_report.specs.PairsText.{ids_line, pair_with, decision_word, pair_row, printed_verdict}
use Rattle.link_report.specs.declared.open.PairRow.{PairRow}
use Rattle.std.specs.Char.{is_ascii_digit}
use Rattle.std.proofs.lemmas.Bool.{cases_Bool, false≢true}
use Rattle.std.proofs.lemmas.Bool.Decides.{nat_tests}
use Rattle.csv_rows.specs.NumberLaws.{decimal_is_decimal}

-- the ids of a pair, other fields and the line feed
parts : (a b : List Record) (at : PairAt) (start rest : List ℕ)
    → (start ++ line_start a b at) ++ (rest ++ 10 ∷ []) ≡ start ++ ((field_text default_writer (id_at a at.a) ++ (44 ∷ (field_text default_writer (id_at b at.b) ++ rest))) ++ 10 ∷ [])
parts a b at start rest = simp append_assoc

-- the ids and the end are the line of a pair
pub pair_written : (rares : List Bool) (a b : List Record) (row : PairRow) (start mid new : List ℕ)
    → mid ≡ start ++ line_start a b row.at → new ≡ mid ++ pair_end rares row → new ≡ start ++ pair_row rares a b row
unfolding fields_text is_blank
pair_written rares a b row start mid new ids end =
    let rest = fields_text default_writer (decimal row.pattern ∷ outcome_letters rares row.pattern ∷ signed_decimal row.weight ∷ decision_word row.decision ∷ printed_verdict row.verdict ∷ []) in
    rw (end, ids) (parts a b row.at start rest)

-- the ids and the line feed are the line of ids
line_of_ids : (a b : List Record) (at : PairAt) → line_start a b at ++ 10 ∷ [] ≡ ids_line a b at
unfolding fields_text is_blank
line_of_ids a b at = parts a b at [] []

-- the lines behind the field of a record of A are those of its pairs
pub lines_of_ids : (a b : List Record) (at : ℕ) (first : List ℕ) (js : List ℕ) → first ≡ field_text default_writer (id_at a at)
    → flat_map (λ j. two_fields first (field_text default_writer (id_at b j)) ++ 10 ∷ []) js ≡ flat_map (ids_line a b) (map (pair_with at) js)
lines_of_ids a b at first js of_a =
    (λ i. flat_map (λ j. two_fields (of_a i) (field_text default_writer (id_at b j)) ++ 10 ∷ []) js) ∙ (λ i. flat_map (λ j. line_of_ids a b (pair_with at j) i) js)
    ∙ sym (flat_map-map (ids_line a b) (pair_with at) js)

-- the ids and the end are the line of a link
pub link_written : (a b : List Record) (link : Candidate) (start mid new : List ℕ)
    → mid ≡ start ++ line_start a b (pair_of link) → new ≡ mid ++ end_of_link link → new ≡ start ++ link_row a b link
unfolding fields_text is_blank
link_written a b link start mid new ids end =
    let rest = fields_text default_writer (signed_decimal link.weight ∷ signed_decimal link.value ∷ source_of_link link.reviewed ∷ []) in
    rw (end, ids) (parts a b (pair_of link) start rest)

-- Fields that call for no quotes: decimal digits, and the name of a side.

digit_plain : (b : ℕ) → is_ascii_digit b ≡ true → needs_byte default_writer b ≡ false
digit_plain b h = grind (arith, nat_tests, h)

pub digits_plain : (bs : List ℕ) → list_all is_ascii_digit bs ≡ true → needs_quotes default_writer bs ≡ false
digits_plain [] h = refl
digits_plain (b ∷ bs) h =
    elim (cases_Bool (is_ascii_digit b)) [
      | inl digit ↦ rw (digit_plain b digit) (digits_plain bs (rw digit at h))
      | inr other ↦ absurd (false≢true (rw other at h))
    ]

all_digits : (long digits led : Bool) → (long && digits && led) ≡ true → digits ≡ true
all_digits true true led h = refl
all_digits true false led h = h
all_digits false digits led h = absurd (false≢true h)

decimal_plain : (n : ℕ) → n < 2 ^ 64 → needs_quotes default_writer (decimal n) ≡ false
decimal_plain n small = digits_plain (decimal n) (all_digits _ _ _ (decimal_is_decimal n small))

-- a number that is written needs no quotes
pub signed_plain : (n : ℤ) → FitsSigned w64 n → needs_quotes default_writer (signed_decimal n) ≡ false
signed_plain (pos n) fits = decimal_plain n (omega (arith, fits))
signed_plain (negsuc n) fits = decimal_plain (suc n) (omega (arith, fits))

-- a row of a plain field, an id and a plain field
pub plain_row : (side id digits : List ℕ) → needs_quotes default_writer side ≡ false → needs_quotes default_writer digits ≡ false
    → row_text default_writer (side ∷ id ∷ digits ∷ []) ≡ side ++ (44 ∷ (field_text default_writer id ++ (44 ∷ (digits ++ 10 ∷ []))))
unfolding fields_text is_blank
plain_row side id digits s d = rw (s, d) (simp append_assoc)

-- its parts, one after the other
pub priced_written : (start side id digits first second third comma fourth new : List ℕ) → needs_quotes default_writer side ≡ false → needs_quotes default_writer digits ≡ false
    → first ≡ start ++ side → second ≡ first ++ 44 ∷ [] → third ≡ second ++ field_text default_writer id → comma ≡ third ++ 44 ∷ [] → fourth ≡ comma ++ digits → new ≡ fourth ++ 10 ∷ []
    → new ≡ start ++ row_text default_writer (side ∷ id ∷ digits ∷ [])
priced_written start side id digits first second third last fourth new s d a b c k e l =
    rw (l, e, k, c, b, a, plain_row side id digits s d) (simp append_assoc)
