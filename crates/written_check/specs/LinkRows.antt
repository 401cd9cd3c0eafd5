-- What refutes written links: the first row that is not that of a candidate after those before it (`verify_links`, clause `answer`), and
-- then the first link with a record of an earlier one (`verify_apart`, clause `answer`).
use Rattle.std.specs.Prelude.{◌<◌, ℕ, Bool, true, false, List, Option, Some, None, Result, Ok, Err, ⊤, ◌≡◌, ◌==◌, ◌&&◌, ◌||◌, ◌+◌, All, [], ◌∷◌, ◌++◌, bytes_eq, find, if◌then◌else◌, length, MatchOption, nat_lt, slice_index_or, map}
use Rattle.file_reader.specs.Words.{records_in}
use Rattle.link_base.specs.Words.{GivesBut, and_then, id_at, Record}
use Rattle.link_report.specs.Reading.{rows_under, same_row}
use Rattle.written_check.specs.declared.refutation.Refutation.{Refutation}
use Rattle.std.specs.List.{list_all, list_any}
use Rattle.price_check.specs.Assignment.{no_candidate}
use Rattle.link_base.specs.declared.rule.Candidate.{Candidate}
use Rattle.link_report.specs.LinksText.{link_fields, links_header, cell_fields, rule_header}
use Rattle.link_base.specs.declared.rule.RuleCell.{RuleCell}
use Rattle.written_check.specs.declared.refutation.Refutation.TheVariants as refutation

-- Answers that are as defined, but for want of memory, and what refutes the form of a file (`verify_written`, clauses `answer` and
-- `within`).

-- want of memory refutes nothing
abbrev pub is_want : Refutation → Bool
is_want refutation.NoMemory = true
is_want r = false

-- an answer, seen by a view, is as defined, but for want of memory
abbrev pub Verifies : {X T : Type 0} → (X → T) → Result T Refutation → Result X Refutation → Type 0
Verifies view expected result = GivesBut is_want view expected result

-- what was found, or what the number of a row refutes
abbrev pub refuted_by : {T : Type 0} → (ℕ → Refutation) → Result T ℕ → Result T Refutation
refuted_by refutes (Ok x) = Ok x
refuted_by refutes (Err number) = Err (refutes number)

abbrev pub unless_row : {T : Type 0} → (ℕ → Refutation) → T → Option ℕ → Result T Refutation
unless_row refutes x None = Ok x
unless_row refutes x (Some number) = Err (refutes number)

-- the rows of a file under its header: its form comes before what its rows hold
abbrev pub rows_of_file : (ℕ → Refutation) → List (List ℕ) → List ℕ → Result (List (List (List ℕ))) Refutation
rows_of_file refutes header text = refuted_by refutes (rows_under header (records_in 44 text))

-- machinery of the steps: a reason of the rows of a file (clauses `kind`)
abbrev pub IsOfRows : Refutation → Type 0
IsOfRows (refutation.Uncovered at) = ⊥
IsOfRows r = ⊤

-- a candidate that is named has records of both files
abbrev pub IsRefutationWithin : ℕ → ℕ → Refutation → Type 0
IsRefutationWithin rows_a rows_b (refutation.Uncovered at) = (at.a < rows_a) × (at.b < rows_b)
IsRefutationWithin rows_a rows_b r = ⊤

-- the candidate whose row this is, if there is one
abbrev pub candidate_in : List Candidate → List Record → List Record → List (List ℕ) → Option Candidate
candidate_in candidates a b row = find (λ c. same_row (link_fields a b c) row) candidates

-- x stands before y by position
abbrev pub goes_before : Candidate → Candidate → Bool
goes_before x y = nat_lt x.a y.a || ((x.a == y.a) && nat_lt x.b y.b)

-- a candidate that stands after each of those before it
abbrev pub after_all : List Candidate → Option Candidate → Option Candidate
after_all taken None = None
after_all taken (Some c) = if list_all (λ d. goes_before d c) taken then Some c else None

-- the links after those that were taken, and one more
abbrev pub taken_more : (List Candidate → Result (List Candidate) Refutation) → List Candidate → Option Candidate → Result (List Candidate) Refutation
taken_more go taken None = Err (refutation.Link (length taken + 1))
taken_more go taken (Some c) = go (taken ++ c ∷ [])

-- the candidates of rows, after those that were taken
abbrev pub links_in : List Candidate → List Record → List Record → List Candidate → List (List (List ℕ)) → Result (List Candidate) Refutation
links_in candidates a b taken [] = Ok taken
links_in candidates a b taken (row ∷ rows) =
    taken_more (λ more. links_in candidates a b more rows) taken (after_all taken (candidate_in candidates a b row))

-- the links of a written file: each row has the fields of a candidate, rising strictly by position
abbrev pub links_verified : List Candidate → List Record → List Record → List ℕ → Result (List Candidate) Refutation
links_verified candidates a b text = and_then (rows_of_file refutation.Link links_header text) (λ rows. links_in candidates a b [] rows)

-- two links share a record
abbrev pub shares_record : Candidate → Candidate → Bool
shares_record x y = (x.a == y.a) || (x.b == y.b)

-- the number of the first link, after those that stand before, with a record that an earlier one has
abbrev pub first_reused : List Candidate → List Candidate → Option ℕ
first_reused before [] = None
first_reused before (c ∷ links) = if list_any (shares_record c) before then Some (length before + 1) else first_reused (before ++ c ∷ []) links

-- no record stands in two links
abbrev pub apart_verified : List Candidate → Result (List Candidate) Refutation
apart_verified links = unless_row refutation.Reused links (first_reused [] links)

-- machinery: a candidate has the ids of a row, and the test of it
abbrev pub HasRowIds : List Record → List Record → List (List ℕ) → Candidate → Type 0
HasRowIds a b row c = (id_at a c.a ≡ slice_index_or row 0 []) × (id_at b c.b ≡ slice_index_or row 1 [])

abbrev pub has_ids : List Record → List Record → List (List ℕ) → Candidate → Bool
has_ids a b row c = bytes_eq (id_at a c.a) (slice_index_or row 0 []) && bytes_eq (id_at b c.b) (slice_index_or row 1 [])

-- machinery: a candidate with the ids of a row stands here
abbrev pub IsPlaceWithIds : List Candidate → List Record → List Record → List (List ℕ) → ℕ → Type 0
IsPlaceWithIds candidates a b row k = (k < length candidates) × (has_ids a b row (slice_index_or candidates k no_candidate) ≡ true)

-- machinery: where the candidate with the ids of a row stands, if there is one, which is the only one
abbrev pub IsPlaceOf : List Candidate → List Record → List Record → List (List ℕ) → Option ℕ → Type 0
IsPlaceOf candidates a b row place = MatchOption place
    (All (λ (c : Candidate). HasRowIds a b row c → ⊥) candidates)
    (λ k. (k < length candidates) × All (λ (c : Candidate). HasRowIds a b row c → c ≡ slice_index_or candidates k no_candidate) candidates)

-- machinery: the candidate at a place
abbrev pub at_place : List Candidate → Option ℕ → Option Candidate
at_place candidates None = None
at_place candidates (Some k) = Some (slice_index_or candidates k no_candidate)

-- What refutes a written rule: its first row that is not the row of its cell (`verify_rule`, clause `answer`).

-- the number of the first row, counted from `number` on, that is not the one that is wanted in its place, is missing, or is one too many
abbrev pub first_difference : ℕ → List (List (List ℕ)) → List (List (List ℕ)) → Option ℕ
first_difference number [] [] = None
first_difference number [] (w ∷ wanted) = Some number
first_difference number (row ∷ rows) [] = Some number
first_difference number (row ∷ rows) (w ∷ wanted) = if same_row row w then first_difference (number + 1) rows wanted else Some number

-- a written rule whose rows are those of the cells, in their order
abbrev pub rule_verified : List Bool → List RuleCell → List ℕ → Result (List ℕ) Refutation
rule_verified rares cells text =
    and_then (rows_of_file refutation.Rule rule_header text) (λ rows. unless_row refutation.Rule text (first_difference 1 rows (map (cell_fields rares) cells)))

-- machinery: a call takes the next row, and says whether there was one and it is the one that is wanted
abbrev pub TakesCellRow : List (List ℕ) → List (List (List ℕ)) → List (List (List ℕ)) → Bool → Type 0
TakesCellRow wanted [] new takes = (takes ≡ false) × (new ≡ [])
TakesCellRow wanted (row ∷ rows) new takes = (takes ≡ same_row row wanted) × (new ≡ rows)
