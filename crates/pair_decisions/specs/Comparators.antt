-- The comparators of a plan's fields over ids of canons and over days. A field with a rare number tells agreement on a
-- value that stands in at most so many rows of both files together from other agreement (Newcombe et al. 1959).
-- `comparisons_of` carries it (part `answers` of its lone clause).
use Rattle.std.specs.Prelude.{◌≡◌, ◌+◌, ◌<◌, ◌==◌, ℕ, Bool, true, false, List, map, filter, length, Option, Some, None, slice_index, slice_index_or, is_some, [], ◌≤◌, All, ⊤}
use Rattle.std.specs.List.{enumerate_from, range_with_len}
use Rattle.value_forms.specs.declared.canons.CompareKind.{CompareKind}
use Rattle.link_base.specs.declared.rule.Outcome.{Outcome}
use Rattle.comparators.specs.Fields.{field_of, field_outcome, field_rare, id_in, IsFieldSide, StandsFor}
use Rattle.comparators.specs.Laws.{outcome_by, outcome_of_counted}
use Rattle.comparators.specs.declared.ids.FieldById.{FieldById}
use Rattle.comparators.specs.declared.ids.IdValue.{IdValue}
use Rattle.link_plan.specs.Plan.{FieldKeys}
use Rattle.link_base.specs.Words.{Record, absent_value, no_record}
use Rattle.link_limits.specs.declared.TheConstants.{MOST_FIELDS}
use Rattle.patterns.specs.Patterns.{AreSides}
use Rattle.comparators.specs.declared.ids.IdValue.TheVariants as id
use Rattle.comparators.specs.declared.ids.FieldById.TheVariants as field

-- a comparator as its answers: whether `Rare` is one of them, and the outcome of two sides
pub record SideComparator (S : Type 0) : Type 0 where
  pub rare : Bool
  pub outcome : S → S → Outcome

abbrev pub answers_of : FieldById → SideComparator IdValue
answers_of c = record { rare = field_rare c; outcome = field_outcome c }

-- whether a comparator looks at ids alone
abbrev pub is_same_id : FieldById → Bool
is_same_id field.Same = true
is_same_id (field.Rare most counts) = false
is_same_id (field.Days t) = false
is_same_id (field.Years t) = false

-- whether the side of a row in a field is this id
abbrev pub is_id : ℕ → IdValue → Bool
is_id n id.Absent = false
is_id n (id.Id place) = place == n
is_id n (id.Day day) = false

abbrev pub has_id : ℕ → ℕ → List IdValue → Bool
has_id field n row = is_id n (slice_index_or row field id.Absent)

-- how many rows of A and of B, together, have an id in a field
abbrev pub count_of_id : List (List IdValue) → List (List IdValue) → ℕ → ℕ → ℕ
count_of_id rows_a rows_b field n = length (filter (has_id field n) rows_a) + length (filter (has_id field n) rows_b)

-- the counts of all ids in a field
abbrev pub id_counts : ℕ → List (List IdValue) → List (List IdValue) → ℕ → List ℕ
id_counts texts rows_a rows_b field = map (count_of_id rows_a rows_b field) (range_with_len 0 texts)

-- machinery: to the count of each id a number is added
pub record AddsCounts (more : ℕ → ℕ) (old new : List ℕ) : Type 0 where
  pub as_many : length new ≡ length old
  pub counts : (k : ℕ) → k < length old → slice_index new k ≡ slice_index old k + more k

-- the comparator of a kind, and where there is a rare number the one that answers `Rare` by it and these counts
abbrev pub comparator_by : CompareKind → List ℕ → Option ℕ → SideComparator IdValue
comparator_by kind counts None = answers_of (field_of kind)
comparator_by kind counts (Some most) = record { rare = true; outcome = λ x y. outcome_by (outcome_of_counted most counts) (id_in x) (id_in y) }

-- the comparator of the field at a place
abbrev pub comparator_at : ℕ → List (List IdValue) → List (List IdValue) → ℕ × FieldKeys → SideComparator IdValue
comparator_at texts rows_a rows_b at = comparator_by at.1.compare (id_counts texts rows_a rows_b at.0) at.1.rare

abbrev pub comparators_of : ℕ → List FieldKeys → List (List IdValue) → List (List IdValue) → List (SideComparator IdValue)
comparators_of texts fields rows_a rows_b = map (comparator_at texts rows_a rows_b) (enumerate_from 0 fields)

-- which fields have a rare number
abbrev pub rares_of : List FieldKeys → List Bool
rares_of fields = map (λ (f : FieldKeys). is_some f.rare) fields

-- Ids that stand for the values of two files: what the laws `rare_counts` and `same_patterns` ask of them.

-- the sides of a field stand for its values, row by row
pub record StandInField (texts : List (List ℕ)) (kind : CompareKind) (field : ℕ) (file : List Record) (rows : List (List IdValue)) : Type 0 where
  pub as_many : length rows ≡ length file
  pub stand : (at : ℕ) → at < length file
      → StandsFor texts kind (slice_index_or (slice_index_or file at no_record).row field absent_value) (slice_index_or (slice_index_or rows at []) field id.Absent)

-- each row has a value and a side for each field, and the side stands for the value
pub record StandForFile (texts : List (List ℕ)) (fields : List FieldKeys) (file : List Record) (rows : List (List IdValue)) : Type 0 where
  pub as_many : length rows ≡ length file
  pub values : (at : ℕ) → at < length file → length (slice_index_or file at no_record).row ≡ length fields
  pub sides : (at : ℕ) → at < length file → length (slice_index_or rows at []) ≡ length fields
  pub stand : (k : ℕ) (f : FieldKeys) → k < length fields → StandInField texts (slice_index_or fields k f).compare k file rows

-- What the comparators of a plan are asked of: the sides that `pool_values` gives for the rows of a file, as far as
-- `comparisons_of` needs them (clauses `sides_a`, `sides_b`), and the comparators that it gives (its lone clause).

-- an id names one of so many texts
abbrev pub IsOfTexts : ℕ → IdValue → Type 0
IsOfTexts texts id.Absent = ⊤
IsOfTexts texts (id.Id place) = place < texts
IsOfTexts texts (id.Day day) = ⊤

-- a side for each field, valid for its kind of comparison, whose ids name texts of the pool
pub record AreSidesOf (texts : ℕ) (fields : List FieldKeys) (sides : List IdValue) : Type 0 where
  pub as_many : length sides ≡ length fields
  pub valid : (k : ℕ) (f : FieldKeys) → k < length fields → IsFieldSide (field_of (slice_index_or fields k f).compare) (slice_index_or sides k id.Absent)
  pub of_texts : (k : ℕ) → k < length fields → IsOfTexts texts (slice_index_or sides k id.Absent)

-- the comparators of these fields over the sides of two files, of which they may be asked
pub record AreComparatorsOver (texts : ℕ) (fields : List FieldKeys) (rows_a rows_b : List (List IdValue)) (all : List FieldById) : Type 0 where
  pub answers : map answers_of all ≡ comparators_of texts fields rows_a rows_b
  pub rares : map field_rare all ≡ rares_of fields
  pub some : 1 ≤ length all
  pub few : length all ≤ MOST_FIELDS
  pub valid_a : All (AreSides IsFieldSide all) rows_a
  pub valid_b : All (AreSides IsFieldSide all) rows_b
