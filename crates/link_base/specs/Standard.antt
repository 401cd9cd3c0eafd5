-- Standard values, records and files: what `StdFile` is seen as (`of`; `find`, clauses `position` and
-- `fresh`; `distinct_ids`).
use Rattle.std.specs.Prelude.{◌≢◌, ℕ, List, [], ◌∷◌, All, AllPairs, map, position, bytes_eq, slice_index_or, Option, ⊤, ℤ, pos, negsuc, ◌≤ℤ◌, ◌≡◌, ◌≤◌, ◌<◌, length, take, IsUtf8}
use Rattle.link_base.specs.declared.standard.Value.{Value}
use Rattle.link_base.specs.declared.row.ValueRef.{ValueRef}
use Rattle.link_base.specs.declared.rows.Cell.{Cell}
use Rattle.link_base.specs.declared.standard.Value.TheVariants as value
use Rattle.link_base.specs.declared.row.ValueRef.TheVariants as here
use Rattle.link_base.specs.declared.rows.Cell.TheVariants as cell

-- a record: its id, and its value in each field
pub record Record : Type 0 where
  pub id : List ℕ
  pub row : List Value

-- the records with these ids and these rows
abbrev pub records_of : List (List ℕ) → List (List Value) → List Record
records_of [] rows = []
records_of (id ∷ ids) [] = []
records_of (id ∷ ids) (row ∷ rows) = record { id = id; row = row } ∷ records_of ids rows

-- the value and the record past the end of a list
abbrev pub absent_value : Value
absent_value = value.Absent

abbrev pub no_record : Record
no_record = record { id = []; row = [] }

-- the id of the record at a position
abbrev pub id_at : List Record → ℕ → List ℕ
id_at file at = (slice_index_or file at no_record).id

-- the position of the record with an id
abbrev pub position_of_id : List ℕ → List Record → Option ℕ
position_of_id id records = position (λ (r : Record). bytes_eq id r.id) records

-- no id stands twice
abbrev pub HaveDistinctIds : List Record → Type 0
HaveDistinctIds records = AllPairs (λ (x y : Record). x.id ≢ y.id) records

-- no record has this id
abbrev pub IsFreshId : List ℕ → List Record → Type 0
IsFreshId id records = All (λ (r : Record). r.id ≢ id) records

-- the rows of values
abbrev pub rows_of : List Record → List (List Value)
rows_of records = map (λ (r : Record). r.row) records

-- a day from 0001-01-01 to 9999-12-31, counted from 1970-01-01
pub record IsDay (day : ℤ) : Type 0 where
  pub low : negsuc 719161 ≤ℤ day
  pub high : day ≤ℤ pos 2932896

-- words are text, and days have a civil date of four digits
abbrev pub IsValid : Value → Type 0
IsValid value.Absent = ⊤
IsValid (value.Word text) = IsUtf8 text
IsValid (value.Day day) = IsDay day

-- Files of which only the ids are left (`StdFile::ids_alone`, its lone clause).

-- a record without its values
abbrev pub id_alone : Record → Record
id_alone r = record { id = r.id; row = [] }

-- records without their values
abbrev pub ids_alone : List Record → List Record
ids_alone records = map id_alone records

-- Values of records where they stand: the value that a `ValueRef` is (`Row::value`, `Value::as_ref`), and, as machinery of
-- `StdRows` and `Row`, the values of cells.

-- the value that stands there
abbrev pub value_seen : ValueRef → Value
value_seen here.Absent = value.Absent
value_seen (here.Word text) = value.Word text.now
value_seen (here.Day day) = value.Day day

-- the value of a cell, where these are the words, and the values of cells
abbrev pub value_in : List (List ℕ) → Cell → Value
value_in words cell.Absent = value.Absent
value_in words (cell.Word at) = value.Word (slice_index_or words at [])
value_in words (cell.Day day) = value.Day day

abbrev pub values_in : List (List ℕ) → List Cell → List Value
values_in words cells = map (value_in words) cells

-- a cell's word is one of so many
abbrev pub IsPlaced : ℕ → Cell → Type 0
IsPlaced count (cell.Word at) = at < count
IsPlaced count c = ⊤

-- cells whose words are among these, with no more words than cells
pub record AreCells (words : List (List ℕ)) (cells : List Cell) : Type 0 where
  pub placed : All (IsPlaced (length words)) cells
  pub few : length words ≤ length cells

-- a list that is longer than before, or as it was
abbrev pub BeginsAs : {T : Type 0} → List T → List T → Type 0
BeginsAs old new = take (length old) new ≡ old
