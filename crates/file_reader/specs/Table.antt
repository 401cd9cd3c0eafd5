-- The table of a file, or its first fault (`read_table`, clause `answer`; what every table keeps: clause `sound`).
use Rattle.std.specs.Prelude.{◌≡◌, ◌∷◌, ℕ, List, [], Bool, true, false, Result, Ok, Err, ◌≢◌, ◌≤◌, ◌+◌, ◌++◌, All, AllPairs, IsTrue, length, find, min, position, ◌==◌, not, nat_lt, bytes_eq, if◌then◌else◌, Option, Some, None, ⊤, is_some, ◌<◌, map, take, slice_index_or, MatchOption}
use Rattle.csv.specs.Reading.{default_config, records, strip_bom}
use Rattle.csv.specs.declared.parser.Config.{Config}
use Rattle.std.specs.Str.{is_utf8, IsUtf8}
use Rattle.link_base.specs.Words.{or_else}
use Rattle.link_base.specs.declared.fault.Fault.{Fault}
use Rattle.link_base.specs.declared.fault.FileRole.{FileRole}
use Rattle.link_limits.specs.declared.TheConstants.{MOST_COLUMNS, MOST_FIELD_BYTES}
use Rattle.file_reader.specs.Rows.{cell, cells_of, count_in, Heading, heading_under, needed_of, Wanted, HaveIds, known_ids, row_of_cells, TableRow}
use Rattle.file_reader.specs.declared.layout.Column.{Column}
use Rattle.link_base.specs.declared.fault.Fault.TheVariants as fault

-- The records that are left of a text (`Records::new` and `Records::next`, each by its one clause).

-- commas, or another byte, between fields; a quote is doubled inside quotes
abbrev pub config_of : ℕ → Config
config_of delimiter = record default_config { delimiter = delimiter }

-- every record of a text, after one byte order mark
abbrev pub records_in : ℕ → List ℕ → List (List (List ℕ))
records_in delimiter bytes = records (config_of delimiter) (strip_bom bytes)

-- a read takes the first record, or finds that there is none
abbrev pub Took : {E : Type 0} → List (List (List ℕ)) → List (List (List ℕ)) → List (List ℕ) → Result Bool E → Type 0
Took old new fields (Ok true) = old ≡ fields ∷ new
Took old new fields (Ok false) = (old ≡ []) × (new ≡ [])
Took old new fields (Err e) = new ≡ []

-- the fault that is made of what was found
abbrev pub fault_by : {A : Type 0} → (A → Fault) → Option A → Option Fault
fault_by make None = None
fault_by make (Some a) = Some (make a)

-- a needed column that stands twice in a header, and one that is missing
abbrev pub repeated_fault : FileRole → List (List ℕ) → List (List ℕ) → Option Fault
repeated_fault role names header = fault_by (fault.RepeatedColumn role) (find (λ name. nat_lt 1 (count_in header name)) names)

abbrev pub missing_fault : FileRole → List (List ℕ) → List (List ℕ) → Option Fault
missing_fault role names header = fault_by (fault.NoColumn role) (find (λ name. count_in header name == 0) names)

-- the first fault of a header: a needed column that stands twice, one that is missing, too many columns
abbrev pub header_fault : FileRole → List (List ℕ) → List (List ℕ) → Option Fault
header_fault role names header =
    or_else (repeated_fault role names header)
    (or_else (missing_fault role names header)
    (if nat_lt MOST_COLUMNS (length header) then Some (fault.TooManyColumns role (min (length header) 4294967295) MOST_COLUMNS) else None))

-- the first needed field that is no text, and the first one that is too long
abbrev pub utf8_fault : Heading → ℕ → List (List ℕ) → Option Fault
utf8_fault heading number row = fault_by (λ (c : Column). fault.NotUtf8 heading.role number c.name) (find (λ c. not (is_utf8 (cell row c))) heading.columns)

abbrev pub length_fault : Heading → ℕ → List (List ℕ) → Option Fault
length_fault heading number row = fault_by (λ (c : Column). fault.FieldTooLong heading.role number c.name) (find (λ c. nat_lt MOST_FIELD_BYTES (length (cell row c))) heading.columns)

-- the first needed field at fault: one that is no text, one that is too long
abbrev pub text_fault : Heading → ℕ → List (List ℕ) → Option Fault
text_fault heading number row = or_else (utf8_fault heading number row) (length_fault heading number row)

-- the fault of an id after these ids: it is empty, or an earlier row has it
abbrev pub id_fault : FileRole → ℕ → List ℕ → List (List ℕ) → Option Fault
id_fault role number id ids =
    if length id == 0 then Some (fault.EmptyId role number)
    else fault_by (λ place. fault.RepeatedId role number (place + 1)) (position (bytes_eq id) ids)

-- a record as a row of the table
abbrev pub taken : Heading → List (List ℕ) → TableRow
taken heading row = row_of_cells heading.has_id (cells_of heading.columns row)

-- the first fault of the id of a row, if the file has ids
abbrev pub key_fault : Heading → ℕ → List (List ℕ) → List (List ℕ) → Option Fault
key_fault heading number ids row =
    if heading.has_id then id_fault heading.role number (taken heading row).id ids else None

-- the first fault of the fields of a row
abbrev pub fields_fault : Heading → ℕ → List (List ℕ) → List (List ℕ) → Option Fault
fields_fault heading number ids row = or_else (text_fault heading number row) (key_fault heading number ids row)

-- the first fault of a row, by its number, after rows with these ids
abbrev pub row_fault : Heading → ℕ → List (List ℕ) → List (List ℕ) → Option Fault
row_fault heading number ids row =
    if nat_lt heading.most number then Some (fault.TooManyRows heading.role heading.most)
    else if not (length row == heading.width) then Some (fault.Ragged heading.role number)
    else fields_fault heading number ids row

abbrev pub unless_fault : {A : Type 0} → Option Fault → Result A Fault → Result A Fault
unless_fault None next = next
unless_fault (Some f) next = Err f

-- the table with the rows that are left, after those that were read; the first row with a fault decides
abbrev pub rows_read : Heading → List TableRow → List (List (List ℕ)) → Result (List TableRow) Fault
rows_read heading table [] = Ok table
rows_read heading table (row ∷ rows) =
    unless_fault (row_fault heading (length table + 1) (known_ids heading.has_id table) row)
    (rows_read heading (table ++ taken heading row ∷ []) rows)

-- the table of the records under a header
abbrev pub under_header : FileRole → Wanted → List (List ℕ) → List (List (List ℕ)) → Result (List TableRow) Fault
under_header role wanted header rows =
    unless_fault (header_fault role (needed_of wanted) header) (rows_read (heading_under role wanted header) [] rows)

-- the table of a file, whose first record is its header
abbrev pub table_of : FileRole → Wanted → List (List (List ℕ)) → Result (List TableRow) Fault
table_of role wanted [] = Err (fault.NoHeader role)
table_of role wanted (header ∷ rows) = under_header role wanted header rows

-- a test answers the fault that is defined, but for want of memory
abbrev pub Tests : {T : Type 0} → Option Fault → Result T Fault → Type 0
Tests expected (Ok x) = expected ≡ None
Tests expected (Err fault.NoMemory) = ⊤
Tests expected (Err f) = expected ≡ Some f

-- each row has as many fields as columns are wanted beside the id
abbrev pub HasWidth : Wanted → List TableRow → Type 0
HasWidth wanted table = All (λ (r : TableRow). length r.fields ≡ length wanted.columns) table

-- a text in UTF-8 that is not too long
pub record IsFieldText (text : List ℕ) : Type 0 where
  pub utf8 : IsUtf8 text
  pub short : length text ≤ MOST_FIELD_BYTES

-- a row of such texts
pub record IsTextRow (row : TableRow) : Type 0 where
  pub id : IsFieldText row.id
  pub fields : All IsFieldText row.fields

-- each row of a table is one
abbrev pub HasTexts : List TableRow → Type 0
HasTexts table = All IsTextRow table

-- where an id is wanted, each row has one
abbrev pub HasWantedIds : Wanted → List TableRow → Type 0
HasWantedIds wanted table = IsTrue (is_some wanted.id) → HaveIds table

-- where an id is wanted, no two rows have the same
abbrev pub HasDistinctIds : Wanted → List TableRow → Type 0
HasDistinctIds wanted table = IsTrue (is_some wanted.id) → AllPairs (λ (x y : TableRow). x.id ≢ y.id) table

-- The fault of a file: the first of its header, else that of its least faulty row; and the table of a file that has none
-- (laws `first_fault` and `whole_table`, of what `read_table` gives by its clause `answer`).

-- the fault of the row at a place, after the rows before it
abbrev pub row_fault_at : Heading → List (List (List ℕ)) → ℕ → Option Fault
row_fault_at heading rows at = row_fault heading (at + 1) (known_ids heading.has_id (map (taken heading) (take at rows))) (slice_index_or rows at [])

-- the least faulty row, and its fault
pub record IsLeastFaulty (heading : Heading) (rows : List (List (List ℕ))) (f : Fault) (at : ℕ) : Type 0 where
  pub within : at < length rows
  pub faulty : row_fault_at heading rows at ≡ Some f
  pub least : (k : ℕ) → k < at → row_fault_at heading rows k ≡ None

-- the fault of a file
abbrev pub IsFirstFault : FileRole → Wanted → List (List (List ℕ)) → Fault → Type 0
IsFirstFault role wanted [] f = f ≡ fault.NoHeader role
IsFirstFault role wanted (header ∷ rows) f = MatchOption (header_fault role (needed_of wanted) header) ((at : ℕ) × IsLeastFaulty (heading_under role wanted header) rows f at) (λ g. f ≡ g)

-- the rows of a file without a fault
pub record AreWhole (heading : Heading) (rows : List (List (List ℕ))) (table : List TableRow) : Type 0 where
  pub all : table ≡ map (taken heading) rows
  pub sound : (k : ℕ) → k < length rows → row_fault_at heading rows k ≡ None

-- the table of a file without a fault
abbrev pub IsWholeTable : FileRole → Wanted → List (List (List ℕ)) → List TableRow → Type 0
IsWholeTable _ wanted [] table = ⊥
IsWholeTable role wanted (header ∷ rows) table = (header_fault role (needed_of wanted) header ≡ None) × AreWhole (heading_under role wanted header) rows table
