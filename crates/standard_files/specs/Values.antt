-- The standard values of the texts of a file, of which `standard_files` makes its records (`read_files`, clause `answer`).
use Rattle.std.specs.Prelude.{◌+◌, ℕ, List, [], ◌∷◌, map, Bool, true, false, Option, Some, None, IsUtf8, if◌then◌else◌, sum_by, ⊤}
use Rattle.link_base.specs.Words.{IsDay, Record}
use Rattle.link_base.specs.declared.fault.FileRole.{FileRole}
use Rattle.link_base.specs.declared.fault.FileRole.TheVariants as role
use Rattle.link_base.specs.declared.plan.DateForm.{DateForm}
use Rattle.link_base.specs.declared.plan.FieldSort.{FieldSort}
use Rattle.link_base.specs.declared.plan.FieldSort.TheVariants as sort
use Rattle.link_base.specs.declared.standard.Value.{Value}
use Rattle.link_base.specs.declared.standard.Value.TheVariants as value
use Rattle.link_base.specs.declared.tables.Tables.{Tables}
use Rattle.file_reader.specs.Words.{TableRow}
use Rattle.standardise.specs.Names.{text_value, names_of, places_of}
use Rattle.standardise.specs.DateReads.{date_read}
use Rattle.standardise.specs.declared.date_read.DateRead.{DateRead}
use Rattle.standardise.specs.declared.date_read.DateRead.TheVariants as read
use Rattle.standard_files.specs.declared.sorts.TextSort.{TextSort}
use Rattle.standard_files.specs.declared.sorts.TextSort.TheVariants as text

-- the form of a date as B writes it, and else as A does
abbrev pub form_in : FileRole → DateForm → DateForm → DateForm
form_in role.B of_a of_b = of_b
form_in other of_a of_b = of_a

-- what a field holds
abbrev pub sort_in : FileRole → FieldSort → TextSort
sort_in r sort.Name = text.Name
sort_in r sort.Place = text.Place
sort_in r (sort.Date of_a of_b) = text.Date (form_in r of_a of_b)

-- a date as a value: one that cannot be read is absent
abbrev pub value_of_read : DateRead → Value
value_of_read read.Absent = value.Absent
value_of_read (read.Day day) = value.Day day
value_of_read read.Unreadable = value.Absent

abbrev pub cannot_be_read : DateRead → Bool
cannot_be_read read.Absent = false
cannot_be_read (read.Day day) = false
cannot_be_read read.Unreadable = true

-- the standard value of a text
abbrev pub standard_value : Tables → TextSort → List ℕ → Value
standard_value t text.Name x = text_value (names_of t) x
standard_value t text.Place x = text_value (places_of t) x
standard_value t (text.Date form) x = value_of_read (date_read form t.missing x)

-- a text that is to be a date and cannot be read as one
abbrev pub is_unreadable : Tables → TextSort → List ℕ → Bool
is_unreadable t text.Name x = false
is_unreadable t text.Place x = false
is_unreadable t (text.Date form) x = cannot_be_read (date_read form t.missing x)

-- the values of the fields of a row
abbrev pub standard_values : Tables → List TextSort → List (List ℕ) → List Value
standard_values t [] xs = []
standard_values t (s ∷ ss) [] = []
standard_values t (s ∷ ss) (x ∷ xs) = standard_value t s x ∷ standard_values t ss xs

-- how many of them are unreadable dates
abbrev pub unreadable_in_row : Tables → List TextSort → List (List ℕ) → ℕ
unreadable_in_row t [] xs = 0
unreadable_in_row t (s ∷ ss) [] = 0
unreadable_in_row t (s ∷ ss) (x ∷ xs) = (if is_unreadable t s x then 1 else 0) + unreadable_in_row t ss xs

-- the first field of a row that is an unreadable date, by its place from `at` on
abbrev pub unreadable_from : Tables → ℕ → List TextSort → List (List ℕ) → Option ℕ
unreadable_from t at [] xs = None
unreadable_from t at (s ∷ ss) [] = None
unreadable_from t at (s ∷ ss) (x ∷ xs) = if is_unreadable t s x then Some at else unreadable_from t (at + 1) ss xs

-- a table in standard values
abbrev pub standard_record : Tables → List TextSort → TableRow → Record
standard_record t sorts row = record { id = row.id; row = standard_values t sorts row.fields }

abbrev pub standard_records : Tables → List TextSort → List TableRow → List Record
standard_records t sorts table = map (standard_record t sorts) table

-- how many unreadable dates a table has
abbrev pub unreadable_in : Tables → List TextSort → List TableRow → ℕ
unreadable_in t sorts table = sum_by (λ (row : TableRow). unreadable_in_row t sorts row.fields) table

-- a value of a field: absent or a word in UTF-8 for a name or a place, absent or a day for a date
abbrev pub IsOfSort : FieldSort → Value → Type 0
IsOfSort sort.Name value.Absent = ⊤
IsOfSort sort.Name (value.Word x) = IsUtf8 x
IsOfSort sort.Name (value.Day day) = ⊥
IsOfSort sort.Place value.Absent = ⊤
IsOfSort sort.Place (value.Word x) = IsUtf8 x
IsOfSort sort.Place (value.Day day) = ⊥
IsOfSort (sort.Date of_a of_b) value.Absent = ⊤
IsOfSort (sort.Date of_a of_b) (value.Word x) = ⊥
IsOfSort (sort.Date of_a of_b) (value.Day day) = IsDay day

-- a value for each field
abbrev pub AreOfSorts : List FieldSort → List Value → Type 0
AreOfSorts [] [] = ⊤
AreOfSorts [] (v ∷ vs) = ⊥
AreOfSorts (s ∷ ss) [] = ⊥
AreOfSorts (s ∷ ss) (v ∷ vs) = IsOfSort s v × AreOfSorts ss vs
