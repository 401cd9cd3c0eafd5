-- Machinery of `read_files`: the standard values of the rows of a file as they are read, and its first unreadable date, which
-- is told after both files were read. No public clause names it.
use Rattle.std.specs.Prelude.{◌≡◌, ◌<◌, ◌≤◌, ◌*◌, ℕ, Bool, List, [], All, length, map, sum_by, Option, Result, Ok, IfSome}
use Rattle.link_base.specs.Words.{and_then, with_value, WrittenRows, IsValid}
use Rattle.link_base.specs.declared.fault.Fault.{Fault}
use Rattle.link_base.specs.declared.fault.FileRole.{FileRole}
use Rattle.link_base.specs.declared.fault.FileRole.TheVariants as role
use Rattle.link_base.specs.declared.standard.Value.{Value}
use Rattle.link_base.specs.declared.tables.Tables.{Tables}
use Rattle.link_limits.specs.declared.TheConstants.{MOST_FIELDS}
use Rattle.file_reader.specs.Words.{TableRow, unless_fault}
use Rattle.link_plan.specs.declared.plan.Plan.{Plan}
use Rattle.standard_files.specs.Files.{first_unreadable, sorts_in, StandardPair, strict_fault, table_in}
use Rattle.standard_files.specs.Values.{is_unreadable, standard_records, standard_value, standard_values, unreadable_from, unreadable_in, unreadable_in_row}
use Rattle.standard_files.specs.declared.file_values.DatedFile.{DatedFile}
use Rattle.standard_files.specs.declared.file_values.DatePlace.{DatePlace}
use Rattle.standard_files.specs.declared.file_values.FileValues.{FileValues}
use Rattle.standard_files.specs.declared.sorts.TextSort.{TextSort}

-- the standard value of a text was appended to a row, and it was told whether it is a date that cannot be read
pub record AddsValue (t : Tables) (sort : TextSort) (text : List ℕ) (old new : WrittenRows) (told : Bool) : Type 0 where
  pub value : new ≡ with_value old (standard_value t sort text)
  pub unreadable : told ≡ is_unreadable t sort text
  pub valid : IsValid (standard_value t sort text)

-- what is made of the texts of a row: its values, the number of its unreadable dates, and the field of the first
pub record IsMade (t : Tables) (sorts : List TextSort) (texts : List (List ℕ)) (row : List Value) (count : ℕ) (date : Option ℕ) : Type 0 where
  pub values : row ≡ standard_values t sorts texts
  pub unreadable : count ≡ unreadable_in_row t sorts texts
  pub first : date ≡ unreadable_from t 0 sorts texts
  pub few : count ≤ MOST_FIELDS
  pub many : length row ≡ length sorts
  pub within : IfSome date (λ place. place < length sorts)
  pub valid : All IsValid row

-- the values of these rows, as many, with their unreadable dates
pub record HasValues (t : Tables) (sorts : List TextSort) (v : FileValues) (rows : List (List (List ℕ))) : Type 0 where
  pub closed : v.rows.row ≡ []
  pub values : v.rows.rows ≡ map (standard_values t sorts) rows
  pub count : v.count ≡ length rows
  pub unreadable : v.unreadable ≡ sum_by (unreadable_in_row t sorts) rows
  pub first : v.first ≡ first_unreadable t sorts 1 rows
  pub narrow : length sorts ≤ MOST_FIELDS
  pub room : sum_by length v.rows.rows ≤ MOST_FIELDS * v.count
  pub few : v.unreadable ≤ MOST_FIELDS * v.count
  pub within : IfSome v.first (λ (d : DatePlace). d.field < length sorts)
  pub valid : All (λ (values : List Value). All IsValid values) v.rows.rows

-- the same of a taker, whose tables and sorts are those with which it began
pub record HasTaken (t : Tables) (sorts : List TextSort) (tables : Tables) (v : FileValues) (rows : List (List (List ℕ))) : Type 0 where
  pub by_tables : tables ≡ t
  pub of_sorts : v.sorts.items ≡ sorts
  pub values : HasValues tables v.sorts.items v rows

-- a table in standard values, with its first unreadable date
abbrev pub dated_table : Plan → List TextSort → List TableRow → DatedFile
dated_table plan sorts table =
    record {
      file = record { records = standard_records plan.tables sorts table; unreadable = unreadable_in plan.tables sorts table };
      first = first_unreadable plan.tables sorts 1 (map (λ (row : TableRow). row.fields) table);
    }

abbrev pub dated_file : FileRole → Plan → List ℕ → Result DatedFile Fault
dated_file r plan bytes = and_then (table_in r plan bytes) (λ table. Ok (dated_table plan (sorts_in r plan) table))

-- both files, unless a strict plan refuses a date, of A before one of B
abbrev pub dated_pair : Plan → DatedFile → DatedFile → Result StandardPair Fault
dated_pair plan a b =
    unless_fault (strict_fault role.A plan a.first)
    (unless_fault (strict_fault role.B plan b.first)
    (Ok (record { a = a.file; b = b.file })))
