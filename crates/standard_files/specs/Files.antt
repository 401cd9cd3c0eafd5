-- The standard files of a plan: the tables of A and of B with each text as its standard value (`read_files`, clause
-- `answer`; what their records keep: `of_a` and `of_b`).
use Rattle.std.specs.Prelude.{◌+◌, ◌≤◌, ℕ, List, [], ◌∷◌, length, map, All, Option, Some, None, Result, Ok, if◌then◌else◌, slice_index_or}
use Rattle.std.specs.Option.{option_or}
use Rattle.link_base.specs.Words.{and_then, HaveDistinctIds, Record}
use Rattle.link_limits.specs.declared.TheConstants.{MOST_ROWS}
use Rattle.link_base.specs.declared.fault.Fault.{Fault}
use Rattle.link_base.specs.declared.fault.Fault.TheVariants as fault
use Rattle.link_base.specs.declared.fault.FileRole.{FileRole}
use Rattle.link_base.specs.declared.fault.FileRole.TheVariants as role
use Rattle.link_base.specs.declared.plan.FieldSort.{FieldSort}
use Rattle.link_base.specs.declared.tables.Tables.{Tables}
use Rattle.file_reader.specs.Words.{records_in, table_of, unless_fault, Wanted, TableRow}
use Rattle.link_plan.specs.Plan.{FieldKeys}
use Rattle.link_plan.specs.declared.plan.Plan.{Plan}
use Rattle.standard_files.specs.Values.{AreOfSorts, sort_in, standard_records, unreadable_from, unreadable_in}
use Rattle.standard_files.specs.declared.file_values.DatePlace.{DatePlace}
use Rattle.standard_files.specs.declared.sorts.TextSort.{TextSort}

-- what a plan says of B, and else of A: the column of a field, the column of the ids, and the delimiter
abbrev pub field_column : FileRole → FieldKeys → List ℕ
field_column role.B f = f.column_b
field_column other f = f.column_a

abbrev pub id_column : FileRole → Plan → List ℕ
id_column role.B plan = plan.id_b
id_column other plan = plan.id_a

abbrev pub delimiter_in : FileRole → Plan → ℕ
delimiter_in role.B plan = plan.delimiter_b
delimiter_in other plan = plan.delimiter_a

-- what it wants of the file, and the file's table
abbrev pub wanted_in : FileRole → Plan → Wanted
wanted_in r plan = record { id = Some (id_column r plan); columns = map (field_column r) plan.fields; most = MOST_ROWS }

abbrev pub table_in : FileRole → Plan → List ℕ → Result (List TableRow) Fault
table_in r plan bytes = table_of r (wanted_in r plan) (records_in (delimiter_in r plan) bytes)

-- what its fields hold
abbrev pub sorts_in : FileRole → Plan → List TextSort
sorts_in r plan = map (λ (f : FieldKeys). sort_in r f.sort) plan.fields

-- the same of A, and of B
abbrev pub wanted_a : Plan → Wanted
wanted_a plan = wanted_in role.A plan

abbrev pub wanted_b : Plan → Wanted
wanted_b plan = wanted_in role.B plan

abbrev pub table_a : Plan → List ℕ → Result (List TableRow) Fault
table_a plan bytes = table_in role.A plan bytes

abbrev pub table_b : Plan → List ℕ → Result (List TableRow) Fault
table_b plan bytes = table_in role.B plan bytes

abbrev pub sorts_a : Plan → List TextSort
sorts_a plan = sorts_in role.A plan

abbrev pub sorts_b : Plan → List TextSort
sorts_b plan = sorts_in role.B plan

-- what the fields of a plan hold, in either file
abbrev pub sorts_of : Plan → List FieldSort
sorts_of plan = map (λ (f : FieldKeys). f.sort) plan.fields

-- the name of a field, by its place
abbrev pub field_name : Plan → ℕ → List ℕ
field_name plan at = slice_index_or (map (λ (f : FieldKeys). f.name) plan.fields) at []

-- a date of a row by its field
abbrev pub date_in_row : ℕ → Option ℕ → Option DatePlace
date_in_row number None = None
date_in_row number (Some field) = Some (record { row = number; field = field })

-- the first unreadable date of rows, of which the first has the number
abbrev pub first_unreadable : Tables → List TextSort → ℕ → List (List (List ℕ)) → Option DatePlace
first_unreadable t sorts number [] = None
first_unreadable t sorts number (row ∷ rows) = option_or (date_in_row number (unreadable_from t 0 sorts row)) (first_unreadable t sorts (number + 1) rows)

-- the fault of an unreadable date, which a strict plan refuses
abbrev pub date_fault : FileRole → Plan → Option DatePlace → Option Fault
date_fault r plan None = None
date_fault r plan (Some d) = Some (fault.BadValue r d.row (field_name plan d.field))

abbrev pub strict_fault : FileRole → Plan → Option DatePlace → Option Fault
strict_fault r plan first = if plan.terms.strict then date_fault r plan first else None

-- a file in standard values
pub record StandardFile : Type 0 where
  pub records : List Record
  pub unreadable : ℕ

-- the table of a file in standard values; a strict plan refuses the first unreadable date
abbrev pub standard_file : FileRole → Plan → List TextSort → List TableRow → Result StandardFile Fault
standard_file r plan sorts table =
    unless_fault (strict_fault r plan (first_unreadable plan.tables sorts 1 (map (λ (row : TableRow). row.fields) table)))
    (Ok (record { records = standard_records plan.tables sorts table; unreadable = unreadable_in plan.tables sorts table }))

-- both files
pub record StandardPair : Type 0 where
  pub a : StandardFile
  pub b : StandardFile

-- both tables in standard values: a fault of A comes before one of B
abbrev pub standard_pair : Plan → List TableRow → List TableRow → Result StandardPair Fault
standard_pair plan of_a of_b =
    and_then (standard_file role.A plan (sorts_a plan) of_a) (λ a.
    and_then (standard_file role.B plan (sorts_b plan) of_b) (λ b.
    Ok (record { a = a; b = b })))

-- the tables of A and then of B, and then their values: the first fault in this order decides
abbrev pub standard_files : Plan → List ℕ → List ℕ → Result StandardPair Fault
standard_files plan bytes_a bytes_b =
    and_then (table_a plan bytes_a) (λ of_a.
    and_then (table_b plan bytes_b) (λ of_b.
    standard_pair plan of_a of_b))

-- at most so many records, no id twice, each with a value for each field of the plan
pub record AreOfPlan (plan : Plan) (records : List Record) : Type 0 where
  pub few : length records ≤ MOST_ROWS
  pub distinct : HaveDistinctIds records
  pub sorts : All (λ (r : Record). AreOfSorts (sorts_of plan) r.row) records
