-- The capacities of the records of B as a file lists them, or its first fault: of the table, then row by row (`read_capacities`,
-- clause `answer`).
use Rattle.std.specs.Prelude.{◌≡◌, ◌<◌, ◌≤◌, ℕ, ◌+◌, ◌&&◌, All, length, List, [], ◌∷◌, bytes_eq, codes, find, if◌then◌else◌, map, nat_le, slice_index_or, Option, Some, None, Result, Ok}
use Rattle.file_reader.specs.Words.{records_in, HasDistinctIds, HasWidth, table_of, known_in, or_fault, Wanted, wanted_of, TableRow}
use Rattle.csv_rows.specs.Numbers.{is_decimal, number_in}
use Rattle.link_limits.specs.declared.TheConstants.{MOST_CAPACITY, MOST_ROWS}
use Rattle.link_base.specs.Words.{and_then, position_of_id, Record}
use Rattle.link_base.specs.declared.fault.Fault.{Fault}
use Rattle.link_base.specs.declared.fault.Fault.TheVariants as fault
use Rattle.link_base.specs.declared.fault.FileRole.TheVariants as role
use Rattle.file_reader.specs.declared.layout.Layout.{Layout}
use Rattle.candidate_links.specs.declared.reading.Listed.{Listed}

abbrev pub capacities_wanted : Wanted
capacities_wanted = record { id = Some (codes "id_b"); columns = codes "capacity" ∷ []; most = MOST_ROWS }

-- the capacity that a text writes: decimal digits without a leading zero, of a number that is not above the greatest capacity
abbrev pub capacity_named : List ℕ → Option ℕ
capacity_named text = if is_decimal text && nat_le (number_in text) MOST_CAPACITY then Some (number_in text) else None

abbrev pub capacity_text : TableRow → List ℕ
capacity_text row = slice_index_or row.fields 0 []

-- the capacity that a row gives, or its fault: whether it names a record of B is tested first
abbrev pub capacity_in : List Record → ℕ → TableRow → Result ℕ Fault
capacity_in b number row =
    and_then (known_in role.Capacities number (codes "id_b") row.id b) (λ at.
    or_fault (fault.BadCapacity number) (capacity_named (capacity_text row)))

-- what is given where no row has a fault, and else the fault of the first row that has one; the rows are numbered from here
abbrev pub after_rows : List Record → List ℕ → ℕ → List TableRow → Result (List ℕ) Fault
after_rows b given number [] = Ok given
after_rows b given number (row ∷ rows) = and_then (capacity_in b number row) (λ capacity. after_rows b given (number + 1) rows)

-- the capacity by the row that names a record; 1 where there is none
abbrev pub capacity_by : Option TableRow → ℕ
capacity_by None = 1
capacity_by (Some row) = number_in (capacity_text row)

abbrev pub listed_capacity : List TableRow → Record → ℕ
listed_capacity rows r = capacity_by (find (λ (row : TableRow). bytes_eq row.id r.id) rows)

-- the capacities of the records of B by the rows of a table
abbrev pub capacities_by : List Record → List TableRow → Result (List ℕ) Fault
capacities_by b rows = after_rows b (map (listed_capacity rows) b) 1 rows

-- machinery: how a file of capacities is laid out
pub record IsCapacityLayout (layout : Layout) : Type 0 where
  pub wanted : wanted_of layout ≡ capacities_wanted
  pub delimiter : layout.delimiter ≡ 44
  pub most : layout.most_rows ≡ MOST_ROWS

-- machinery: what is listed is of the record of B with this id, and no capacity is too great
pub record IsListed (b : List Record) (id : List ℕ) (listed : Listed) : Type 0 where
  pub named : position_of_id id b ≡ Some listed.at
  pub within : listed.at < length b
  pub allowed : listed.capacity ≤ MOST_CAPACITY

-- machinery: a table of capacities: its ids are distinct, and it has some rows at most, each with one field
pub record IsCapacityTable (rows : List TableRow) : Type 0 where
  pub few : length rows ≤ MOST_ROWS
  pub width : HasWidth capacities_wanted rows
  pub distinct : HasDistinctIds capacities_wanted rows

-- there is a capacity for each record of B, and none is too great
pub record AreCapacities (b : List Record) (capacities : List ℕ) : Type 0 where
  pub for_each : length capacities ≡ length b
  pub allowed : All (λ capacity. capacity ≤ MOST_CAPACITY) capacities

-- the capacities of the records of B by a file
abbrev pub capacities_in : List Record → List ℕ → Result (List ℕ) Fault
capacities_in b bytes = and_then (table_of role.Capacities capacities_wanted (records_in 44 bytes)) (capacities_by b)
