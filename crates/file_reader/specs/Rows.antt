-- The rows of a table, their ids, and their fields side by side: what `Table` is seen as (`Table::id` and `Table::field`).
use Rattle.std.specs.Prelude.{◌≡◌, ◌≢◌, ◌≤◌, ℕ, zero, suc, Bool, true, false, List, [], ◌∷◌, All, length, map, take, drop, if◌then◌else◌, ◌++◌, count_by, bytes_eq, slice_index_or, is_some, Option, option_to_list, nat_lt}
use Rattle.std.specs.List.{position_or_len}
use Rattle.link_base.specs.declared.fault.FileRole.{FileRole}
use Rattle.file_reader.specs.declared.layout.Column.{Column}
use Rattle.file_reader.specs.declared.layout.Head.{Head}
use Rattle.file_reader.specs.declared.layout.Layout.{Layout}

-- a row of a table: its id, if the file has one, and its other needed fields
pub record TableRow : Type 0 where
  pub id : List ℕ
  pub fields : List (List ℕ)

abbrev pub row_of_cells : Bool → List (List ℕ) → TableRow
row_of_cells true (id ∷ fields) = record { id = id; fields = fields }
row_of_cells has_id cells = record { id = []; fields = cells }

-- the row past the end of a table
abbrev pub no_row : TableRow
no_row = record { id = []; fields = [] }

abbrev pub ids_of : List TableRow → List (List ℕ)
ids_of rows = map (λ (r : TableRow). r.id) rows

-- the ids of the rows of a table that has ids
abbrev pub known_ids : Bool → List TableRow → List (List ℕ)
known_ids has_id rows = if has_id then ids_of rows else []

-- so many rows of so many cells each
abbrev pub rows_in : ℕ → ℕ → List (List ℕ) → List (List (List ℕ))
rows_in zero width cells = []
rows_in (suc count) width cells = take width cells ∷ rows_in count width (drop width cells)

-- rows of these fields, and of these ids as far as there are any
abbrev pub with_ids : List (List (List ℕ)) → List (List ℕ) → List TableRow
with_ids [] ids = []
with_ids (fields ∷ rows) [] = record { id = []; fields = fields } ∷ with_ids rows []
with_ids (fields ∷ rows) (id ∷ ids) = record { id = id; fields = fields } ∷ with_ids rows ids

abbrev pub table_rows : ℕ → ℕ → List (List ℕ) → List (List ℕ) → List TableRow
table_rows count width cells ids = with_ids (rows_in count width cells) ids

-- as many ids as rows, or none
abbrev pub AreIdsFor : ℕ → List (List ℕ) → Type 0
AreIdsFor count ids = 1 ≤ length ids → length ids ≡ count

-- each row has an id
abbrev pub HaveIds : List TableRow → Type 0
HaveIds rows = All (λ (r : TableRow). r.id ≢ []) rows

-- machinery of the reader: how many cells of a row stand before its fields
abbrev pub skipped : Bool → ℕ
skipped true = 1
skipped false = 0

-- What is wanted of a file, and where its needed columns stand under a header (`read_table`, clause `answer`, takes
-- `wanted_of`; `find_columns` finds the places).

-- the columns of a file that are needed, the id first where there is one, and the most rows that it may have
pub record Wanted : Type 0 where
  pub id : Option (List ℕ)
  pub columns : List (List ℕ)
  pub most : ℕ

abbrev pub wanted_of : Layout → Wanted
wanted_of layout = record { id = layout.id; columns = layout.columns.items; most = layout.most_rows }

-- the names of the needed columns, in order
abbrev pub needed_of : Wanted → List (List ℕ)
needed_of wanted = option_to_list wanted.id ++ wanted.columns

-- how often a column stands in a header, and its first place
abbrev pub count_in : List (List ℕ) → List ℕ → ℕ
count_in header name = count_by (λ field. bytes_eq field name) header

abbrev pub place_in : List (List ℕ) → List ℕ → ℕ
place_in header name = position_or_len (λ field. bytes_eq field name) header

-- a needed column, and all of them, with their places
abbrev pub column_in : List (List ℕ) → List ℕ → Column
column_in header name = record { name = name; place = place_in header name }

abbrev pub columns_of : List (List ℕ) → List (List ℕ) → List Column
columns_of names header = map (column_in header) names

-- a file under its header: which file it is, the most rows that it may have, the number of its fields, whether the
-- first needed column is an id, and the needed columns
pub record Heading : Type 0 where
  pub role : FileRole
  pub most : ℕ
  pub width : ℕ
  pub has_id : Bool
  pub columns : List Column

abbrev pub heading_of : Head → Heading
heading_of head =
    record {
      role = head.role;
      most = head.most_rows;
      width = head.width;
      has_id = head.has_id;
      columns = head.columns.items;
    }

abbrev pub heading_under : FileRole → Wanted → List (List ℕ) → Heading
heading_under role wanted header =
    record {
      role = role;
      most = wanted.most;
      width = length header;
      has_id = is_some wanted.id;
      columns = columns_of (needed_of wanted) header;
    }

-- the needed columns after the id
abbrev pub field_columns : Heading → List Column
field_columns heading = drop (skipped heading.has_id) heading.columns

-- the field of a record in a column, and in each column
abbrev pub cell : List (List ℕ) → Column → List ℕ
cell row column = slice_index_or row column.place []

abbrev pub cells_of : List Column → List (List ℕ) → List (List ℕ)
cells_of columns row = map (cell row) columns

-- Whether a file has a header with a column (`has_column`).

-- the first of the records is the header
abbrev pub header_has : List ℕ → List (List (List ℕ)) → Bool
header_has column [] = false
header_has column (header ∷ rows) = nat_lt 0 (count_in header column)
