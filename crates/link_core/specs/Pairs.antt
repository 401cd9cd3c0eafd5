-- The compared pairs of a plan, and the text of their ids. `pair_ids` carries it (clause `answer`).
use Rattle.std.specs.Prelude.{ℕ, List, Result, Ok, Err, ◌+◌, ◌*◌, ◌++◌, ◌∷◌, [], length, map, codes, decimal, filter, slice_index_or, Bool, Option, Some, None, ◌≡◌, ◌≤◌, Vec}
use Rattle.link_base.specs.Words.{and_then, Refuses}
use Rattle.link_base.specs.declared.fault.Fault.{Fault}
use Rattle.value_forms.specs.declared.passes.Part.{Part}
use Rattle.link_base.specs.declared.rule.PairAt.{PairAt}
use Rattle.pair_decisions.specs.Words.{pairs_within}
use Rattle.pair_walk.specs.Rows.{compared_pairs, product_from, pair, same_text}
use Rattle.link_plan.specs.declared.plan.Plan.{Plan}
use Rattle.standard_files.specs.Files.{StandardPair}
use Rattle.link_report.specs.PairsText.{ids_text}
use Rattle.std.specs.List.{flat_map, range_with_len}
use Rattle.file_reader.specs.Words.{records_in, table_of, Wanted, TableRow}
use Rattle.value_pool.specs.Pool.{PoolState}
use Rattle.block_passes.specs.Numbering.{AreNumbered, AreNumbers, KeepNumbers}
use Rattle.link_core.specs.declared.column_numbers.ColumnNumbers.{ColumnNumbers}
use Rattle.link_base.specs.declared.fault.FileRole.{FileRole}
use Rattle.link_limits.specs.declared.TheConstants.{MOST_FIELD_BYTES, MOST_ROWS}
use Rattle.std.specs.declared.alloc.Global.{Global}
use Rattle.link_base.specs.declared.fault.FileRole.TheVariants as role

-- the pairs of two standard files that share a key in some blocking pass of the plan
abbrev pub plan_pairs : Plan → StandardPair → Result (List PairAt) Fault
plan_pairs plan files = pairs_within (compared_pairs files.a.records files.b.records plan.passes)

-- the ids of the compared pairs of prepared files, or too many pairs
abbrev pub ids_of_prepared : List (List Part) → StandardPair → Result (List ℕ) Fault
ids_of_prepared passes files =
    and_then (pairs_within (compared_pairs files.a.records files.b.records passes)) (λ pairs.
    Ok (ids_text files.a.records files.b.records pairs))

-- The pairs of rows with the same field in one column, and their text: the clause `answer` of `pair_rows`.

-- one column of a file of at most 100,000 rows
abbrev pub wanted_column : List ℕ → Wanted
wanted_column column = record { id = None; columns = column ∷ []; most = MOST_ROWS }

-- the first field of a row
abbrev pub first_field : TableRow → List ℕ
first_field row = slice_index_or row.fields 0 []

-- the fields of the column of a comma file
abbrev pub column_of : FileRole → List ℕ → List ℕ → Result (List (List ℕ)) Fault
column_of r column bytes = and_then (table_of r (wanted_column column) (records_in 44 bytes)) (λ rows. Ok (map first_field rows))

-- a field that is not empty
abbrev pub present : List ℕ → Option (List ℕ)
present [] = None
present (byte ∷ bytes) = Some (byte ∷ bytes)

-- both fields are there, and they are equal byte for byte
abbrev pub is_column_pair : List (List ℕ) → List (List ℕ) → PairAt → Bool
is_column_pair a b at = same_text (present (slice_index_or a at.a [])) (present (slice_index_or b at.b []))

-- the pairs of the product with the same field, rising
abbrev pub column_pairs : List (List ℕ) → List (List ℕ) → List PairAt
column_pairs a b = filter (is_column_pair a b) (product_from (length b) 0 (length a))

-- the pairs of two columns, where they are not too many
abbrev pub pairs_of_fields : List (List ℕ) → List (List ℕ) → Result (List PairAt) Fault
pairs_of_fields a b = pairs_within (column_pairs a b)

-- the column in two files: the faults of A come before those of B
abbrev pub compared_columns : List ℕ → List ℕ → List ℕ → Result (List (List ℕ) × List (List ℕ)) Fault
compared_columns column bytes_a bytes_b =
    and_then (column_of role.A column bytes_a) (λ a.
    and_then (column_of role.B column bytes_b) (λ b.
    Ok (a, b)))

-- the pairs of a column of two files
abbrev pub pairs_of_files : List ℕ → List ℕ → List ℕ → Result (List PairAt) Fault
pairs_of_files column bytes_a bytes_b = and_then (compared_columns column bytes_a bytes_b) (λ both. pairs_of_fields both.0 both.1)

-- a header, and a line per pair with the rows of both, from 1
abbrev pub pair_line : PairAt → List ℕ
pair_line at = decimal (at.a + 1) ++ codes "," ++ decimal (at.b + 1) ++ codes "\n"

abbrev pub pairs_text : List PairAt → List ℕ
pairs_text pairs = codes "row_a,row_b\n" ++ flat_map pair_line pairs

-- the text of the pairs of a column of two files, or the first fault
abbrev pub rows_of_pairs : List ℕ → List ℕ → List ℕ → Result (List ℕ) Fault
rows_of_pairs column bytes_a bytes_b = and_then (pairs_of_files column bytes_a bytes_b) (λ pairs. Ok (pairs_text pairs))

-- The rows of B with the field of each row of A, by which `pair_rows` lists its pairs: no public clause cites them.

-- the field of a row, where it is not empty
abbrev pub compared_field : List (List ℕ) → ℕ → Option (List ℕ)
compared_field fields at = present (slice_index_or fields at [])

-- the rows with this field, rising
abbrev pub rows_with_field : List (List ℕ) → List ℕ → List ℕ
rows_with_field fields field = filter (λ at. same_text (present field) (compared_field fields at)) (range_with_len 0 (length fields))

-- for each row of A the rows of B with its field
abbrev pub matched_rows : List (List ℕ) → List (List ℕ) → List (List ℕ)
matched_rows a b = map (rows_with_field b) a

-- for each row of a column of A the rows of B with its field, or the first fault
abbrev pub matched_columns : List ℕ → List ℕ → List ℕ → Result (List (List ℕ)) Fault
matched_columns column bytes_a bytes_b = and_then (compared_columns column bytes_a bytes_b) (λ both. Ok (matched_rows both.0 both.1))

-- the numbers of fields by a pool, which keeps those that it had
pub record NumbersFields (old new : PoolState) (fields : List (List ℕ)) (given : List ℕ) : Type 0 where
  pub few : length fields ≤ MOST_ROWS
  pub limit : new.limit ≡ old.limit
  pub used : new.used ≤ old.used + MOST_ROWS * MOST_FIELD_BYTES
  pub kept : KeepNumbers old.texts new.texts
  pub numbers : AreNumbers new.texts (compared_field fields) (length fields) given
  pub numbered : AreNumbered new.texts (compared_field fields) (length fields)

-- the fields of a column have numbers, or its fault is told
abbrev pub NumbersColumn : PoolState → Result (List (List ℕ)) Fault → Result ColumnNumbers Fault → Type 0
NumbersColumn old expected (Ok c) = (fields : List (List ℕ)) × (expected ≡ Ok fields) × NumbersFields old c.pool fields c.numbers.items
NumbersColumn old expected (Err f) = Refuses expected f

-- the field of a row of one
abbrev pub only_field : List (List ℕ) → List ℕ
only_field row = slice_index_or row 0 []

-- the numbers of the fields of rows of one, taken into a pool with room for them
pub record NumbersRows (old : PoolState) (rows : List (List (List ℕ))) (new : PoolState) (given : List ℕ) : Type 0 where
  pub room : old.used + MOST_ROWS * MOST_FIELD_BYTES ≤ old.limit
  pub limit : new.limit ≡ old.limit
  pub used : new.used ≤ old.used + length rows * MOST_FIELD_BYTES
  pub kept : KeepNumbers old.texts new.texts
  pub numbers : AreNumbers new.texts (compared_field (map only_field rows)) (length rows) given
  pub numbered : AreNumbered new.texts (compared_field (map only_field rows)) (length rows)

-- the pairs of the rows from `at` on
abbrev pub pairs_from : ℕ → List (List ℕ) → List PairAt
pairs_from at [] = []
pairs_from at (bs ∷ rows) = map (pair at) bs ++ pairs_from (at + 1) rows

-- the pairs that a vector has
abbrev pub items_of : Vec PairAt Global → List PairAt
items_of pairs = pairs.items
