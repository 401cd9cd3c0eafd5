-- Rows that are being made: as which `RowsWriter` is seen (`add_word`, `add_day` and `add_absent` by `with_value`, `close` by
-- `with_row`), and, as its machinery, how its cells stand.
use Rattle.std.specs.Prelude.{◌≤◌, ℕ, List, [], ◌∷◌, ◌++◌, drop, length}
use Rattle.link_base.specs.Region.{EndsAt, pieces_from}
use Rattle.link_base.specs.Standard.{AreCells, values_in}
use Rattle.link_base.specs.declared.rows.Cell.{Cell}
use Rattle.link_base.specs.declared.standard.Value.{Value}

-- the rows that are closed, and the values of the row that is open
pub record WrittenRows : Type 0 where
  pub rows : List (List Value)
  pub row : List Value

abbrev pub no_rows : WrittenRows
no_rows = record { rows = []; row = [] }

-- the open row with one value more
abbrev pub with_value : WrittenRows → Value → WrittenRows
with_value w v = record { rows = w.rows; row = w.row ++ v ∷ [] }

-- the open row is closed
abbrev pub with_row : WrittenRows → WrittenRows
with_row w = record { rows = w.rows ++ w.row ∷ []; row = [] }

-- the rows that end at these places, and the row that has begun behind them
abbrev pub written_rows : List (List ℕ) → List Cell → List ℕ → ℕ → WrittenRows
written_rows words cells ends begun = record { rows = pieces_from (values_in words cells) 0 ends; row = drop begun (values_in words cells) }

-- the closed rows have the cells up to where the open one has begun
pub record AreOpen (words : List (List ℕ)) (cells : List Cell) (ends : List ℕ) (begun : ℕ) : Type 0 where
  pub rising : EndsAt begun 0 ends
  pub within : begun ≤ length cells
  pub placed : AreCells words cells
