-- The rows of B for each row of A. `Blocks::new` and `Blocks::new_in` carry it (their lone clauses); `rows_joined` says that
-- joined they are the compared pairs.
pub use Rattle.block_passes.specs.Keys.{key_in_pass, same_key, same_text, AreAllReady}
use Rattle.std.specs.Prelude.{List, Bool, ℕ, zero, suc, ◌+◌, [], ◌∷◌, filter, length, ◌++◌, map}
use Rattle.std.specs.List.{list_any, range_with_len}
use Rattle.link_base.specs.declared.standard.Value.{Value}
use Rattle.value_forms.specs.declared.passes.Part.{Part}
pub use Rattle.block_passes.specs.Ids.{AreKeysHeld}
use Rattle.block_passes.specs.Keys.{row_at}
use Rattle.link_base.specs.Words.{Record}
use Rattle.link_base.specs.declared.rule.PairAt.{PairAt}

-- Rows that share a key (blocking, Newcombe et al. 1959). `walk` and `walk_in` carry it, in `compared_pairs`.

-- in some pass both keys are present and equal
abbrev pub share_key : List (List Part) → List Value → List Value → Bool
share_key passes a b = list_any (λ pass. same_key (key_in_pass a pass) (key_in_pass b pass)) passes

-- the positions of B that share a key with the row of A, rising
abbrev pub partners : List Record → List Record → List (List Part) → ℕ → List ℕ
partners a b passes at = filter (λ j. share_key passes (row_at a at) (row_at b j)) (range_with_len 0 (length b))

-- the pairs of one row of A: the rising positions of B
pub record RowAt : Type 0 where
  pub a : ℕ
  pub bs : List ℕ

-- what stands past the last row
abbrev pub no_partners : RowAt
no_partners = record { a = 0; bs = [] }

-- the pairs of `count` rows of A from `at` on
abbrev pub rows_from : List Record → List Record → List (List Part) → ℕ → ℕ → List RowAt
rows_from a b passes at zero = []
rows_from a b passes at (suc count) = record { a = at; bs = partners a b passes at } ∷ rows_from a b passes (at + 1) count

abbrev pub all_rows : List Record → List Record → List (List Part) → List RowAt
all_rows a b passes = rows_from a b passes 0 (length a)

-- The compared pairs: the pairs of the product of two files that share a key in some pass. `walk` and
-- `walk_in` carry it (their lone clauses), and `rows_joined` for the rows of a walker.

-- the pairs of the position `a` with `count` positions from `b` on, rising
abbrev pub pairs_of_row : ℕ → ℕ → ℕ → List PairAt
pairs_of_row a b zero = []
pairs_of_row a b (suc count) = record { a = a; b = b } ∷ pairs_of_row a (b + 1) count

-- the pairs of `count` positions from `a` on with the positions below `width`, rising
abbrev pub product_from : ℕ → ℕ → ℕ → List PairAt
product_from width a zero = []
product_from width a (suc count) = pairs_of_row a 0 width ++ product_from width (a + 1) count

-- whether the records at two positions share a key
abbrev pub is_compared : List Record → List Record → List (List Part) → PairAt → Bool
is_compared a b passes at = share_key passes (row_at a at.a) (row_at b at.b)

-- the compared pairs, rising
abbrev pub compared_pairs : List Record → List Record → List (List Part) → List PairAt
compared_pairs a b passes = filter (is_compared a b passes) (product_from (length b) 0 (length a))

abbrev pub pair : ℕ → ℕ → PairAt
pair a b = record { a = a; b = b }

-- the pairs of rows, joined
abbrev pub pairs_of_rows : List RowAt → List PairAt
pairs_of_rows [] = []
pairs_of_rows (row ∷ rows) = map (pair row.a) row.bs ++ pairs_of_rows rows
