-- The files whose values are pooled, and what is known of them in a pool: each side stands for its value and is valid, the parts of their
-- keys stand there, and the ids of these are kept (`pool_values`, clause `pooled`).
use Rattle.std.specs.Prelude.{◌≡◌, ◌<◌, ℕ, List, [], Option, length, slice_index_or, All}
use Rattle.block_passes.specs.Ids.{AreKeysHeld}
use Rattle.block_passes.specs.Keys.{row_at, key_ids}
use Rattle.comparators.specs.Fields.{field_of, IsFieldSide, StandsFor}
use Rattle.comparators.specs.declared.ids.IdValue.{IdValue}
use Rattle.comparators.specs.declared.ids.IdValue.TheVariants as id
use Rattle.link_base.specs.Words.{absent_value, IsValid, Record}
use Rattle.value_forms.specs.declared.canons.CompareKind.{CompareKind}
use Rattle.value_forms.specs.Canons.{exact}
use Rattle.value_forms.specs.declared.passes.Part.{Part}
use Rattle.link_base.specs.declared.standard.Value.{Value}
use Rattle.standard_files.specs.Sides.{PooledView}

-- a valid value for each kind of comparison
pub record IsRowFor (kinds : List CompareKind) (r : Record) : Type 0 where
  pub as_many : length r.row ≡ length kinds
  pub valid : All IsValid r.row

-- the parts of the passes speak of these fields
abbrev pub AreInRange : ℕ → List (List Part) → Type 0
AreInRange fields passes = All (λ pass. All (λ (p : Part). p.field < fields) pass) passes

-- each side of a row stands for its value, and is a valid side of its kind of comparison
pub record AreRowSides (texts : List (List ℕ)) (kinds : List CompareKind) (row : List Value) (sides : List IdValue) : Type 0 where
  pub as_many : length sides ≡ length kinds
  pub stand : (k : ℕ) → k < length kinds
      → StandsFor texts (slice_index_or kinds k exact) (slice_index_or row k absent_value) (slice_index_or sides k id.Absent)
  pub valid : (k : ℕ) → k < length kinds → IsFieldSide (field_of (slice_index_or kinds k exact)) (slice_index_or sides k id.Absent)

-- the sides of a file, row by row
pub record AreFileSides (texts : List (List ℕ)) (kinds : List CompareKind) (file : List Record) (rows : List (List IdValue)) : Type 0 where
  pub as_many : length rows ≡ length file
  pub of_row : (at : ℕ) → at < length file → AreRowSides texts kinds (row_at file at) (slice_index_or rows at [])

-- what is kept of a file in a pool of these texts: its sides, and the ids of the parts of its keys, which stand there
pub record IsPooled (texts : List (List ℕ)) (kinds : List CompareKind) (passes : List (List Part)) (file : List Record) (rows : List (List IdValue)) (ids : List (Option ℕ)) : Type 0 where
  pub sides : AreFileSides texts kinds file rows
  pub held : AreKeysHeld texts passes file
  pub keys : ids ≡ key_ids texts passes file

-- the same of two files
pub record ArePooled (kinds : List CompareKind) (passes : List (List Part)) (file_a file_b : List Record) (v : PooledView) : Type 0 where
  pub a : IsPooled v.texts kinds passes file_a v.a.rows v.keys_a
  pub b : IsPooled v.texts kinds passes file_b v.b.rows v.keys_b
