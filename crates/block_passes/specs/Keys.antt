-- The keys of rows in blocking passes (Newcombe et al. 1959). `pass_key` carries them by its clause. What a part makes of a value, and which values it can read, is defined with the canons.
use Rattle.std.specs.Prelude.{◌<◌, ℕ, List, [], ◌∷◌, ◌++◌, length, Bool, false, Option, Some, None, bytes_eq, slice_index_or, filter, nat_lt, if◌then◌else◌, ◌+◌, map, option_map}
use Rattle.std.specs.Cmp.Lexicographic.{pointwise}
use Rattle.link_base.specs.Words.{absent_value, no_record, Record}
use Rattle.link_base.specs.declared.standard.Value.{Value}
use Rattle.value_forms.specs.declared.passes.Part.{Part}
use Rattle.value_forms.specs.declared.canons.Canon.TheVariants.{Whole}
pub use Rattle.value_forms.specs.Canons.{IsReadable, canon_by}
use Rattle.std.specs.List.{range_with_len, flat_map}
use Rattle.block_passes.specs.Numbering.{rows_with}
use Rattle.value_pool.specs.Pool.{place_among}

-- the part of a key that a row has
abbrev pub part_key : List Value → Part → Option (List ℕ)
part_key row part = canon_by part.key (slice_index_or row part.field absent_value)

-- an item and the rest of a list, present where both are
abbrev pub joined : {T : Type 0} → Option T → Option (List T) → Option (List T)
joined None rest = None
joined (Some item) None = None
joined (Some item) (Some rest) = Some (item ∷ rest)

-- the key of a row in a pass: that of each part, present where each is
abbrev pub key_in_pass : List Value → List Part → Option (List (List ℕ))
key_in_pass row [] = Some []
key_in_pass row (part ∷ parts) = joined (part_key row part) (key_in_pass row parts)

-- both keys are present, and they are equal
abbrev pub same_key : Option (List (List ℕ)) → Option (List (List ℕ)) → Bool
same_key None k = false
same_key (Some k) None = false
same_key (Some k) (Some l) = pointwise bytes_eq k l

-- both texts are present, and they are equal
abbrev pub same_text : Option (List ℕ) → Option (List ℕ) → Bool
same_text None k = false
same_text (Some k) None = false
same_text (Some k) (Some l) = bytes_eq k l

-- the part past the end of a list
abbrev pub no_part : Part
no_part = record { field = 0; key = Whole }

-- the fields of the parts are in range of a row
abbrev pub InRange : List Value → List Part → Type 0
InRange row parts = (k : ℕ) → k < length parts → (slice_index_or parts k no_part).field < length row

-- the value of a row that a part reads is valid
abbrev pub IsPartReadable : List Value → Part → Type 0
IsPartReadable row part = IsReadable part.key (slice_index_or row part.field absent_value)

abbrev pub AreReadable : List Value → List Part → Type 0
AreReadable row parts = (k : ℕ) → k < length parts → IsPartReadable row (slice_index_or parts k no_part)

-- machinery of keys: the list that starts with these items
abbrev pub extended : {T : Type 0} → List T → Option (List T) → Option (List T)
extended front None = None
extended front (Some rest) = Some (front ++ rest)

-- The rows of a file by their keys: `build_index` carries them (its clause), and `PassRows::new` and `PassRows::new_in`
-- (clause `rows`). Rows by their numbers: `PassRows::of_numbers` (its clause).

-- the row at a position
abbrev pub row_at : List Record → ℕ → List Value
row_at file at = (slice_index_or file at no_record).row

-- each row of a file has the fields of the parts, with valid values
abbrev pub AreReady : List Part → List Record → Type 0
AreReady parts file = (at : ℕ) → at < length file → InRange (row_at file at) parts × AreReadable (row_at file at) parts

-- each row of a file has the fields of each part of a pass, with valid values
abbrev pub AreAllReady : List (List Part) → List Record → Type 0
AreAllReady passes file = (k : ℕ) → k < length passes → AreReady (slice_index_or passes k []) file

-- the positions whose key is this one, rising
abbrev pub rows_with_key : List Part → List Record → Option (List (List ℕ)) → List ℕ
rows_with_key parts file key = filter (λ at. same_key key (key_in_pass (row_at file at) parts)) (range_with_len 0 (length file))

-- the positions that have this number, rising, where it is below `count`; none for another
abbrev pub rows_with_number : List ℕ → ℕ → ℕ → List ℕ
rows_with_number numbers count number = if nat_lt number count then rows_with numbers (length numbers) number else []

-- The ids of the parts of keys, one list for a whole file: what stands in a pool for each part of each pass of each record, in
-- this order, and none where the part is missing. `key_ids` carries them (its clause); a walk over two files needs no more.
-- `count_parts` carries how many they are a record.

-- the id of the part of a key that a row has
abbrev pub part_id : List (List ℕ) → List Value → Part → Option ℕ
part_id texts row part = option_map (place_among texts) (part_key row part)

-- the ids of the parts of a row in a pass, and in all passes
abbrev pub ids_in_pass : List (List ℕ) → List Value → List Part → List (Option ℕ)
ids_in_pass texts row parts = map (part_id texts row) parts

abbrev pub ids_of_row : List (List ℕ) → List (List Part) → List Value → List (Option ℕ)
ids_of_row texts passes row = flat_map (ids_in_pass texts row) passes

-- how many parts passes have together
abbrev pub parts_in : List (List Part) → ℕ
parts_in [] = 0
parts_in (pass ∷ passes) = length pass + parts_in passes

-- the ids of the parts of a file
abbrev pub key_ids : List (List ℕ) → List (List Part) → List Record → List (Option ℕ)
key_ids texts passes file = flat_map (λ (r : Record). ids_of_row texts passes r.row) file
