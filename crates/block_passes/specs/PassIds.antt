-- Machinery of the walk by ids: the ids of one pass row by row, where they stand among those of all passes, and what is read
-- from them. No public clause names it.
use Rattle.std.specs.Prelude.{◌≡◌, ◌<◌, ◌+◌, ◌*◌, ℕ, List, [], ◌∷◌, length, map, take, drop, slice_index_or, Option, Some, None, option_map}
use Rattle.std.specs.List.{range_with_len}
use Rattle.block_passes.specs.Numbering.{AreGroups, bytes_of_ids, no_number}
use Rattle.block_passes.specs.Keys.{row_at, ids_in_pass, joined, no_part, part_key}
use Rattle.link_base.specs.Words.{Record}
use Rattle.value_forms.specs.declared.passes.Part.{Part}

-- so many ids of each row, the first of them `start` places after the row's first
abbrev pub rows_in_pass : List (Option ℕ) → ℕ → ℕ → ℕ → ℕ → List (List (Option ℕ))
rows_in_pass ids width start parts rows = map (λ at. take parts (drop (at * width + start) ids)) (range_with_len 0 rows)

-- these are the ids of the rows of a file in a pass
abbrev pub AreIdsInPass : List (List ℕ) → List Part → List Record → List (List (Option ℕ)) → Type 0
AreIdsInPass texts pass file rows = (length rows ≡ length file) × ((at : ℕ) → at < length file → slice_index_or rows at [] ≡ ids_in_pass texts (row_at file at) pass)

-- the ids, present where each is
abbrev pub all_ids : List (Option ℕ) → Option (List ℕ)
all_ids [] = Some []
all_ids (id ∷ ids) = joined id (all_ids ids)

-- the bytes of the ids of the row at a position
abbrev pub code_at : List (List (Option ℕ)) → ℕ → Option (List ℕ)
code_at rows at = option_map bytes_of_ids (all_ids (slice_index_or rows at []))

-- the first part of the key of the row at a position
abbrev pub part_at : List Part → List Record → ℕ → Option (List ℕ)
part_at parts file at = part_key (row_at file at) (slice_index_or parts 0 no_part)

-- the first id as the number of a key
abbrev pub first_number : List (Option ℕ) → ℕ
first_number [] = no_number
first_number (None ∷ ids) = no_number
first_number (Some id ∷ ids) = id

-- these are the first ids of rows
abbrev pub AreFirstIds : List (List (Option ℕ)) → ℕ → List ℕ → Type 0
AreFirstIds rows count numbers = (length numbers ≡ count) × ((at : ℕ) → at < count → slice_index_or numbers at 0 ≡ first_number (slice_index_or rows at []))

-- the rows of each number are made of the first ids of B, those of a row of A are the rows of its number
abbrev pub AreByPart : List (List (Option ℕ)) → List (List (Option ℕ)) → ℕ → List (List ℕ) → Type 0
AreByPart a b texts rows =
    (of_a : List ℕ) × (of_b : List ℕ) × (groups : List (List ℕ)) × AreFirstIds a (length a) of_a × AreFirstIds b (length b) of_b × AreGroups of_b texts groups × (rows ≡ map (λ n. slice_index_or groups n []) of_a)
