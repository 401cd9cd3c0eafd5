-- Machinery of the index: the rows of a file by the codes of their keys. No public clause names them.
use Rattle.std.specs.Prelude.{◌≡◌, ◌<◌, ℕ, List, [], filter, length, slice_index_or, Option}
use Rattle.std.specs.List.{range_with_len}
use Rattle.block_passes.specs.Numbering.{key_code}
use Rattle.block_passes.specs.Keys.{row_at, key_in_pass, same_text}
use Rattle.link_base.specs.Words.{Record}
use Rattle.value_forms.specs.declared.passes.Part.{Part}

-- the code of the key of the row at a position
abbrev pub code_of_row : List Part → List Record → ℕ → Option (List ℕ)
code_of_row parts file at = key_code (key_in_pass (row_at file at) parts)

-- the positions below `count` whose code is this one, rising
abbrev pub rows_of_code : (ℕ → Option (List ℕ)) → ℕ → Option (List ℕ) → List ℕ
rows_of_code code_of count code = filter (λ at. same_text code (code_of at)) (range_with_len 0 count)

-- for each of the first rows of one file the rows of another that have its code
abbrev pub AreByCode : (ℕ → Option (List ℕ)) → ℕ → (ℕ → Option (List ℕ)) → ℕ → List (List ℕ) → Type 0
AreByCode code_a count_a code_b count_b rows =
    (length rows ≡ count_a) × ((at : ℕ) → at < count_a → slice_index_or rows at [] ≡ rows_of_code code_b count_b (code_a at))
