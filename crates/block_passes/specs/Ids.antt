-- Keys as ids: the places of their texts in a pool. `id_key` carries them (its clause), `build_index_in` the rows by them, and
-- `ids_tell_keys` what they are worth.
use Rattle.std.specs.Prelude.{◌<◌, ℕ, List, [], map, filter, length, slice_index_or, Bool, Option, option_map}
use Rattle.std.specs.List.{range_with_len}
use Rattle.value_pool.specs.Pool.{IsHeld, place_among}
use Rattle.block_passes.specs.Keys.{key_in_pass, no_part, part_key, same_text, row_at}
use Rattle.link_base.specs.Words.{Record}
use Rattle.value_forms.specs.declared.passes.Part.{Part}
use Rattle.link_base.specs.declared.standard.Value.{Value}

-- each part of the key of a row stands among the texts, if it is present
abbrev pub AreHeld : List (List ℕ) → List Value → List Part → Type 0
AreHeld texts row parts = (k : ℕ) → k < length parts → IsHeld texts (part_key row (slice_index_or parts k no_part))

-- the parts of the keys of all rows of a file stand among the texts
abbrev pub AreAllHeld : List (List ℕ) → List Part → List Record → Type 0
AreAllHeld texts parts file = (at : ℕ) → at < length file → AreHeld texts (row_at file at) parts

-- the parts of the keys of a file in each pass stand among the texts
abbrev pub AreKeysHeld : List (List ℕ) → List (List Part) → List Record → Type 0
AreKeysHeld texts passes file = (k : ℕ) → k < length passes → AreAllHeld texts (slice_index_or passes k []) file

-- the ids of the texts of a key
abbrev pub ids_of_key : List (List ℕ) → Option (List (List ℕ)) → Option (List ℕ)
ids_of_key texts key = option_map (map (place_among texts)) key

-- the key of a row in a pass as ids, present where each part is
abbrev pub id_key_in : List (List ℕ) → List Value → List Part → Option (List ℕ)
id_key_in texts row parts = ids_of_key texts (key_in_pass row parts)

-- both lists of ids are present, and they are equal
abbrev pub same_ids : Option (List ℕ) → Option (List ℕ) → Bool
same_ids k l = same_text k l

-- the positions whose ids are these, rising
abbrev pub rows_with_ids : List (List ℕ) → List Part → List Record → Option (List ℕ) → List ℕ
rows_with_ids texts parts file ids = filter (λ at. same_ids ids (id_key_in texts (row_at file at) parts)) (range_with_len 0 (length file))
