-- Machinery of the pool: the hash of texts. It multiplies a text's words of eight bytes, one after the other, and folds the
-- product (Y. Wang, wyhash). No public clause names it, and none rests on what it gives.
use Rattle.std.specs.Prelude.{ℕ, List, [], ◌∷◌, ◌+◌, ◌*◌, ◌/◌, ◌%◌, ◌-◌, ◌^◌, length, slice_index_or, bit_xor, nat_le, if◌then◌else◌}
use Rattle.std.specs.Int.{from_le_bytes, w32, w64}
use Rattle.std.specs.Simd.{first_chunks}
use Rattle.value_pool.specs.declared.hashes.TheConstants.{START, FACTOR}

-- a product of two words, one half of it over the other
unfoldable pub folded : ℕ → ℕ → ℕ
folded a b = bit_xor (a * b / 2 ^ 64) (a * b % 2 ^ 64)

-- the next four bytes of a text, and the next eight, the first of them lowest
abbrev pub four_bytes_at : List ℕ → ℕ → ℕ
four_bytes_at text at = from_le_bytes w32 (slice_index_or text at 0 ∷ slice_index_or text (at + 1) 0 ∷ slice_index_or text (at + 2) 0 ∷ slice_index_or text (at + 3) 0 ∷ [])

abbrev pub eight_bytes_at : List ℕ → ℕ → ℕ
eight_bytes_at text at = from_le_bytes w64 (slice_index_or text at 0 ∷ slice_index_or text (at + 1) 0 ∷ slice_index_or text (at + 2) 0
    ∷ slice_index_or text (at + 3) 0 ∷ slice_index_or text (at + 4) 0 ∷ slice_index_or text (at + 5) 0 ∷ slice_index_or text (at + 6) 0
    ∷ slice_index_or text (at + 7) 0 ∷ [])

-- all bytes of a text of at most three
abbrev pub few_bytes : List ℕ → ℕ
few_bytes text = slice_index_or text 0 0 + slice_index_or text 1 0 * 2 ^ 8 + slice_index_or text 2 0 * 2 ^ 16

-- the last eight bytes of a text, or a word that has all bytes of a shorter one
unfoldable pub last_word : List ℕ → ℕ
last_word text =
    if nat_le 8 (length text) then eight_bytes_at text (length text - 8)
    else (if nat_le 4 (length text) then four_bytes_at text 0 + four_bytes_at text (length text - 4) * 2 ^ 32 else few_bytes text)

-- a hash with these words more
abbrev pub hash_from : ℕ → List (List ℕ) → ℕ
hash_from hash [] = hash
hash_from hash (word ∷ words) = hash_from (folded (bit_xor hash (from_le_bytes w64 word)) FACTOR) words

-- the hash of a text: its length, its whole words and its last one
unfoldable pub hash_of : List ℕ → ℕ
hash_of text = folded (bit_xor (hash_from (bit_xor START (length text)) (first_chunks 8 (length text / 8) text)) (last_word text)) FACTOR % 2 ^ 32
