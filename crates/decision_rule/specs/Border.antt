-- The border words (ChaCha20: Bernstein 2008, RFC 8439): `BorderWords::word` carries them by its clause `word`.
use Rattle.std.specs.Prelude.{ℕ, ◌+◌, ◌*◌, ◌^◌, List, ◌++◌, replicate, ◌≡◌, ◌<◌, slice_index}
use Rattle.std.specs.Int.{w64, to_le_bytes}
use Rattle.rand_chacha.specs.ChaCha.{word_at, key_of}

-- the key whose bytes are those of the seed, least first, and 24 zeros
abbrev pub border_key : ℕ → List ℕ
border_key seed = key_of (to_le_bytes w64 seed ++ replicate 24 0)

-- the word of the pair at positions a and b: ChaCha with 20 rounds, stream 0
abbrev pub border_word : ℕ → ℕ → ℕ → ℕ
border_word seed a b = word_at 10 (border_key seed) 0 (a * 2 ^ 17 + b)

-- Machinery of `BorderWords`: the block of words that it keeps at hand.

-- the 16 words of a block of this stream
abbrev pub IsBlock : ℕ → ℕ → List ℕ → Type 0
IsBlock seed block words = (i : ℕ) → i < 16 → slice_index words i ≡ word_at 10 (border_key seed) 0 (block * 16 + i)
