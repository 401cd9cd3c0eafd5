-- Soundex, by looking back from each place on the list of letters (Knuth, The Art of Computer Programming, volume 3, second
-- edition, chapter 6). `soundex` carries it (clause `key`), and `carrying` that carrying a code gives the same.
use Rattle.std.specs.Prelude.{ℕ, List, [], ◌∷◌, ◌++◌, Bool, true, ◌-◌, ◌&&◌, ◌||◌, not, ◌==◌, if◌then◌else◌, Option, Some, None, codes, find, filter, map, reverse, take, length, slice_index}
use Rattle.std.specs.List.{range_with_len}
use Rattle.std.specs.Option.{option_map_or}
use Rattle.phonetic_keys.specs.Alphabet.{letters_of}

-- the codes of A to Z in turn, as digits:
--   ABCDEFGHIJKLMNOPQRSTUVWXYZ
abbrev pub code_row : List ℕ
code_row = codes "01230120022455012623010202"

-- the code of a letter, a digit
unfoldable pub letter_code : ℕ → ℕ
letter_code c = slice_index code_row (c - 65)

-- neither H nor W
abbrev pub parts_codes : ℕ → Bool
parts_codes c = not (c == 72 || c == 87)

-- the nearest letter before a place, H and W left out
abbrev pub nearest_before : List ℕ → ℕ → Option ℕ
nearest_before letters place = find parts_codes (reverse (take place letters))

-- the code of the letter at a place
abbrev pub code_at : List ℕ → ℕ → ℕ
code_at letters place = letter_code (slice_index letters place)

-- a place counts where its code is not the digit 0 and differs from that of the nearest letter before it,
-- H and W left out, or there is no such letter
abbrev pub counts : List ℕ → ℕ → Bool
counts letters place =
    not (code_at letters place == 48)
    && option_map_or (λ d. not (code_at letters place == letter_code d)) (nearest_before letters place) true

-- the later places that count, rising
abbrev pub counted_places : List ℕ → List ℕ
counted_places letters = filter (counts letters) (range_with_len 1 (length letters - 1))

abbrev pub soundex_key : List ℕ → Option (List ℕ)
soundex_key [] = None
soundex_key (c ∷ cs) =
    Some (take 4 (c ∷ (map (code_at (c ∷ cs)) (counted_places (c ∷ cs)) ++ codes "000")))

-- the Soundex key of a text; none where it has no letter
abbrev pub soundex_of : List ℕ → Option (List ℕ)
soundex_of text = soundex_key (letters_of text)

-- The same by carrying the code of the nearest letter, H and W left out; the digit 0 where there is none.

-- what is carried behind a letter
abbrev pub code_behind : ℕ → ℕ → ℕ
code_behind last c = if parts_codes c then letter_code c else last

abbrev pub is_new_behind : ℕ → ℕ → Bool
is_new_behind last c = not (letter_code c == 48) && not (letter_code c == last)

-- the codes that count, of letters behind that code
abbrev pub carried : ℕ → List ℕ → List ℕ
carried last [] = []
carried last (c ∷ cs) =
    if is_new_behind last c
    then letter_code c ∷ carried (code_behind last c) cs
    else carried (code_behind last c) cs
