-- The steps of a name on its characters, in turn (`clean`, clause `text`; each step, by the one clause of its function).
use Rattle.std.specs.Prelude.{ℕ, List, [], ◌∷◌, ◌-◌, Option, Some, None, Bool, ◌&&◌, ◌||◌, not, nat_le, ◌==◌, if◌then◌else◌, filter, map, codes, flat_map}
use Rattle.std.specs.Char.{to_ascii_uppercase}
use Rattle.ucd_category.specs.GeneralCategory.{general_category}
use Rattle.ucd_category.specs.GeneralCategoryGroup.{in_group}
use Rattle.ucd_category.specs.declared.GeneralCategoryGroup.TheVariants.{Letter, Mark}

-- Mn, Mc and Me
abbrev pub is_combining : ℕ → Bool
is_combining c = in_group Mark (general_category c)

abbrev pub without_marks : List ℕ → List ℕ
without_marks cs = filter (λ c. not (is_combining c)) cs

-- ß ẞ, Æ æ, Œ œ, Ø ø, Ł ł, Đ đ, Ð ð, Þ þ
unfoldable pub letter_of : ℕ → List ℕ
letter_of c =
    if c == 0xDF || c == 0x1E9E then codes "SS"
    else (if c == 0xC6 || c == 0xE6 then codes "AE"
    else (if c == 0x152 || c == 0x153 then codes "OE"
    else (if c == 0xD8 || c == 0xF8 then codes "O"
    else (if c == 0x141 || c == 0x142 then codes "L"
    else (if c == 0x110 || c == 0x111 || c == 0xD0 || c == 0xF0 then codes "D"
    else (if c == 0xDE || c == 0xFE then codes "TH"
    else c ∷ []))))))

abbrev pub with_letters : List ℕ → List ℕ
with_letters cs = flat_map letter_of cs

abbrev pub in_capitals : List ℕ → List ℕ
in_capitals cs = map to_ascii_uppercase cs

abbrev pub in_apostrophes : ℕ → Bool
in_apostrophes c = c == 0x27 || c == 0x60 || c == 0xB4 || c == 0x2BC || c == 0x2018 || c == 0x2019

abbrev pub without_apostrophes : List ℕ → List ℕ
without_apostrophes cs = filter (λ c. not (in_apostrophes c)) cs

-- A to Z, 0 to 9, and letters past ASCII
abbrev pub stays_in_words : ℕ → Bool
stays_in_words c = (nat_le 65 c && nat_le c 90) || (nat_le 48 c && nat_le c 57) || (nat_le 128 c && in_group Letter (general_category c))

abbrev pub spaced : ℕ → ℕ
spaced c = if stays_in_words c then c else 32

abbrev pub with_spaces : List ℕ → List ℕ
with_spaces cs = map spaced cs

-- the five steps in turn
abbrev pub cleaned : List ℕ → List ℕ
cleaned cs = with_spaces (without_apostrophes (in_capitals (with_letters (without_marks cs))))

-- machinery of the code, which goes over the characters once, and which no public clause names: what becomes of one
-- character
abbrev pub cleaned_char : ℕ → List ℕ
cleaned_char c = if is_combining c then [] else with_spaces (without_apostrophes (in_capitals (letter_of c)))

-- and of one of ASCII: a letter as its capital, a digit as it is, an apostrophe as nothing, all else as a space
unfoldable pub ascii_cleaned : ℕ → Option ℕ
ascii_cleaned c =
    if nat_le 97 c && nat_le c 122 then Some (c - 32)
    else (if (nat_le 65 c && nat_le c 90) || (nat_le 48 c && nat_le c 57) then Some c
    else (if c == 0x27 || c == 0x60 then None
    else Some 32))
