-- The numbers that texts write in decimal digits (`read_decimal`, by its clauses; law `decimals_are_read`).
use Rattle.std.specs.Char.{is_ascii_digit}
use Rattle.std.specs.List.{list_all}
use Rattle.std.proofs.Common.{◌≡◌, ◌<◌, refl, arith, ◌-◌, ◌+◌, ◌*◌, ℕ, List, [], ◌∷◌, length, Bool, not, ◌==◌, ◌&&◌, ◌||◌, nat_le, slice_index_or}
use Rattle.csv.specs.Reading.{strip_bom}

-- the number that decimal digits write, after those before
abbrev pub number_after : ℕ → List ℕ → ℕ
number_after n [] = n
number_after n (digit ∷ digits) = number_after (n * 10 + (digit - 48)) digits

abbrev pub number_in : List ℕ → ℕ
number_in digits = number_after 0 digits

-- digits, some, without a leading zero
abbrev pub is_decimal : List ℕ → Bool
is_decimal w = nat_le 1 (length w) && list_all is_ascii_digit w && (length w == 1 || not (slice_index_or w 0 48 == 48))

-- The byte order mark at the start of a text, which a reader drops: the text of rows reads as these rows where there is
-- none (law `rows_read_again`).

-- a text does not begin with a byte order mark
abbrev pub HasNoMark : List ℕ → Type 0
HasNoMark text = strip_bom text ≡ text

-- law: a text that begins with a byte of ASCII does not begin with a mark
pub no_mark : (byte : ℕ) (bytes : List ℕ) → byte < 239 → HasNoMark (byte ∷ bytes)
unfolding strip_bom
no_mark byte [] low = refl
no_mark byte (x ∷ []) low = refl
no_mark byte (x ∷ y ∷ bytes) low = grind arith
