-- Machinery of the initials: byte by byte over a text in UTF-8, with two flags. No public clause names it.
use Rattle.std.specs.Prelude.{ℕ, List, [], ◌∷◌, Bool, not, ◌&&◌, ◌||◌, ◌==◌, nat_le, true, false, if◌then◌else◌}

-- a byte that goes on with a character (RFC 3629)
abbrev pub goes_on : ℕ → Bool
goes_on byte = nat_le 128 byte && nat_le byte 191

-- a byte of the first character of a word: it starts the word, or follows a byte of that character and goes on with it
abbrev pub is_initial : Bool → Bool → ℕ → Bool
is_initial starts follows byte = not (byte == 32) && (starts || (follows && goes_on byte))

-- these bytes of the rest of a text, where a word may start there, and where a byte of such a character stands before it
abbrev pub initials_from : List ℕ → Bool → Bool → List ℕ
initials_from [] starts follows = []
initials_from (byte ∷ bytes) starts follows =
    if is_initial starts follows byte
    then byte ∷ initials_from bytes (byte == 32) true
    else initials_from bytes (byte == 32) false
