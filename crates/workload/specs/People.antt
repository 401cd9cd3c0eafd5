-- The people of the made files: row by row the same in A and in B, but for one change in three rows out of ten of B
-- (`person_of`, `changed_of`, clause `person`).
use Rattle.std.specs.Prelude.{ℕ, zero, suc, ◌/◌, ◌%◌, List, [], ◌∷◌, ◌++◌, codes, get_or, ◌+◌, ◌*◌, ◌==◌, if◌then◌else◌, Some, None, pos, ◌-ℤ◌}
use Rattle.workload.specs.declared.people.Person.{Person}

-- Words of numbers, whose letters are syllables: what a made person is called (`word_of_two`, `word_of_four`, their lone clauses).

-- the syllables of the digits of base 16
abbrev pub syllables : List (List ℕ)
syllables =
    codes "BA" ∷ codes "DE" ∷ codes "FI" ∷ codes "GO" ∷ codes "KU" ∷ codes "LA" ∷ codes "ME" ∷ codes "NI" ∷ codes "RO" ∷ codes "SU"
    ∷ codes "TA" ∷ codes "VE" ∷ codes "WI" ∷ codes "ZO" ∷ codes "HA" ∷ codes "PE" ∷ []

unfoldable pub syllable : ℕ → List ℕ
syllable digit = get_or syllables digit []

-- the word of a number in so many digits of base 16, the most significant first
unfoldable pub word : ℕ → ℕ → List ℕ
word zero number = []
word (suc digits) number = word digits (number / 16) ++ syllable (number % 16)

-- the person of a row of A
abbrev pub person : ℕ → Person
person row =
    record { surname = (37 * row + 11) % 65536; given = (5 * row + 3) % 256; birth = Some (pos (13 * row % 20000) -ℤ pos 10000) }

-- the changes: the next given name, no day of birth, the next surname
abbrev pub next_given : Person → Person
next_given p = record p { given = (p.given + 1) % 256 }

abbrev pub without_birth : Person → Person
without_birth p = record p { birth = None }

abbrev pub next_surname : Person → Person
next_surname p = record p { surname = (p.surname + 1) % 65536 }

-- the person of a row of B
abbrev pub changed : ℕ → Person
changed row =
    if row % 10 == 3 then next_given (person row)
    else if row % 10 == 7 then without_birth (person row)
    else if row % 10 == 9 then next_surname (person row)
    else person row
