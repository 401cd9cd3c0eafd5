-- What a value is compared or blocked by: its canon of each kind (`canon_text`; `Canon::letters`, `Canon::with_letters`), and its
-- initials (`initials_text`). Comparators and blocking passes cite these definitions, so that both speak of the same canons.
use Rattle.std.specs.Prelude.{◌≡◌, Bool, true, false, Option, Some, None, List, ℕ, ℤ, pos, ⊤, IsUtf8}
use Rattle.link_base.specs.Words.{IsDay}
use Rattle.link_base.specs.declared.standard.Value.{Value}
use Rattle.link_base.specs.declared.standard.Value.TheVariants.{Absent, Word, Day}
use Rattle.value_forms.specs.declared.canons.Canon.{Canon}
use Rattle.value_forms.specs.declared.canons.Canon.TheVariants as canon
use Rattle.value_forms.specs.declared.canons.End.{End}
use Rattle.value_forms.specs.declared.canons.End.TheVariants as end
use Rattle.value_forms.specs.declared.canons.CompareKind.{CompareKind}
use Rattle.value_forms.specs.declared.canons.CompareKind.TheVariants as by
use Rattle.value_forms.specs.Days.{four_digits, text_of_day, year_of_day}
use Rattle.value_forms.specs.Initials.{first_characters, initials_of}
use Rattle.phonetic_keys.specs.Soundex.{soundex_of}
use Rattle.phonetic_keys.specs.Nysiis.{nysiis_of}

-- the comparison by whole values, and the kind past the end of a list
abbrev pub exact : CompareKind
exact = by.Same canon.Whole

abbrev pub letters_of : Canon → Option ℕ
letters_of (canon.Letters end n) = Some n
letters_of c = None

abbrev pub with_letters : ℕ → Canon → Canon
with_letters n (canon.Letters end m) = canon.Letters end n
with_letters n c = c

-- the text of a word, and YYYY-MM-DD of a day
abbrev pub exact_canon : Value → Option (List ℕ)
exact_canon Absent = None
exact_canon (Word text) = Some text
exact_canon (Day day) = Some (text_of_day day)

-- the Soundex key of a word with a letter
abbrev pub soundex_canon : Value → Option (List ℕ)
soundex_canon Absent = None
soundex_canon (Word text) = soundex_of text
soundex_canon (Day day) = None

-- the NYSIIS key of a word with a letter
abbrev pub nysiis_canon : Value → Option (List ℕ)
nysiis_canon Absent = None
nysiis_canon (Word text) = nysiis_of text
nysiis_canon (Day day) = None

-- n characters at an end of a text, or all where it has fewer
abbrev pub characters_at : End → ℕ → List ℕ → List ℕ
characters_at end.Front = first_characters

-- n characters at an end of a word
abbrev pub letters_canon : End → ℕ → Value → Option (List ℕ)
letters_canon at n Absent = None
letters_canon at n (Word text) = Some (characters_at at n text)
letters_canon at n (Day day) = None

-- the four digits of the year of a day
abbrev pub year_digits : Value → Option (List ℕ)
year_digits Absent = None
year_digits (Word text) = None
year_digits (Day day) = Some (four_digits (year_of_day day))

-- the canon of a value: what values are compared by, or the part of a key that a value makes
abbrev pub canon_by : Canon → Value → Option (List ℕ)
canon_by canon.Whole v = exact_canon v
canon_by canon.Soundex v = soundex_canon v
canon_by canon.Nysiis v = nysiis_canon v
canon_by (canon.Letters at n) v = letters_canon at n v
canon_by canon.Year v = year_digits v

-- whether the canon of a word is of its characters, and not of its bytes
abbrev pub reads_characters : Canon → Bool
reads_characters (canon.Letters at n) = true
reads_characters c = false

-- a valid value, as far as its canon reads it: a word whose characters are read is text
abbrev pub IsReadable : Canon → Value → Type 0
IsReadable c Absent = ⊤
IsReadable c (Word text) = reads_characters c ≡ true → IsUtf8 text
IsReadable c (Day day) = IsDay day

-- the first character of each word of a word's text, joined
abbrev pub initials_canon : Value → Option (List ℕ)
initials_canon Absent = None
initials_canon (Word text) = Some (initials_of text)
initials_canon (Day day) = None

-- a day, and its year as a number
abbrev pub day_in : Value → Option ℤ
day_in Absent = None
day_in (Word text) = None
day_in (Day day) = Some day

abbrev pub year_in : Value → Option ℤ
year_in Absent = None
year_in (Word text) = None
year_in (Day day) = Some (pos (year_of_day day))

-- whether a kind compares days as they are, so that values have no canon for it
abbrev pub compares_days : CompareKind → Bool
compares_days (by.Same c) = false
compares_days by.Initials = false
compares_days (by.DaysWithin t) = true
compares_days (by.YearsWithin t) = true

-- the text by which a kind compares a value
abbrev pub canon_of : CompareKind → Value → Option (List ℕ)
canon_of (by.Same c) v = canon_by c v
canon_of by.Initials v = initials_canon v
canon_of (by.DaysWithin t) v = None
canon_of (by.YearsWithin t) v = None
