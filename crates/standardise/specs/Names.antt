-- The standard values of names and places: the steps in turn (`std_text_in`, clause `value`, by `found_value`; `std_text`,
-- clause `value`).
use Rattle.std.specs.Prelude.{ℕ, List, [], ◌∷◌, Option, Some, None, if◌then◌else◌, bytes_eq, ◌++◌, reverse, unwrap_or, map, chars, encode_utf8_all}
use Rattle.std.specs.Ordering.{nat_cmp}
use Rattle.std.specs.declared.cmp.Ordering.{Ordering}
use Rattle.std.specs.Cmp.Lexicographic.{slice_cmp}
use Rattle.link_base.specs.declared.tables.Tables.{Tables}
use Rattle.link_base.specs.declared.tables.WordPair.{WordPair}
pub use Rattle.value_forms.specs.Initials.{run_words, words, words_after}
use Rattle.link_texts.specs.Texts.{stands_among}
use Rattle.std.specs.Str.{trim}
use Rattle.unicode_normalization.specs.Forms.{nfd}
use Rattle.link_base.specs.declared.standard.Value.{Value}
use Rattle.standardise.specs.Cleaning.{cleaned}
use Rattle.link_base.specs.declared.standard.Value.TheVariants as value

-- What standard values go by: as which `TextTables` is seen (`of_names`, `of_places`).

-- what a text is standardised by: marks of a missing value, titles, suffixes, and pairs of words
pub record TextView : Type 0 where
  pub marks : List (List ℕ)
  pub titles : List (List ℕ)
  pub suffixes : List (List ℕ)
  pub words : List WordPair

-- that of the names of a plan, and that of its places, of which no title or suffix is dropped
abbrev pub names_of : Tables → TextView
names_of t = record { marks = t.missing; titles = t.titles; suffixes = t.suffixes; words = t.names }

abbrev pub places_of : Tables → TextView
places_of t = record { marks = t.missing; titles = []; suffixes = []; words = t.places }

-- the word that pairs have for a word
abbrev pub word_for : List WordPair → List ℕ → Option (List ℕ)
word_for [] word = None
word_for (p ∷ ps) word = if bytes_eq p.from word then Some p.to else word_for ps word

-- the order of texts by their bytes
abbrev pub text_cmp : List ℕ → List ℕ → Ordering
text_cmp = slice_cmp nat_cmp

-- The words of a text, which titles are dropped from and words are replaced in (`TextTables::untitled`, clause `words`;
-- `in_place`, clause `value`).

-- while there is more than one word and the first stands in the list, the first is dropped
abbrev pub without_first : List (List ℕ) → List (List ℕ) → List (List ℕ)
without_first titles [] = []
without_first titles (w ∷ []) = w ∷ []
without_first titles (w ∷ v ∷ ws) = if stands_among titles w then without_first titles (v ∷ ws) else w ∷ v ∷ ws

-- the same at the end
abbrev pub without_last : List (List ℕ) → List (List ℕ) → List (List ℕ)
without_last titles ws = reverse (without_first titles (reverse ws))

-- titles are dropped at the front, then titles and suffixes at the end
abbrev pub without_titles : List (List ℕ) → List (List ℕ) → List (List ℕ) → List (List ℕ)
without_titles titles suffixes ws = without_last (titles ++ suffixes) (without_first titles ws)

-- a word, or the word that pairs have for it
abbrev pub replaced : List WordPair → List ℕ → List ℕ
replaced pairs word = unwrap_or (word_for pairs word) word

-- each word behind a space
abbrev pub spaced_words : List (List ℕ) → List ℕ
spaced_words [] = []
spaced_words (w ∷ ws) = (32 ∷ w) ++ spaced_words ws

-- the words with a space between them
abbrev pub joined : List (List ℕ) → List ℕ
joined [] = []
joined (w ∷ ws) = w ++ spaced_words ws

-- the characters of a text after the canonical decomposition and the five steps behind it
unfoldable pub characters_of : List ℕ → List ℕ
characters_of text = cleaned (nfd (chars text))

-- the words of a text, each in UTF-8
abbrev pub words_of_text : List ℕ → List (List ℕ)
words_of_text text = map encode_utf8_all (words (characters_of text))

-- the words, each replaced, with a space between them; absent where there is none
abbrev pub word_or_absent : List WordPair → List (List ℕ) → Value
word_or_absent pairs [] = value.Absent
word_or_absent pairs (w ∷ ws) = value.Word (joined (map (replaced pairs) (w ∷ ws)))

-- the value of a text that was found or made, and absent where there is none
abbrev pub found_value : Option (List ℕ) → Value
found_value None = value.Absent
found_value (Some text) = value.Word text

-- the standard value of a name or a place, by its tables
abbrev pub text_value : TextView → List ℕ → Value
text_value t text =
    if stands_among t.marks (trim text) then value.Absent
    else word_or_absent t.words (without_titles t.titles t.suffixes (words_of_text (trim text)))
