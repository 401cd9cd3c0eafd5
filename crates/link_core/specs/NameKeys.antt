-- The text of words as names with their phonetic keys: the clause of `key_lines`.
use Rattle.std.specs.Prelude.{ℕ, List, [], ◌++◌, codes, unwrap_or, flat_map}
use Rattle.link_base.specs.Words.{missing_marks, name_suffixes, name_titles}
use Rattle.link_base.specs.declared.standard.Value.{Value}
use Rattle.link_base.specs.declared.standard.Value.TheVariants as value
use Rattle.phonetic_keys.specs.Nysiis.{nysiis_of}
use Rattle.phonetic_keys.specs.Soundex.{soundex_of}
use Rattle.standardise.specs.Names.{text_value, TextView}

-- the tables of a settings file that names none
abbrev pub standard_names : TextView
standard_names = record { marks = missing_marks; titles = name_titles; suffixes = name_suffixes; words = [] }

-- the text of a value, and nothing where it has none
abbrev pub text_or_nothing : Value → List ℕ
text_or_nothing value.Absent = []
text_or_nothing (value.Word text) = text
text_or_nothing (value.Day day) = []

-- a standard text with its Soundex and NYSIIS keys, each empty where there is none
abbrev pub line_of_text : List ℕ → List ℕ
line_of_text text = text ++ codes "," ++ unwrap_or (soundex_of text) [] ++ codes "," ++ unwrap_or (nysiis_of text) [] ++ codes "\n"

-- the line of a word, taken as a name
abbrev pub keys_line : List ℕ → List ℕ
keys_line word = line_of_text (text_or_nothing (text_value standard_names word))

abbrev pub keys_text : List (List ℕ) → List ℕ
keys_text words = flat_map keys_line words
