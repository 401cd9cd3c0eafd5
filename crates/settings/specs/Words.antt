-- The words that name choices (the `Choices` of src/words.rt, by the clause of `Choices::named`).
use Rattle.std.specs.Prelude.{List, ℕ, Bool, not, length, Result, ◌&&◌, nat_le, ◌+◌, ◌++◌, [], ◌∷◌, codes, Ok, is_some, if◌then◌else◌, Option}
use Rattle.std.specs.List.{list_all}
use Rattle.toml.specs.Data.{Data, as_str, Members, no_members, member, as_table}
use Rattle.settings_readers.specs.declared.fault.KeyFault.{KeyFault}
use Rattle.link_base.specs.Words.{is_word}
use Rattle.settings_readers.specs.Values.{◌>>=◌, typed, in_range, needed, without, array_of, whole, named_in}
use Rattle.link_limits.specs.declared.TheConstants.{MOST_NAME_BYTES}
use Rattle.link_plan.specs.Plan.{is_name_byte, is_output}
use Rattle.link_plan.specs.declared.limits.TheConstants.{MOST_FIELD_NAME_BYTES, MOST_LABEL_BYTES, MOST_MARK_BYTES, MOST_WORD_PAIRS, MOST_LETTERS}
use Rattle.settings.specs.declared.texts.TextRule.{TextRule}
use Rattle.link_base.specs.declared.tables.WordPair.{WordPair}
use Rattle.value_forms.specs.declared.canons.Canon.{Canon}
use Rattle.value_forms.specs.Canons.{letters_of, with_letters}
use Rattle.value_forms.specs.declared.canons.CompareKind.{CompareKind}
use Rattle.link_base.specs.declared.plan.DateForm.{DateForm}
use Rattle.link_base.specs.declared.plan.FieldSort.{FieldSort}
use Rattle.settings.specs.declared.words.Kind.{Kind}
use Rattle.settings.specs.declared.texts.TextRule.TheVariants as rule
use Rattle.value_forms.specs.declared.canons.Canon.TheVariants as canon
use Rattle.value_forms.specs.declared.canons.End.TheVariants as end
use Rattle.value_forms.specs.declared.canons.CompareKind.TheVariants as by
use Rattle.link_base.specs.declared.plan.DateForm.TheVariants as form
use Rattle.link_base.specs.declared.plan.FieldSort.TheVariants as sort
use Rattle.settings.specs.declared.words.Kind.TheVariants as kind

-- Which texts are in range at a key (`fits`, and `TextRule`, by the clause of `Reader::read`).

abbrev pub has_len : ℕ → ℕ → List ℕ → Bool
has_len low high s = nat_le low (length s) && nat_le (length s) high

abbrev pub fits : TextRule → List ℕ → Bool
fits rule.File s = has_len 1 MOST_NAME_BYTES s && not (is_output s)
fits rule.Label s = has_len 1 MOST_LABEL_BYTES s
fits rule.Mark s = has_len 0 MOST_MARK_BYTES s
fits rule.Word s = is_word s
fits rule.FieldName s = has_len 1 MOST_FIELD_NAME_BYTES s && list_all is_name_byte s

abbrev pub text : TextRule → List ℕ → Data → Result (List ℕ) KeyFault
text rule at d = typed at (as_str d) >>= λ s. in_range at (fits rule s) s

-- Lists of texts, and tables from word to word (`Texts` and `WordTable`, by the clause of `Reader::read`; `small_table`,
-- clause `gives`).

-- an array of at most so many texts
abbrev pub texts : ℕ → TextRule → List ℕ → Data → Result (List (List ℕ)) KeyFault
texts high rule at d = array_of 0 high (λ before. text rule) at d

-- an entry of a word table: its key, then its value
abbrev pub word_pair : List ℕ → List ℕ → Data → Result WordPair KeyFault
word_pair at key d = in_range at (is_word key) key >>= λ from. text rule.Word at d >>= λ to. Ok (record { from = from; to = to })

-- the entries in the order of their keys
abbrev pub pairs : List ℕ → Members → List WordPair → Result (List WordPair) KeyFault
pairs above no_members before = Ok before
pairs above (member key d ms) before = word_pair (above ++ key) key d >>= λ x. pairs above ms (before ++ x ∷ [])

abbrev pub members_len : Members → ℕ
members_len no_members = 0
members_len (member k d ms) = 1 + members_len ms

abbrev pub small_table : List ℕ → Data → Result Members KeyFault
small_table at d = typed at (as_table d) >>= λ ms. in_range at (nat_le (members_len ms) MOST_WORD_PAIRS) ms

-- a table of few enough words
abbrev pub word_table : List ℕ → Data → Result (List WordPair) KeyFault
word_table at d = small_table at d >>= λ ms. pairs (at ++ codes ".") ms []

-- How a canon is read whose word stands in the settings (`numbered`): `n` for one of a number of letters, and for no other.

unfoldable pub numbered : Canon → Members → List ℕ → Result Canon KeyFault
numbered c t above = if is_some (letters_of c) then (needed (whole 1 MOST_LETTERS) t above (codes "n") >>= λ n. Ok (with_letters n c)) else without c t above (codes "n")

abbrev pub delimiters : List (List ℕ × ℕ)
delimiters = (codes "comma", 44) ∷ (codes "semicolon", 59) ∷ (codes "tab", 9) ∷ []

abbrev pub delimiter_named : List ℕ → Option ℕ
delimiter_named = named_in delimiters

abbrev pub kind_named : List ℕ → Option Kind
kind_named = named_in ((codes "name", kind.Name) ∷ (codes "place", kind.Place) ∷ (codes "date", kind.Date) ∷ [])

abbrev pub form_named : List ℕ → Option DateForm
form_named = named_in ((codes "ymd", form.Ymd) ∷ (codes "dmy", form.Dmy) ∷ (codes "mdy", form.Mdy) ∷ [])

-- the comparisons of a sort of field, each with its least number where it has one, which a key of its own gives
abbrev pub comparisons : FieldSort → List (List ℕ × CompareKind)
comparisons (sort.Date a b) = (codes "exact", by.Same canon.Whole) ∷ (codes "days", by.DaysWithin 0) ∷ (codes "years", by.YearsWithin 0) ∷ []
comparisons s = (codes "exact", by.Same canon.Whole) ∷ (codes "soundex", by.Same canon.Soundex) ∷ (codes "nysiis", by.Same canon.Nysiis)
    ∷ (codes "first", by.Same (canon.Letters end.Front 1)) ∷ (codes "initials", by.Initials) ∷ []

abbrev pub compare_named : FieldSort → List ℕ → Option CompareKind
compare_named sort = named_in (comparisons sort)

-- the keys of a sort of field, with numbers as above
abbrev pub key_words : FieldSort → List (List ℕ × Canon)
key_words (sort.Date a b) = (codes "whole", canon.Whole) ∷ (codes "year", canon.Year) ∷ []
key_words s = (codes "whole", canon.Whole) ∷ (codes "soundex", canon.Soundex) ∷ (codes "nysiis", canon.Nysiis) ∷ (codes "first", canon.Letters end.Front 1) ∷ []

abbrev pub key_named : FieldSort → List ℕ → Option Canon
key_named sort = named_in (key_words sort)
