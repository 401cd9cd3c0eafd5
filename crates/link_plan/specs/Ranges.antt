-- The ranges of the settings, whole: what every plan of a settings file keeps (`read_settings` of `settings`, clause `ranges`), and
-- with it the plan of a file with itself (`Plan::within`, clauses `ranges` and `files`). By `AreFiles` no file that is read, the
-- journal among them, has the name of one of the five files that a run writes, and the journal, which `review` and `migrate` alone
-- write, has the name of no other file that is read.
use Rattle.std.specs.Prelude.{◌≡◌, ◌≢◌, ◌<◌, ◌≤◌, ℕ, List, ◌∷◌, length, Bool, true, false, not, Option, Some, None, is_some, option_to_list, IfSome, IsTrue, IsUtf8, All, AllPairs, nat_le, ◌&&◌, ◌||◌, ◌==◌, HoldsAt}
use Rattle.value_forms.specs.Canons.{letters_of}
use Rattle.link_base.specs.Words.{IsShares, outcomes_of, AreWordPairs, is_word}
use Rattle.link_base.specs.declared.plan.FieldSort.{FieldSort}
use Rattle.link_base.specs.declared.plan.FieldSort.TheVariants as sort
use Rattle.value_forms.specs.declared.canons.Canon.{Canon}
use Rattle.value_forms.specs.declared.canons.Canon.TheVariants as canon
use Rattle.value_forms.specs.declared.canons.CompareKind.{CompareKind}
use Rattle.value_forms.specs.declared.canons.CompareKind.TheVariants as by
use Rattle.value_forms.specs.declared.passes.Part.{Part}
use Rattle.link_base.specs.declared.tables.Tables.{Tables}
use Rattle.link_base.specs.declared.tables.WordPair.{WordPair}
use Rattle.link_limits.specs.declared.TheConstants.{MOST_FIELDS, MOST_NAME_BYTES}
use Rattle.link_plan.specs.Plan.{FieldKeys, PlainShares, is_name_byte, is_output}
use Rattle.link_plan.specs.Terms.{KeepsTerms}
use Rattle.link_plan.specs.declared.limits.TheConstants.{LEAST_RARE, MOST_DAYS, MOST_FIELD_NAME_BYTES, MOST_LABEL_BYTES, MOST_LETTERS, MOST_LISTED_WORDS, MOST_MARK_BYTES, MOST_MARKS, MOST_PARTS, MOST_PASSES, MOST_RARE, MOST_WORD_PAIRS, MOST_YEARS}
use Rattle.link_plan.specs.declared.plan.Plan.{Plan}

-- the name of a file that is read: of none that a run writes
pub record IsFileName (name : List ℕ) : Type 0 where
  pub some : 1 ≤ length name
  pub short : length name ≤ MOST_NAME_BYTES
  pub no_output : is_output name ≡ false

-- the files that are read beside the journal: A, B, and the sample where there is one
abbrev pub files_read : List ℕ → List ℕ → Option (List ℕ) → List (List ℕ)
files_read file_a file_b sample = file_a ∷ file_b ∷ option_to_list sample

-- the files that the settings name; the name of the journal is that of none of the others
pub record AreFiles (name_a name_b : List ℕ) (name_of_sample name_of_journal : Option (List ℕ)) : Type 0 where
  pub file_a : IsFileName name_a
  pub file_b : IsFileName name_b
  pub sample : IfSome name_of_sample IsFileName
  pub journal : IfSome name_of_journal IsFileName
  pub apart : IfSome name_of_journal (λ (name : List ℕ). All (λ (other : List ℕ). name ≢ other) (files_read name_a name_b name_of_sample))

-- the name of a column
pub record IsLabel (name : List ℕ) : Type 0 where
  pub some : 1 ≤ length name
  pub short : length name ≤ MOST_LABEL_BYTES

-- a comma, a semicolon or a tab
abbrev pub is_delimiter : ℕ → Bool
is_delimiter b = b == 44 || b == 59 || b == 9

-- marks of a missing value
pub record AreMarks (marks : List (List ℕ)) : Type 0 where
  pub few : length marks ≤ MOST_MARKS
  pub short : All (λ (mark : List ℕ). length mark ≤ MOST_MARK_BYTES) marks

-- titles, or suffixes
pub record AreListedWords (words : List (List ℕ)) : Type 0 where
  pub few : length words ≤ MOST_LISTED_WORDS
  pub each : All (λ (word : List ℕ). IsTrue (is_word word)) words

-- the words that are replaced in names, or in places: each once
pub record IsWordTable (pairs : List WordPair) : Type 0 where
  pub few : length pairs ≤ MOST_WORD_PAIRS
  pub each : AreWordPairs pairs

-- what standard values go by
pub record AreTables (tables : Tables) : Type 0 where
  pub missing : AreMarks tables.missing
  pub titles : AreListedWords tables.titles
  pub suffixes : AreListedWords tables.suffixes
  pub names : IsWordTable tables.names
  pub places : IsWordTable tables.places

-- a number of letters in its range, or none
abbrev pub is_letters : Option ℕ → Bool
is_letters None = true
is_letters (Some n) = nat_le 1 n && nat_le n MOST_LETTERS

-- the canons of names and places, and of dates
abbrev pub is_of_words : Canon → Bool
is_of_words canon.Year = false
is_of_words c = is_letters (letters_of c)

abbrev pub is_of_dates : Canon → Bool
is_of_dates canon.Whole = true
is_of_dates canon.Year = true
is_of_dates c = false

-- the comparisons of names and places, and of dates, with their numbers in range
abbrev pub compares_words : CompareKind → Bool
compares_words (by.Same c) = is_of_words c
compares_words by.Initials = true
compares_words (by.DaysWithin t) = false
compares_words (by.YearsWithin t) = false

abbrev pub compares_dates : CompareKind → Bool
compares_dates (by.Same canon.Whole) = true
compares_dates (by.Same c) = false
compares_dates by.Initials = false
compares_dates (by.DaysWithin t) = nat_le t MOST_DAYS
compares_dates (by.YearsWithin t) = nat_le t MOST_YEARS

-- the comparisons that a sort of field has, and the keys
abbrev pub has_comparison : FieldSort → CompareKind → Bool
has_comparison sort.Name = compares_words
has_comparison sort.Place = compares_words
has_comparison (sort.Date a b) = compares_dates

abbrev pub is_keyed : FieldSort → Canon → Bool
is_keyed sort.Name = is_of_words
is_keyed sort.Place = is_of_words
is_keyed (sort.Date a b) = is_of_dates

-- the name of a field
pub record IsFieldName (name : List ℕ) : Type 0 where
  pub some : 1 ≤ length name
  pub short : length name ≤ MOST_FIELD_NAME_BYTES
  pub bytes : All (λ (byte : ℕ). IsTrue (is_name_byte byte)) name

-- the comparisons of equal texts: all but those by how far apart two dates are
abbrev pub may_be_rare : CompareKind → Bool
may_be_rare (by.DaysWithin t) = false
may_be_rare (by.YearsWithin t) = false
may_be_rare _ = true

-- a rare number, where values are compared by a canon
pub record IsRareNumber (compare : CompareKind) (n : ℕ) : Type 0 where
  pub least : LEAST_RARE ≤ n
  pub most : n ≤ MOST_RARE
  pub by_canon : may_be_rare compare ≡ true

-- the shares of the outcomes of a field, of which rare agreement is one where it has a rare number
pub record AreShares (has_rare : Bool) (shares : PlainShares) : Type 0 where
  pub rare : shares.rare ≡ has_rare
  pub m : IsShares (outcomes_of has_rare) shares.m
  pub u : IsShares (outcomes_of has_rare) shares.u

-- a field; it has shares exactly where there is no sample
pub record IsField (sampled : Bool) (f : FieldKeys) : Type 0 where
  pub name : IsFieldName f.name
  pub column_a : IsLabel f.column_a
  pub column_b : IsLabel f.column_b
  pub compare : has_comparison f.sort f.compare ≡ true
  pub rare : IfSome f.rare (IsRareNumber f.compare)
  pub given : is_some f.shares ≡ not sampled
  pub shares : IfSome f.shares (AreShares (is_some f.rare))

-- no two fields have one name
abbrev pub HaveDistinctNames : List FieldKeys → Type 0
HaveDistinctNames fields = AllPairs (λ (f g : FieldKeys). f.name ≢ g.name) fields

-- a part of a pass over the fields
pub record IsPart (fields : List FieldKeys) (p : Part) : Type 0 where
  pub field : p.field < length fields
  pub key : HoldsAt (λ (f : FieldKeys). is_keyed f.sort p.key ≡ true) fields p.field

pub record IsPass (fields : List FieldKeys) (pass : List Part) : Type 0 where
  pub some : 1 ≤ length pass
  pub few : length pass ≤ MOST_PARTS
  pub parts : All (IsPart fields) pass

-- the ranges of the settings
pub record KeepsRanges (plan : Plan) : Type 0 where
  pub files : AreFiles plan.file_a plan.file_b plan.sample plan.journal
  pub id_a : IsLabel plan.id_a
  pub id_b : IsLabel plan.id_b
  pub delimiter_a : is_delimiter plan.delimiter_a ≡ true
  pub delimiter_b : is_delimiter plan.delimiter_b ≡ true
  pub terms : KeepsTerms plan.terms
  pub tables : AreTables plan.tables
  pub some_fields : 1 ≤ length plan.fields
  pub few_fields : length plan.fields ≤ MOST_FIELDS
  pub fields : All (IsField (is_some plan.sample)) plan.fields
  pub distinct_fields : HaveDistinctNames plan.fields
  pub some_passes : 1 ≤ length plan.passes
  pub few_passes : length plan.passes ≤ MOST_PASSES
  pub passes : All (IsPass plan.fields) plan.passes

-- the files of a plan have names that are UTF-8
pub record NamesFiles (plan : Plan) : Type 0 where
  pub file_a : IsUtf8 plan.file_a
  pub file_b : IsUtf8 plan.file_b
  pub sample : IfSome plan.sample IsUtf8
  pub journal : IfSome plan.journal IsUtf8
