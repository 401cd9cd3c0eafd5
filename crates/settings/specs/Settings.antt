-- The settings: the bytes of a file to a plan, or the first key at fault (`read_settings`, clauses `gives`,
-- `not_toml` and `kind`). The parts are carried by the functions of their names: `plan_of` and `plan_from` by their clauses `gives`, the
-- others by their one clause; the terms by `Terms::read` of `link_plan`, clause `gives`, over `TermKeys`.
use Rattle.std.specs.Prelude.{List, ℕ, Bool, true, false, not, [], ◌∷◌, ◌++◌, codes, Option, Some, None, is_some, option_to_list, Result, Ok, Err, if◌then◌else◌, ⊤}
use Rattle.std.specs.Str.{is_utf8}
use Rattle.toml.specs.Data.{Members}
use Rattle.toml.specs.Parse.{parse_document}
use Rattle.link_texts.specs.Texts.{stands_among}
use Rattle.link_base.specs.declared.fault.Fault.{Fault}
use Rattle.link_base.specs.declared.fault.Fault.TheVariants as fault
use Rattle.link_base.specs.declared.tables.Tables.{Tables}
use Rattle.link_base.specs.Words.{missing_marks, name_titles, name_suffixes}
use Rattle.settings_readers.specs.declared.fault.KeyFault.{KeyFault}
use Rattle.settings_readers.specs.KeyFaults.{fault_of}
use Rattle.settings_readers.specs.Values.{◌>>=◌, in_range, needed, optional, defaulted, known, choice, whole, truth}
use Rattle.settings.specs.Words.{text, delimiter_named, texts, word_table}
use Rattle.settings.specs.Field.{fields}
use Rattle.settings.specs.Pass.{passes}
use Rattle.link_plan.specs.Terms.{term_keys, terms_by}
use Rattle.link_plan.specs.declared.limits.TheConstants.{MOST_LISTED_WORDS, MOST_MARKS}
use Rattle.link_plan.specs.declared.plan.Plan.{Plan}
use Rattle.link_plan.specs.declared.terms.Terms.{Terms}
use Rattle.settings.specs.declared.texts.TextRule.TheVariants as rule
use Rattle.settings.specs.declared.top.FileKeys.{FileKeys}
use Rattle.settings.specs.declared.top.LinkKeys.{LinkKeys}
use Rattle.settings.specs.declared.top.OtherSources.{OtherSources}

-- the keys of the file but its terms
abbrev pub top_keys : List (List ℕ)
top_keys = codes "file_a" ∷ codes "file_b" ∷ codes "id_a" ∷ codes "id_b" ∷ codes "delimiter_a" ∷ codes "delimiter_b" ∷ codes "sample" ∷ codes "journal"
    ∷ codes "missing" ∷ codes "titles" ∷ codes "suffixes" ∷ codes "names" ∷ codes "places" ∷ codes "field" ∷ codes "pass" ∷ []

-- the journal is none of the files that are read
abbrev pub is_free : List (List ℕ) → Option (List ℕ) → Bool
is_free taken None = true
is_free taken (Some name) = not (stands_among taken name)

unfoldable pub journal_of : List (List ℕ) → Members → List ℕ → Result (Option (List ℕ)) KeyFault
journal_of taken t above = do
  journal ← optional (text rule.File) t above (codes "journal")
  in_range (above ++ codes "journal") (is_free taken journal) journal

-- the two files, and the columns of their ids
unfoldable pub file_keys : Members → List ℕ → Result FileKeys KeyFault
file_keys t above = do
  file_a ← needed (text rule.File) t above (codes "file_a")
  file_b ← needed (text rule.File) t above (codes "file_b")
  id_a ← defaulted (text rule.Label) (codes "id") t above (codes "id_a")
  id_b ← defaulted (text rule.Label) (codes "id") t above (codes "id_b")
  Ok (record { file_a = file_a; file_b = file_b; id_a = id_a; id_b = id_b })

-- the keys on files after the two and their ids
unfoldable pub other_sources : FileKeys → Members → List ℕ → Result OtherSources KeyFault
other_sources files t above = do
  delimiter_a ← defaulted (choice delimiter_named) 44 t above (codes "delimiter_a")
  delimiter_b ← defaulted (choice delimiter_named) 44 t above (codes "delimiter_b")
  sample ← optional (text rule.File) t above (codes "sample")
  journal ← journal_of (files.file_a ∷ files.file_b ∷ option_to_list sample) t above
  Ok (record { delimiter_a = delimiter_a; delimiter_b = delimiter_b; sample = sample; journal = journal })

-- the number at a key, and the truth value
abbrev pub number_at : Members → List ℕ → List ℕ → ℕ → ℕ → Option ℕ → Result ℕ KeyFault
number_at t above key low high None = needed (whole low high) t above key
number_at t above key low high (Some default) = defaulted (whole low high) default t above key

abbrev pub truth_at : Members → List ℕ → List ℕ → Result Bool KeyFault
truth_at t above key = defaulted truth false t above key

-- the terms of the run
unfoldable pub terms : Members → List ℕ → Result Terms KeyFault
terms t above = terms_by (number_at t above) (truth_at t above)

-- the tables of words, where those of no key are these
unfoldable pub tables_over : Tables → Members → List ℕ → Result Tables KeyFault
tables_over default t above = do
  missing ← defaulted (texts MOST_MARKS rule.Mark) default.missing t above (codes "missing")
  titles ← defaulted (texts MOST_LISTED_WORDS rule.Word) default.titles t above (codes "titles")
  suffixes ← defaulted (texts MOST_LISTED_WORDS rule.Word) default.suffixes t above (codes "suffixes")
  names ← defaulted word_table default.names t above (codes "names")
  places ← defaulted word_table default.places t above (codes "places")
  Ok (record { missing = missing; titles = titles; suffixes = suffixes; names = names; places = places })

-- the tables of a settings file that names none
abbrev pub standard_tables : Tables
standard_tables = record { missing = missing_marks; titles = name_titles; suffixes = name_suffixes; names = []; places = [] }

-- the keys after the sources: how the records are linked; sampled says that the sources name a sample
unfoldable pub link_keys : Bool → Members → List ℕ → Result LinkKeys KeyFault
link_keys sampled t above = do
  terms ← terms t above
  tables ← tables_over standard_tables t above
  fields ← needed (fields sampled) t above (codes "field")
  passes ← needed (passes fields) t above (codes "pass")
  Ok (record { terms = terms; tables = tables; fields = fields; passes = passes })

-- the plan of the parts of the top table
abbrev pub plan_from : FileKeys → OtherSources → LinkKeys → Plan
plan_from f o l = record {
  file_a = f.file_a;
  file_b = f.file_b;
  id_a = f.id_a;
  id_b = f.id_b;
  delimiter_a = o.delimiter_a;
  delimiter_b = o.delimiter_b;
  sample = o.sample;
  journal = o.journal;
  terms = l.terms;
  tables = l.tables;
  fields = l.fields;
  passes = l.passes;
}

-- the parts of the top table in their order
unfoldable pub plan_of : Members → List ℕ → Result Plan KeyFault
plan_of t above = do
  listed ← known (stands_among (top_keys ++ term_keys)) t above
  files ← file_keys t above
  others ← other_sources files t above
  links ← link_keys (is_some others.sample) t above
  Ok (plan_from files others links)

-- the table of a file
abbrev pub document : List ℕ → Option Members
document bytes = if is_utf8 bytes then parse_document bytes else None

-- the first key at fault is the fault of the file
abbrev pub of_keys : {A : Type 0} → Result A KeyFault → Result A Fault
of_keys (Ok x) = Ok x
of_keys (Err f) = Err (fault_of f)

abbrev pub plan_or_not_toml : Option Members → Result Plan Fault
plan_or_not_toml None = Err fault.NotToml
plan_or_not_toml (Some t) = of_keys (plan_of t [])

-- the plan of a settings file, or its first fault
abbrev pub settings : List ℕ → Result Plan Fault
settings bytes = plan_or_not_toml (document bytes)

-- the faults of a settings file
abbrev pub IsSettingsFault : Fault → Type 0
IsSettingsFault fault.NotToml = ⊤
IsSettingsFault (fault.UnknownKey key) = ⊤
IsSettingsFault (fault.MissingKey key) = ⊤
IsSettingsFault (fault.WrongType key) = ⊤
IsSettingsFault (fault.OutOfRange key) = ⊤
IsSettingsFault fault.NoMemory = ⊤
IsSettingsFault f = ⊥
