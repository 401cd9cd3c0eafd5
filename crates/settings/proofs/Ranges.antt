-- A plan keeps the ranges of the settings.
use Rattle.std.proofs.Common.{◌≡◌, ◌≢◌, ℕ, ◌≤◌, List, [], ◌++◌, length, codes, Bool, true, Option, Some, None, Result, Ok, Err, refl, sym, ◌∙◌, arith, is_some, IfSome, All, ap, inl, inr, IsUtf8, ◌<◌, ◌+◌, ◌∷◌, ℤ, false, get_or, drop, string_bytes, ◌&&◌, option_and_then, option_map}
use Rattle.std.specs.Str.{bytes_eq, is_utf8}
use Rattle.std.proofs.lemmas.Bool.{false≢true, not-true, cases_Bool}
use Rattle.std.proofs.lemmas.Slice.Eq.{bytes_eq-Decides}
use Rattle.toml.specs.Data.{Members, as_integer}
use Rattle.link_texts.specs.Texts.{stands_among}
use Rattle.link_base.specs.Words.{AreWordPairs}
use Rattle.link_limits.specs.declared.TheConstants.{MOST_FIELDS}
use Rattle.settings_readers.specs.declared.fault.KeyFault.{KeyFault}
use Rattle.settings_readers.specs.KeptLaws.{choice_keeps, defaulted_keeps, in_range_keeps, Keeps, keeps_value, kept, named_passes, needed_keeps, next_keeps, optional_keeps, Reads, then_keeps}
use Rattle.settings_readers.specs.Values.{defaulted, known, needed, optional, choice}
use Rattle.link_plan.specs.Ranges.{AreFiles, files_read, is_delimiter, IsField, IsFileName, IsLabel, KeepsRanges}
use Rattle.link_plan.specs.Terms.{KeepsTerms, term_keys}
use Rattle.link_plan.specs.declared.plan.Plan.{Plan}
use Rattle.settings.specs.Words.{delimiters, delimiter_named, text, pairs, word_pair}
use Rattle.settings.specs.Field.{fields, wholes}
use Rattle.settings.specs.Pass.{passes, field_named}
use Rattle.settings.specs.Settings.{document, file_keys, is_free, journal_of, link_keys, of_keys, other_sources, plan_of, plan_or_not_toml, settings, standard_tables, tables_over, terms, top_keys, IsSettingsFault}
use Rattle.settings.specs.declared.texts.TextRule.TheVariants as rule
use Rattle.settings.specs.declared.top.FileKeys.{FileKeys}
use Rattle.settings.specs.declared.top.LinkKeys.{LinkKeys}
use Rattle.settings.specs.declared.top.OtherSources.{OtherSources}
use Rattle.settings.proofs.FieldRanges.{AreFields, fields_are, IsPasses, passes_are, AreTablesOfPairs, tables_are}
use Rattle.settings.proofs.TextRanges.{terms_are, file_keeps, label_keeps, none_alike}
use Rattle.std.proofs.lemmas.Str.{is_utf8-from_IsUtf8, IsUtf8-from_is_utf8}
use Rattle.toml.specs.Parse.{parse_document}
use Rattle.link_base.specs.declared.fault.Fault.{Fault}
use Rattle.link_base.specs.declared.fault.Fault.TheVariants as fault
use Rattle.link_base.specs.Fault as run_fault
use Rattle.settings_readers.specs.declared.fault.KeyFault.TheVariants as key_fault
use Rattle.settings_readers.specs.KeyFaults.{fault_of, Refuses}
use Rattle.std.specs.List.{list_all}
use Rattle.std.proofs.lemmas.List.{drop_more}
use Rattle.toml.specs.View.{items_view, members_view, view}
use Rattle.toml.specs.declared.value.Value.{Value}
use Rattle.link_base.specs.declared.plan.FieldSort.{FieldSort}
use Rattle.link_base.specs.declared.tables.WordPair.{WordPair}
use Rattle.link_plan.specs.Plan.{FieldKeys}
use Rattle.settings.proofs.WordTables.{Entry}

abbrev IsDelimiter : ℕ → Type 0
IsDelimiter b = is_delimiter b ≡ true

delimiter_is : Reads (choice delimiter_named) IsDelimiter
delimiter_is at d = choice_keeps IsDelimiter delimiter_named (named_passes is_delimiter delimiters refl) at d

-- a name is none of these
abbrev IsNoneOf : List (List ℕ) → List ℕ → Type 0
IsNoneOf names name = All (λ (other : List ℕ). name ≢ other) names

free_is : (taken : List (List ℕ)) (o : Option (List ℕ)) → is_free taken o ≡ true → IfSome o (IsNoneOf taken)
free_is taken None h = tt
free_is taken (Some name) h =
    none_alike (λ (other : List ℕ). bytes_eq other name) (λ (other : List ℕ). name ≢ other) (λ other differs same. false≢true (sym differs ∙ (bytes_eq-Decides other name).1 (sym same))) taken (not-true (stands_among taken name) h)

abbrev IsJournal : List (List ℕ) → Option (List ℕ) → Type 0
IsJournal taken o = (IfSome o IsFileName) × IfSome o (IsNoneOf taken)

journal_is : (taken : List (List ℕ)) (t : Members) (above : List ℕ) → Keeps (journal_of taken t above) (IsJournal taken)
unfolding journal_of
journal_is taken t above =
    then_keeps _ _ (optional (text rule.File) t above (codes "journal")) _ (optional_keeps _ (text rule.File) t above (codes "journal") file_keeps) (λ journal is.
    in_range_keeps _ (above ++ codes "journal") (is_free taken journal) journal (λ free. (is, free_is taken journal free)))

record AreFileKeys (x : FileKeys) : Type 0 where
  file_a : IsFileName x.file_a
  file_b : IsFileName x.file_b
  id_a : IsLabel x.id_a
  id_b : IsLabel x.id_b

id_label : IsLabel (codes "id")
id_label = record { some = omega arith; short = omega arith }

file_keys_are : (t : Members) (above : List ℕ) → Keeps (file_keys t above) AreFileKeys
unfolding file_keys
file_keys_are t above =
    then_keeps _ _ (needed (text rule.File) t above (codes "file_a")) _ (needed_keeps _ (text rule.File) t above (codes "file_a") file_keeps) (λ file_a of_a.
    then_keeps _ _ (needed (text rule.File) t above (codes "file_b")) _ (needed_keeps _ (text rule.File) t above (codes "file_b") file_keeps) (λ file_b of_b.
    then_keeps _ _ (defaulted (text rule.Label) (codes "id") t above (codes "id_a")) _ (defaulted_keeps _ (text rule.Label) (codes "id") t above (codes "id_a") label_keeps id_label) (λ id_a label_a.
    then_keeps _ _ (defaulted (text rule.Label) (codes "id") t above (codes "id_b")) _ (defaulted_keeps _ (text rule.Label) (codes "id") t above (codes "id_b") label_keeps id_label) (λ id_b label_b.
    keeps_value _ _ (record { file_a = of_a; file_b = of_b; id_a = label_a; id_b = label_b })))))

record AreOthers (files : FileKeys) (x : OtherSources) : Type 0 where
  delimiter_a : IsDelimiter x.delimiter_a
  delimiter_b : IsDelimiter x.delimiter_b
  sample : IfSome x.sample IsFileName
  journal : IsJournal (files_read files.file_a files.file_b x.sample) x.journal

others_are : (files : FileKeys) (t : Members) (above : List ℕ) → Keeps (other_sources files t above) (AreOthers files)
unfolding other_sources
others_are files t above =
    then_keeps _ _ (defaulted (choice delimiter_named) 44 t above (codes "delimiter_a")) _ (defaulted_keeps _ (choice delimiter_named) 44 t above (codes "delimiter_a") delimiter_is refl) (λ delimiter_a of_a.
    then_keeps _ _ (defaulted (choice delimiter_named) 44 t above (codes "delimiter_b")) _ (defaulted_keeps _ (choice delimiter_named) 44 t above (codes "delimiter_b") delimiter_is refl) (λ delimiter_b of_b.
    then_keeps _ _ (optional (text rule.File) t above (codes "sample")) _ (optional_keeps _ (text rule.File) t above (codes "sample") file_keeps) (λ sample is_sample.
    then_keeps _ _ (journal_of (files_read files.file_a files.file_b sample) t above) _ (journal_is (files_read files.file_a files.file_b sample) t above) (λ journal is_journal.
    keeps_value _ _ (record { delimiter_a = of_a; delimiter_b = of_b; sample = is_sample; journal = is_journal })))))

record AreLinks (sampled : Bool) (x : LinkKeys) : Type 0 where
  terms : KeepsTerms x.terms
  tables : AreTablesOfPairs x.tables
  fields : AreFields sampled x.fields
  some : 1 ≤ length x.fields
  few : length x.fields ≤ MOST_FIELDS
  passes : IsPasses x.fields x.passes

links_are : (sampled : Bool) (t : Members) (above : List ℕ) → Keeps (link_keys sampled t above) (AreLinks sampled)
unfolding link_keys
links_are sampled t above =
    then_keeps _ _ (terms t above) _ (terms_are t above) (λ run are_terms.
    then_keeps _ _ (tables_over standard_tables t above) _ (tables_are t above) (λ tables are_tables.
    then_keeps _ _ (needed (fields sampled) t above (codes "field")) _ (needed_keeps _ (fields sampled) t above (codes "field") (fields_are sampled)) (λ fs are.
    then_keeps _ _ (needed (passes fs) t above (codes "pass")) _ (needed_keeps _ (passes fs) t above (codes "pass") (passes_are fs)) (λ ps also.
    keeps_value _ _ (record { terms = are_terms; tables = are_tables; fields = are.0; some = are.1; few = are.2; passes = also })))))

-- what a plan keeps by the settings alone; that the pairs of its word tables rise is a fact of their type
pub record IsReadPlan (plan : Plan) : Type 0 where
  pub files : AreFiles plan.file_a plan.file_b plan.sample plan.journal
  pub terms : KeepsTerms plan.terms
  pub few_fields : length plan.fields ≤ MOST_FIELDS
  pub fields : All (IsField (is_some plan.sample)) plan.fields
  pub ranges : AreWordPairs plan.tables.names → AreWordPairs plan.tables.places → KeepsRanges plan

pub plan_is : (t : Members) (above : List ℕ) → Keeps (plan_of t above) IsReadPlan
unfolding plan_of
plan_is t above =
    next_keeps _ (known (stands_among (top_keys ++ term_keys)) t above) _ (λ listed.
    then_keeps _ _ (file_keys t above) _ (file_keys_are t above) (λ f named.
    then_keeps _ _ (other_sources f t above) _ (others_are f t above) (λ o from.
    then_keeps _ _ (link_keys (is_some o.sample) t above) _ (links_are (is_some o.sample) t above) (λ l by.
    let files : AreFiles f.file_a f.file_b o.sample o.journal = record {
      file_a = named.file_a;
      file_b = named.file_b;
      sample = from.sample;
      journal = from.journal.0;
      apart = from.journal.1;
    } in
    keeps_value _ _ (record {
      files = files;
      terms = by.terms;
      few_fields = by.few;
      fields = by.fields.fields;
      ranges = λ in_names in_places. record {
        files = files;
        id_a = named.id_a;
        id_b = named.id_b;
        delimiter_a = from.delimiter_a;
        delimiter_b = from.delimiter_b;
        terms = by.terms;
        tables = by.tables in_names in_places;
        some_fields = by.some;
        few_fields = by.few;
        fields = by.fields.fields;
        distinct_fields = by.fields.distinct;
        some_passes = by.passes.1;
        few_passes = by.passes.2;
        passes = by.passes.0;
      };
    })))))

read_of : (r : Result Plan KeyFault) (plan : Plan) → Keeps r IsReadPlan → of_keys r ≡ Ok plan → IsReadPlan plan
read_of (Ok x) plan h e = kept IsReadPlan (Ok x) plan h cc
read_of (Err f) plan h e = absurd cc

table_is : (o : Option Members) (plan : Plan) → plan_or_not_toml o ≡ Ok plan → IsReadPlan plan
table_is None plan e = absurd cc
table_is (Some t) plan e = read_of (plan_of t []) plan (plan_is t []) e

pub read_plan : (bytes : List ℕ) (plan : Plan) → settings bytes ≡ Ok plan → IsReadPlan plan
read_plan bytes plan e = table_is (document bytes) plan e

-- What the answer of the top table, and of a file that has none, says of the file.

-- a refusal of keys is one of the file
pub of_keys_refuse : (expected : Result Plan KeyFault) (f : KeyFault) → Refuses expected f → run_fault.Refuses (of_keys expected) (fault_of f)
of_keys_refuse expected key_fault.NoMemory h = tt
of_keys_refuse expected (key_fault.UnknownKey key) h = ap (λ (r : Result Plan KeyFault). of_keys r) h
of_keys_refuse expected (key_fault.MissingKey key) h = ap (λ (r : Result Plan KeyFault). of_keys r) h
of_keys_refuse expected (key_fault.WrongType key) h = ap (λ (r : Result Plan KeyFault). of_keys r) h
of_keys_refuse expected (key_fault.OutOfRange key) h = ap (λ (r : Result Plan KeyFault). of_keys r) h

pub is_settings_fault : (f : KeyFault) → IsSettingsFault (fault_of f)
is_settings_fault key_fault.NoMemory = tt
is_settings_fault (key_fault.UnknownKey key) = tt
is_settings_fault (key_fault.MissingKey key) = tt
is_settings_fault (key_fault.WrongType key) = tt
is_settings_fault (key_fault.OutOfRange key) = tt

abbrev refusal : Fault → Result Plan Fault
refusal f = Err f

pub never_not_toml : (f : KeyFault) → refusal (fault_of f) ≢ refusal fault.NotToml
never_not_toml key_fault.NoMemory e = absurd cc
never_not_toml (key_fault.UnknownKey key) e = absurd cc
never_not_toml (key_fault.MissingKey key) e = absurd cc
never_not_toml (key_fault.WrongType key) e = absurd cc
never_not_toml (key_fault.OutOfRange key) e = absurd cc

-- a file that has a table, and one that has none
pub settings_of : (bytes : List ℕ) (t : Members) → IsUtf8 bytes → parse_document bytes ≡ Some t → settings bytes ≡ of_keys (plan_of t [])
settings_of bytes t utf8 parsed = rw (is_utf8-from_IsUtf8 bytes utf8, parsed)

pub settings_of_none : (bytes : List ℕ) → (IsUtf8 bytes → parse_document bytes ≡ None) → settings bytes ≡ Err fault.NotToml
settings_of_none bytes refused =
    elim (cases_Bool (is_utf8 bytes)) [
      | inl text ↦ rw (text, refused (IsUtf8-from_is_utf8 bytes text))
      | inr other ↦ rw other
    ]

no_table : (o : Option Members) → plan_or_not_toml o ≡ Err fault.NotToml → o ≡ None
no_table None e = cc
no_table (Some t) e = none_of (plan_of t []) e
  where
    none_of : (r : Result Plan KeyFault) → of_keys r ≡ Err fault.NotToml → Some t ≡ None
    none_of (Ok x) e = absurd cc
    none_of (Err f) e = absurd (never_not_toml f e)

pub document_none : (bytes : List ℕ) → settings bytes ≡ Err fault.NotToml → document bytes ≡ None
document_none bytes e = no_table (document bytes) e

-- Lists that are walked: one more item.

-- a field of another name
pub named_more : (fs : List FieldKeys) (i n : ℕ) (f : FieldKeys) (name : List ℕ) (total : Option (ℕ × FieldSort)) → i < length fs → f ≡ get_or fs i f → bytes_eq name f.name ≡ false
    → field_named (drop i fs) n name ≡ total → field_named (drop (i + 1) fs) (n + 1) name ≡ total
named_more fs i n f name total lt is other so_far =
    let left : drop i fs ≡ f ∷ drop (i + 1) fs = drop_more fs i f lt ∙ ap (λ x. x ∷ drop (i + 1) fs) (sym is) in
    let here : field_named (drop i fs) n name ≡ field_named (drop (i + 1) fs) (n + 1) name = rw (left, other) refl in
    sym here ∙ so_far

whole_first : (o : Option ℤ) (rest : Option (List ℤ)) → is_some (option_and_then (λ z. option_map (λ zs. z ∷ zs) rest) o) ≡ (is_some o && is_some rest)
whole_first None rest = refl
whole_first (Some z) None = refl
whole_first (Some z) (Some zs) = refl

-- an array is of whole numbers where each item is one
pub wholes_by_all : (vs : List Value) → is_some (wholes (items_view vs)) ≡ list_all (λ v. is_some (as_integer (view v))) vs
wholes_by_all [] = refl
wholes_by_all (v ∷ vs) = whole_first (as_integer (view v)) (wholes (items_view vs)) ∙ ap (λ b. is_some (as_integer (view v)) && b) (wholes_by_all vs)

-- an entry of a word table
pub pairs_more : (above place key : List ℕ) (all rest : List Entry) (e : Entry) (before more : List WordPair) (p : WordPair) (total : Result (List WordPair) KeyFault) → all ≡ e ∷ rest
    → place ≡ above ++ string_bytes e.0 → key ≡ string_bytes e.0 → word_pair place key (view e.1) ≡ Ok p → more ≡ before ++ p ∷ []
    → pairs above (members_view all) before ≡ total → pairs above (members_view rest) more ≡ total
pairs_more above place key all rest e before more p total parts at same reads grown so_far =
    let here : word_pair (above ++ string_bytes e.0) (string_bytes e.0) (view e.1) ≡ Ok p = ap (λ k. word_pair (above ++ string_bytes e.0) k (view e.1)) (sym same) ∙ ap (λ q. word_pair q key (view e.1)) (sym at) ∙ reads in
    let one : pairs above (members_view all) before ≡ pairs above (members_view rest) more = rw (parts, here, grown) refl in
    sym one ∙ so_far
