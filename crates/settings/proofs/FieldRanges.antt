-- A field is in its ranges, and its name is new.
use Rattle.std.proofs.Common.{◌≡◌, ◌≢◌, ℕ, ◌≤◌, List, [], ◌∷◌, ◌++◌, ◌∙◌, length, codes, Bool, true, false, not, Option, None, refl, sym, arith, is_some, IfSome, All, suc, ◌+◌, ◌<◌, Some, inl, inr, bytes_eq}
use Rattle.std.specs.List.{list_any, HoldsAt}
use Rattle.std.proofs.lemmas.Bool.{false≢true, not-true, cases_Bool}
use Rattle.std.proofs.lemmas.List.Elements.{All-nil, All-push, All-weaker}
use Rattle.std.proofs.lemmas.List.Quantifiers.{all_pairs_push}
use Rattle.std.proofs.lemmas.Slice.Eq.{bytes_eq-Decides}
use Rattle.toml.specs.Data.{Members}
use Rattle.link_texts.specs.Texts.{stands_among}
use Rattle.link_limits.specs.declared.TheConstants.{MOST_FIELDS}
use Rattle.settings_readers.specs.KeptLaws.{array_keeps, defaulted_keeps, in_range_keeps, Keeps, keeps_so, keeps_value, needed_keeps, next_keeps, on_table_keeps, Reads, then_keeps, choice_keeps}
use Rattle.settings_readers.specs.Values.{defaulted, in_range, known, needed, without_both, choice, on_table}
use Rattle.link_plan.specs.Plan.{FieldKeys, PlainShares}
use Rattle.link_plan.specs.Ranges.{AreShares, has_comparison, HaveDistinctNames, IsField, IsFieldName, IsLabel, IsRareNumber, may_be_rare, is_keyed, IsPart, IsPass, AreListedWords, AreMarks, AreTables}
use Rattle.settings.specs.Words.{compare_named, kind_named, key_named, text, fits, numbered, texts, word_table}
use Rattle.settings.specs.Field.{compare_by, compare_keys, field, field_keys, field_shares, fields, given_shares, name_keys, rare_number, shares, sort_of}
use Rattle.settings.specs.declared.fields.CompareKeys.{CompareKeys}
use Rattle.settings.specs.declared.fields.NameKeys.{NameKeys}
use Rattle.settings.specs.declared.texts.TextRule.TheVariants as rule
use Rattle.settings.proofs.WordTables.{compare_keeps, comparison_named, rare_where, key_named_keeps, keys_numbered, numbered_keeps, word_table_keeps}
use Rattle.settings.proofs.TextRanges.{shares_keep, label_keeps, name_as_label, name_keeps, none_alike, as_mark, Fits, text_keeps}
use Rattle.link_base.specs.declared.plan.FieldSort.{FieldSort}
use Rattle.value_forms.specs.declared.passes.Part.{Part}
use Rattle.link_plan.specs.declared.limits.TheConstants.{MOST_PARTS, MOST_PASSES, MOST_LISTED_WORDS, MOST_MARK_BYTES, MOST_MARKS}
use Rattle.settings.specs.Pass.{field_named, part, part_keys, parts, pass, pass_keys, passes}
use Rattle.std.proofs.lemmas.List.Sums.{AllPass-from_list_all}
use Rattle.link_base.specs.Words.{AreWordPairs, missing_marks, name_suffixes, name_titles}
use Rattle.link_base.specs.declared.tables.Tables.{Tables}
use Rattle.settings.specs.Settings.{standard_tables, tables_over}
use Rattle.settings.specs.declared.texts.TextRule.{TextRule}

-- shares, exactly where there is no sample
abbrev SharesAre : Bool → Bool → Option PlainShares → Type 0
SharesAre sampled rare x = (is_some x ≡ not sampled) × IfSome x (AreShares rare)

shares_are : (sampled rare : Bool) (t : Members) (above : List ℕ) → Keeps (field_shares sampled rare t above) (SharesAre sampled rare)
unfolding given_shares
shares_are true rare t above = next_keeps _ (without_both {A = Unit {0}} tt t above (codes "m") (codes "u")) _ (λ neither. keeps_value _ None (refl, tt))
shares_are false rare t above =
    then_keeps _ _ (needed (shares rare) t above (codes "m")) _ (needed_keeps _ (shares rare) t above (codes "m") (shares_keep rare)) (λ m matched.
    then_keeps _ _ (needed (shares rare) t above (codes "u")) _ (needed_keeps _ (shares rare) t above (codes "u") (shares_keep rare)) (λ u unmatched.
    keeps_value _ _ (refl, record { rare = refl; m = matched; u = unmatched })))

-- no field has this name
abbrev IsNew : List FieldKeys → List ℕ → Type 0
IsNew before name = All (λ (f : FieldKeys). f.name ≢ name) before

record AreNameKeys (before : List FieldKeys) (x : NameKeys) : Type 0 where
  name : IsFieldName x.name
  column_a : IsLabel x.column_a
  column_b : IsLabel x.column_b
  is_new : IsNew before x.name

name_keys_are : (before : List FieldKeys) (t : Members) (above : List ℕ) → Keeps (name_keys before t above) (AreNameKeys before)
unfolding name_keys
name_keys_are before t above =
    then_keeps _ _ (needed (text rule.FieldName) t above (codes "name")) _ (needed_keeps _ (text rule.FieldName) t above (codes "name") name_keeps) (λ name is.
    then_keeps (λ (fresh : List ℕ). (IsFieldName fresh) × IsNew before fresh) _ (in_range (above ++ codes "name") (not (list_any (λ (f : FieldKeys). bytes_eq name f.name) before)) name) _
    (in_range_keeps _ (above ++ codes "name") (not (list_any (λ (f : FieldKeys). bytes_eq name f.name) before)) name (λ free. (is, none_alike (λ (f : FieldKeys). bytes_eq name f.name) (λ (f : FieldKeys). f.name ≢ name) (λ f other same. false≢true (sym other ∙ (bytes_eq-Decides name f.name).1 (sym same))) before (not-true _ free)))) (λ fresh new.
    then_keeps _ _ (defaulted (text rule.Label) fresh t above (codes "column_a")) _ (defaulted_keeps _ (text rule.Label) fresh t above (codes "column_a") label_keeps (name_as_label fresh new.0)) (λ column_a of_a.
    then_keeps _ _ (defaulted (text rule.Label) fresh t above (codes "column_b")) _ (defaulted_keeps _ (text rule.Label) fresh t above (codes "column_b") label_keeps (name_as_label fresh new.0)) (λ column_b of_b.
    keeps_value _ _ (record { name = new.0; column_a = of_a; column_b = of_b; is_new = new.1 })))))

record AreCompareKeys (x : CompareKeys) : Type 0 where
  compare : has_comparison x.sort x.compare ≡ true
  rare : IfSome x.rare (IsRareNumber x.compare)

compare_keys_are : (t : Members) (above : List ℕ) → Keeps (compare_keys t above) AreCompareKeys
unfolding compare_keys
compare_keys_are t above =
    next_keeps _ (needed (choice kind_named) t above (codes "kind")) _ (λ kind.
    next_keeps _ (sort_of kind t above) _ (λ sort.
    then_keeps _ _ (needed (choice (compare_named sort)) t above (codes "compare")) _ (needed_keeps _ (choice (compare_named sort)) t above (codes "compare") (comparison_named sort)) (λ word suits.
    then_keeps _ _ (compare_by word t above) _ (compare_keeps t above sort word suits) (λ compare is.
    then_keeps _ _ (rare_number compare t above) _ (rare_where t above compare (may_be_rare compare) refl) (λ rare also. keeps_value _ _ (record { compare = is; rare = also }))))))

-- a field after those before it
record IsNext (sampled : Bool) (before : List FieldKeys) (x : FieldKeys) : Type 0 where
  field : IsField sampled x
  is_new : IsNew before x.name

field_is : (sampled : Bool) (before : List FieldKeys) (t : Members) (above : List ℕ) → Keeps (field sampled before t above) (IsNext sampled before)
unfolding field
field_is sampled before t above =
    next_keeps _ (known (stands_among field_keys) t above) _ (λ listed.
    then_keeps _ _ (name_keys before t above) _ (name_keys_are before t above) (λ names named.
    then_keeps _ _ (compare_keys t above) _ (compare_keys_are t above) (λ compared are.
    then_keeps _ _ (field_shares sampled (is_some compared.rare) t above) _ (shares_are sampled (is_some compared.rare) t above) (λ shares also.
    keeps_value _ _ (record {
      field = record {
        name = named.name;
        column_a = named.column_a;
        column_b = named.column_b;
        compare = are.compare;
        rare = are.rare;
        given = also.0;
        shares = also.1;
      };
      is_new = named.is_new;
    })))))

-- fields of distinct names
pub record AreFields (sampled : Bool) (xs : List FieldKeys) : Type 0 where
  pub fields : All (IsField sampled) xs
  pub distinct : HaveDistinctNames xs

no_fields : (sampled : Bool) → AreFields sampled []
no_fields sampled = record { fields = All-nil (IsField sampled); distinct = λ i j d lt within. absurd (omega arith) }

one_more : (sampled : Bool) (before : List FieldKeys) → AreFields sampled before → (x : FieldKeys) → IsNext sampled before x → AreFields sampled (before ++ x ∷ [])
one_more sampled before so_far x next = record {
  fields = All-push (IsField sampled) before x so_far.fields next.field;
  distinct = all_pairs_push (λ (f g : FieldKeys). f.name ≢ g.name) before x so_far.distinct (λ k d h. next.is_new k d h);
}

pub fields_are : (sampled : Bool) → Reads (fields sampled) (λ (xs : List FieldKeys). (AreFields sampled xs) × (1 ≤ length xs) × (length xs ≤ MOST_FIELDS))
fields_are sampled at d =
    array_keeps (AreFields sampled) 1 MOST_FIELDS (λ before. on_table (field sampled before)) (no_fields sampled)
    (λ before so_far at d. keeps_so _ _ (on_table (field sampled before) at d) (on_table_keeps (IsNext sampled before) (field sampled before) (field_is sampled before) at d) (one_more sampled before so_far)) at d

-- A part names a field, and a key that its sort has.

-- the field of a name
abbrev IsFieldAt : List FieldKeys → ℕ × FieldSort → Type 0
IsFieldAt fs p = (p.0 < length fs) × HoldsAt (λ (f : FieldKeys). f.sort ≡ p.1) fs p.0

named_from : (fs : List FieldKeys) (n : ℕ) (name : List ℕ) (p : ℕ × FieldSort) → field_named fs n name ≡ Some p → (k : ℕ) × (p.0 ≡ n + k) × IsFieldAt fs (k, p.1)
named_from [] n name p e = absurd cc
named_from (f ∷ fs) n name p e =
    elim (cases_Bool (bytes_eq name f.name)) [
      | inl is ↦
          let here : Some (n, f.sort) ≡ Some p = rw is at e in
          let same : (n, f.sort) ≡ p = cc in
          (0, rw (← same) (omega arith), (omega arith, λ d. rw (← same) refl))
      | inr other ↦
          let later : field_named fs (n + 1) name ≡ Some p = rw other at e in
          let r = named_from fs (n + 1) name p later in
          (suc r.0, r.1 ∙ omega arith, (omega (arith, r.2.0), λ d. r.2.1 d))
    ]

field_at : (fs : List FieldKeys) (name : List ℕ) (p : ℕ × FieldSort) → field_named fs 0 name ≡ Some p → IsFieldAt fs p
field_at fs name p e =
    let r = named_from fs 0 name p e in
    let same : p.0 ≡ r.0 = r.1 ∙ omega arith in
    (omega (arith, r.2.0, same), λ d. rw same (r.2.1 d))

fields_named : (fs : List FieldKeys) (name : List ℕ) → IfSome (field_named fs 0 name) (IsFieldAt fs)
fields_named fs name = where_some (field_named fs 0 name) (field_at fs name)
  where
    where_some : (o : Option (ℕ × FieldSort)) → ((p : ℕ × FieldSort) → o ≡ Some p → IsFieldAt fs p) → IfSome o (IsFieldAt fs)
    where_some None h = tt
    where_some (Some p) h = h p refl

part_is : (fs : List FieldKeys) (t : Members) (above : List ℕ) → Keeps (part fs t above) (IsPart fs)
unfolding part
part_is fs t above =
    next_keeps _ (known (stands_among part_keys) t above) _ (λ listed.
    then_keeps _ _ (needed (choice (field_named fs 0)) t above (codes "field")) _ (needed_keeps _ (choice (field_named fs 0)) t above (codes "field") (choice_keeps (IsFieldAt fs) (field_named fs 0) (fields_named fs))) (λ field there.
    then_keeps _ _ (needed (choice (key_named field.1)) t above (codes "key")) _ (needed_keeps _ (choice (key_named field.1)) t above (codes "key") (key_named_keeps field.1)) (λ word suits.
    then_keeps _ _ (numbered word t above) _ (numbered_keeps t above (is_keyed field.1) word suits (keys_numbered field.1 word suits)) (λ key is.
    keeps_value _ _ (record { field = there.0; key = λ d. rw (there.1 d) is })))))

abbrev IsParts : List FieldKeys → List Part → Type 0
IsParts fs xs = (All (IsPart fs) xs) × (1 ≤ length xs) × (length xs ≤ MOST_PARTS)

parts_are : (fs : List FieldKeys) → Reads (parts fs) (IsParts fs)
parts_are fs at d =
    array_keeps (All (IsPart fs)) 1 MOST_PARTS (λ before. on_table (part fs)) (All-nil (IsPart fs))
    (λ before so_far at d. keeps_so _ _ (on_table (part fs) at d) (on_table_keeps (IsPart fs) (part fs) (part_is fs) at d) (λ x is. All-push (IsPart fs) before x so_far is)) at d

pass_is : (fs : List FieldKeys) (t : Members) (above : List ℕ) → Keeps (pass fs t above) (IsPass fs)
unfolding pass
pass_is fs t above =
    next_keeps _ (known (stands_among pass_keys) t above) _ (λ listed.
    keeps_so _ _ (needed (parts fs) t above (codes "parts")) (needed_keeps _ (parts fs) t above (codes "parts") (parts_are fs)) (λ xs r. record { some = r.1; few = r.2; parts = r.0 }))

abbrev pub IsPasses : List FieldKeys → List (List Part) → Type 0
IsPasses fs xs = (All (IsPass fs) xs) × (1 ≤ length xs) × (length xs ≤ MOST_PASSES)

pub passes_are : (fs : List FieldKeys) → Reads (passes fs) (IsPasses fs)
passes_are fs at d =
    array_keeps (All (IsPass fs)) 1 MOST_PASSES (λ before. on_table (pass fs)) (All-nil (IsPass fs))
    (λ before so_far at d. keeps_so _ _ (on_table (pass fs) at d) (on_table_keeps (IsPass fs) (pass fs) (pass_is fs) at d) (λ x is. All-push (IsPass fs) before x so_far is)) at d

-- What standard values go by is in its ranges.

-- so many texts of a rule
abbrev AreTexts : ℕ → TextRule → List (List ℕ) → Type 0
AreTexts most rule xs = (All (Fits rule) xs) × (length xs ≤ most)

texts_keep : (most : ℕ) (rule : TextRule) → Reads (texts most rule) (AreTexts most rule)
texts_keep most rule at d =
    keeps_so _ _ (texts most rule at d) (array_keeps (All (Fits rule)) 0 most (λ before. text rule) (All-nil (Fits rule))
    (λ before so_far at d. keeps_so _ _ (text rule at d) (text_keeps rule at d) (λ x is. All-push (Fits rule) before x so_far is)) at d) (λ xs r. (r.0, r.2))

as_marks : (xs : List (List ℕ)) → AreTexts MOST_MARKS rule.Mark xs → AreMarks xs
as_marks xs h = record { few = h.1; short = All-weaker (Fits rule.Mark) (λ (mark : List ℕ). length mark ≤ MOST_MARK_BYTES) as_mark xs h.0 }

as_words : (xs : List (List ℕ)) → AreTexts MOST_LISTED_WORDS rule.Word xs → AreListedWords xs
as_words xs h = record { few = h.1; each = h.0 }

marks_keep : Reads (texts MOST_MARKS rule.Mark) AreMarks
marks_keep at d = keeps_so _ _ (texts MOST_MARKS rule.Mark at d) (texts_keep MOST_MARKS rule.Mark at d) as_marks

words_keep : Reads (texts MOST_LISTED_WORDS rule.Word) AreListedWords
words_keep at d = keeps_so _ _ (texts MOST_LISTED_WORDS rule.Word at d) (texts_keep MOST_LISTED_WORDS rule.Word at d) as_words

-- the tables of a settings file that names none
standard_marks : AreMarks missing_marks
standard_marks = as_marks missing_marks (AllPass-from_list_all (fits rule.Mark) missing_marks refl, omega arith)

standard_titles : AreListedWords name_titles
standard_titles = as_words name_titles (AllPass-from_list_all (fits rule.Word) name_titles refl, omega arith)

standard_suffixes : AreListedWords name_suffixes
standard_suffixes = as_words name_suffixes (AllPass-from_list_all (fits rule.Word) name_suffixes refl, omega arith)

-- the pairs are known to be words that rise; the rest follows from the tests
abbrev pub AreTablesOfPairs : Tables → Type 0
AreTablesOfPairs x = AreWordPairs x.names → AreWordPairs x.places → AreTables x

pub tables_are : (t : Members) (above : List ℕ) → Keeps (tables_over standard_tables t above) AreTablesOfPairs
unfolding tables_over
tables_are t above =
    then_keeps _ _ (defaulted (texts MOST_MARKS rule.Mark) missing_marks t above (codes "missing")) _ (defaulted_keeps _ (texts MOST_MARKS rule.Mark) missing_marks t above (codes "missing") marks_keep standard_marks) (λ missing are_marks.
    then_keeps _ _ (defaulted (texts MOST_LISTED_WORDS rule.Word) name_titles t above (codes "titles")) _ (defaulted_keeps _ (texts MOST_LISTED_WORDS rule.Word) name_titles t above (codes "titles") words_keep standard_titles) (λ titles are_titles.
    then_keeps _ _ (defaulted (texts MOST_LISTED_WORDS rule.Word) name_suffixes t above (codes "suffixes")) _ (defaulted_keeps _ (texts MOST_LISTED_WORDS rule.Word) name_suffixes t above (codes "suffixes") words_keep standard_suffixes) (λ suffixes are_suffixes.
    then_keeps _ _ (defaulted word_table [] t above (codes "names")) _ (defaulted_keeps _ word_table [] t above (codes "names") word_table_keeps (omega arith)) (λ names few_names.
    then_keeps _ _ (defaulted word_table [] t above (codes "places")) _ (defaulted_keeps _ word_table [] t above (codes "places") word_table_keeps (omega arith)) (λ places few_places.
    keeps_value _ _ (λ in_names in_places. record {
      missing = are_marks;
      titles = are_titles;
      suffixes = are_suffixes;
      names = record { few = few_names; each = in_names };
      places = record { few = few_places; each = in_places };
    }))))))
