-- One field more of a row.
use Rattle.std.proofs.Common.{◌≡◌, ◌<◌, ◌≤◌, ◌+◌, ◌++◌, ◌∷◌, ◌∙◌, ℕ, Bool, true, false, List, [], Option, None, Some, length, get_or, drop, if◌then◌else◌, ap, refl, sym, arith, IfSome, cond, map, All}
use Rattle.std.specs.Option.{option_or}
use Rattle.std.proofs.lemmas.List.{append_assoc, drop_more, length-map}
use Rattle.link_base.specs.declared.standard.Value.{Value}
use Rattle.link_base.specs.declared.tables.Tables.{Tables}
use Rattle.standard_files.specs.Values.{is_unreadable, standard_value, standard_values, unreadable_from, unreadable_in_row, AreOfSorts, form_in, IsOfSort, sort_in, standard_record, standard_records, value_of_read}
use Rattle.standard_files.specs.declared.sorts.TextSort.{TextSort}
use Rattle.std.specs.Str.{trim}
use Rattle.std.proofs.lemmas.List.Elements.{All-cons, All-head, All-nil, All-tail}
use Rattle.link_base.specs.Words.{HaveDistinctIds, IsValid, Record}
use Rattle.link_base.specs.declared.fault.FileRole.{FileRole}
use Rattle.link_base.specs.declared.plan.DateForm.{DateForm}
use Rattle.link_base.specs.declared.plan.FieldSort.{FieldSort}
use Rattle.link_base.specs.declared.plan.FieldSort.TheVariants as sort
use Rattle.link_base.specs.declared.standard.Value.TheVariants as value
use Rattle.link_base.specs.declared.tables.WordPair.{WordPair}
use Rattle.file_reader.specs.Words.{TableRow, IsTableFor}
use Rattle.link_plan.specs.Plan.{FieldKeys}
use Rattle.link_plan.specs.declared.plan.Plan.{Plan}
use Rattle.standard_files.specs.Files.{AreOfPlan, field_column, sorts_in, wanted_in}
use Rattle.standardise.specs.DateReads.{date_read}
use Rattle.standardise.specs.Names.{word_or_absent, words_of_text, names_of, places_of, TextView, joined, replaced, without_titles}
use Rattle.link_texts.specs.Texts.{stands_among}
use Rattle.standardise.specs.declared.date_read.DateRead.{DateRead}
use Rattle.standardise.specs.declared.date_read.DateRead.TheVariants as read

one_at_most : (b : Bool) → (if b then 1 else 0) ≤ 1
one_at_most true = omega arith
one_at_most false = omega arith

first_of : (o : Option ℕ) (b : Bool) (at : ℕ) (rest : Option ℕ) → option_or (option_or o (if b then Some at else None)) rest ≡ option_or o (if b then Some at else rest)
first_of None true at rest = refl
first_of None false at rest = refl
first_of (Some x) b at rest = refl

below_next : (o : Option ℕ) (b : Bool) (at : ℕ) → IfSome o (λ p. p < at) → IfSome (option_or o (if b then Some at else None)) (λ p. p < at + 1)
below_next None true at h = omega arith
below_next None false at h = tt
below_next (Some x) b at h = omega (arith, h)

module _ (t : Tables) (sorts : List TextSort) (texts : List (List ℕ)) (at : ℕ) (none : TextSort) (in_sorts : at < length sorts) (in_texts : at < length texts) where
  abbrev s : TextSort
  s = get_or sorts at none

  abbrev x : List ℕ
  x = get_or texts at []

  abbrev later : List TextSort
  later = drop (at + 1) sorts

  abbrev rest : List (List ℕ)
  rest = drop (at + 1) texts

  left_sorts : drop at sorts ≡ s ∷ later
  left_sorts = drop_more sorts at none in_sorts

  left_texts : drop at texts ≡ x ∷ rest
  left_texts = drop_more texts at [] in_texts

  pub values_more : (old new all : List Value) → new ≡ old ++ standard_value t s x ∷ [] → old ++ standard_values t (drop at sorts) (drop at texts) ≡ all → new ++ standard_values t later rest ≡ all
  values_more old new all grown told =
      let left : standard_values t (drop at sorts) (drop at texts) ≡ standard_value t s x ∷ standard_values t later rest = λ i. standard_values t (left_sorts i) (left_texts i) in
      ap (λ l. l ++ standard_values t later rest) grown ∙ append_assoc old (standard_value t s x ∷ []) (standard_values t later rest) ∙ ap (λ l. old ++ l) (sym left) ∙ told

  pub unreadable_more : (old new all : ℕ) → new ≡ old + (if is_unreadable t s x then 1 else 0) → old + unreadable_in_row t (drop at sorts) (drop at texts) ≡ all → new + unreadable_in_row t later rest ≡ all
  unreadable_more old new all grown told =
      let left : unreadable_in_row t (drop at sorts) (drop at texts) ≡ (if is_unreadable t s x then 1 else 0) + unreadable_in_row t later rest = λ i. unreadable_in_row t (left_sorts i) (left_texts i) in
      omega (arith, grown, told, left)

  pub few_more : (old new : ℕ) → new ≡ old + (if is_unreadable t s x then 1 else 0) → old ≤ at → new ≤ at + 1
  few_more old new grown few = omega (arith, grown, few, one_at_most (is_unreadable t s x))

  pub first_more : (old new all : Option ℕ) → new ≡ option_or old (if is_unreadable t s x then Some at else None) → option_or old (unreadable_from t at (drop at sorts) (drop at texts)) ≡ all → option_or new (unreadable_from t (at + 1) later rest) ≡ all
  first_more old new all grown told =
      let left : unreadable_from t at (drop at sorts) (drop at texts) ≡ (if is_unreadable t s x then Some at else unreadable_from t (at + 1) later rest) = λ i. unreadable_from t at (left_sorts i) (left_texts i) in
      ap (λ o. option_or o (unreadable_from t (at + 1) later rest)) grown ∙ first_of old (is_unreadable t s x) at (unreadable_from t (at + 1) later rest) ∙ ap (option_or old) (sym left) ∙ told

  pub within_more : (old new : Option ℕ) → new ≡ option_or old (if is_unreadable t s x then Some at else None) → IfSome old (λ p. p < at) → IfSome new (λ p. p < at + 1)
  within_more old new grown h = rw grown (below_next old (is_unreadable t s x) at h)

-- Each record has a value for each field of the plan.

-- names and places are absent or words, and dates absent or days
word_of_sort : (s : FieldSort) → ((x : List ℕ) → IsValid (value.Word x) → IsOfSort s (value.Word x)) → IsOfSort s value.Absent
    → (b : Bool) (pairs : List WordPair) (ws : List (List ℕ)) → IsValid (cond b value.Absent (word_or_absent pairs ws)) → IsOfSort s (cond b value.Absent (word_or_absent pairs ws))
word_of_sort s word absent true pairs ws h = absent
word_of_sort s word absent false pairs [] h = absent
word_of_sort s word absent false pairs (w ∷ ws) h = word (joined (map (replaced pairs) (w ∷ ws))) h

date_of_sort : (a b : DateForm) (d : DateRead) → IsValid (value_of_read d) → IsOfSort (sort.Date a b) (value_of_read d)
date_of_sort a b read.Absent h = tt
date_of_sort a b (read.Day day) h = h
date_of_sort a b read.Unreadable h = tt

-- the words that are left of a text
abbrev words_left : TextView → List ℕ → List (List ℕ)
words_left t x = without_titles t.titles t.suffixes (words_of_text (trim x))

-- the valid values of the texts of a file are of its fields' sorts
keeps : (r : FileRole) (s : FieldSort) (t : Tables) (x : List ℕ) → IsValid (standard_value t (sort_in r s) x) → IsOfSort s (standard_value t (sort_in r s) x)
keeps r sort.Name t x h = word_of_sort sort.Name (λ y g. g) tt (stands_among t.missing (trim x)) t.names (words_left (names_of t) x) h
keeps r sort.Place t x h = word_of_sort sort.Place (λ y g. g) tt (stands_among t.missing (trim x)) t.places (words_left (places_of t) x) h
keeps r (sort.Date a b) t x h = date_of_sort a b (date_read (form_in r a b) t.missing x) h

abbrev sorts_by : FileRole → List FieldKeys → List TextSort
sorts_by r fields = map (λ (f : FieldKeys). sort_in r f.sort) fields

values_of_sorts : (r : FileRole) (t : Tables) (fields : List FieldKeys) (xs : List (List ℕ)) → length xs ≡ length fields
    → All IsValid (standard_values t (sorts_by r fields) xs) → AreOfSorts (map (λ (f : FieldKeys). f.sort) fields) (standard_values t (sorts_by r fields) xs)
values_of_sorts r t [] xs e h = tt
values_of_sorts r t (f ∷ fields) [] e h = absurd (omega (arith, e))
values_of_sorts r t (f ∷ fields) (x ∷ xs) e h = (
  keeps r f.sort t x (All-head IsValid (standard_value t (sort_in r f.sort) x) (standard_values t (sorts_by r fields) xs) h),
  values_of_sorts r t fields xs (omega (arith, e)) (All-tail IsValid (standard_value t (sort_in r f.sort) x) (standard_values t (sorts_by r fields) xs) h),
)

abbrev HasValid : Record → Type 0
HasValid r = All IsValid r.row

rows_of_sorts : (r : FileRole) (t : Tables) (fields : List FieldKeys) (table : List TableRow) → All (λ (row : TableRow). length row.fields ≡ length fields) table
    → All HasValid (standard_records t (sorts_by r fields) table) → All (λ (r : Record). AreOfSorts (map (λ (f : FieldKeys). f.sort) fields) r.row) (standard_records t (sorts_by r fields) table)
rows_of_sorts r t fields [] width valid = All-nil (λ (r : Record). AreOfSorts (map (λ (f : FieldKeys). f.sort) fields) r.row)
rows_of_sorts r t fields (row ∷ table) width valid =
    let sorts = sorts_by r fields in
    All-cons (λ (r : Record). AreOfSorts (map (λ (f : FieldKeys). f.sort) fields) r.row) (standard_record t sorts row) (standard_records t sorts table)
    (values_of_sorts r t fields row.fields (All-head (λ (row : TableRow). length row.fields ≡ length fields) row table width) (All-head HasValid (standard_record t sorts row) (standard_records t sorts table) valid))
    (rows_of_sorts r t fields table (All-tail (λ (row : TableRow). length row.fields ≡ length fields) row table width) (All-tail HasValid (standard_record t sorts row) (standard_records t sorts table) valid))

-- the records of a file in standard values are of the plan
pub file_of_plan : (r : FileRole) (plan : Plan) (table : List TableRow) (records : List Record) → IsTableFor (wanted_in r plan) table → records ≡ standard_records plan.tables (sorts_in r plan) table
    → All HasValid records → HaveDistinctIds records → AreOfPlan plan records
file_of_plan r plan table records known same valid distinct =
    let width = rw (length-map plan.fields (field_column r)) at known.width in
    record {
      few = rw (same, length-map table (standard_record plan.tables (sorts_in r plan))) known.few;
      distinct = distinct;
      sorts = rw same (rows_of_sorts r plan.tables plan.fields table width (rw same at valid));
    }
