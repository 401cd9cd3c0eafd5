-- The sides of rows, one by one.
use Rattle.std.proofs.Common.{◌≡◌, ◌<◌, ◌++◌, ◌∙◌, ℕ, zero, suc, true, List, [], ◌∷◌, length, get_or, take, drop, Option, Some, None, refl, ap, sym, arith, Bool, false, MatchBool, if◌then◌else◌, ◌≢◌, ◌≤◌, ◌+◌, ◌&&◌, ◌||◌, not, Ok, Err, inl, inr, nat_lt, append-nil, append_assoc, All, AllPairs, filter, sum_by, bytes_eq}
use Rattle.std.proofs.lemmas.List.{drop-append-le, drop_all, get_or-map, take-append-le, take_all}
use Rattle.comparators.specs.Fields.{rows_of_width, field_of, IsDayOrAbsent, IsFieldSide, IsIdOrAbsent, IsDayItself, NamesCanon, StandsFor}
use Rattle.value_pool.specs.Pool.{IsHeld, stands_among}
use Rattle.value_forms.specs.Canons.{canon_of, compares_days, day_in, exact}
use Rattle.block_passes.specs.Keys.{row_at}
use Rattle.comparators.specs.declared.ids.IdValue.{IdValue}
use Rattle.comparators.specs.declared.ids.IdValue.TheVariants as id
use Rattle.link_base.specs.Words.{absent_value, IsValid, no_record, Record}
use Rattle.comparators.specs.OfPoolLaws.{side-valid}
use Rattle.value_pool.proofs.PlaceLemmas.{place-reads}
use Rattle.value_forms.specs.declared.canons.CompareKind.{CompareKind}
use Rattle.link_base.specs.declared.standard.Value.{Value}
use Rattle.link_base.specs.declared.standard.Value.TheVariants as value
use Rattle.standard_files.specs.Taking.{flat_sides}
use Rattle.standard_files.specs.Ready.{AreFileSides, AreRowSides, IsRowFor}
use Rattle.standard_files.specs.Sides.{day_side, id_side, side_of, sides_of_file, sides_of_row, canons_of_row, file_texts, texts_taken, distinct_texts, IsFullAt}
use Rattle.standard_files.proofs.TakingLemmas.{held-by, stands-canons, stands-flat}
use Rattle.std.proofs.lemmas.Bool.{cases_Bool, ltb-true, ltb-false}
use Rattle.std.proofs.lemmas.List.Elements.{filter_passes}
use Rattle.std.proofs.lemmas.List.Folds.{list_any-append}
use Rattle.std.proofs.lemmas.List.Kept.{AllPairs-filter}
use Rattle.std.proofs.lemmas.List.Sums.{sum_by-cons, sum_by_push}
use Rattle.std.proofs.lemmas.Map.Views.{any-filter_same}
use Rattle.std.proofs.lemmas.Slice.Eq.{bytes_eq-Decides}
use Rattle.value_pool.specs.declared.pool.PoolFault.TheVariants as fault

names : (texts : List (List ℕ)) (canon : Option (List ℕ)) → IsHeld texts canon → NamesCanon texts canon (id_side texts canon)
names texts None h = tt
names texts (Some text) h = place-reads texts text h

day-stands : (v : Value) → IsDayItself (day_in v) (day_side v)
day-stands value.Absent = tt
day-stands (value.Word text) = tt
day-stands (value.Day day) = refl

stands-for : (texts : List (List ℕ)) (kind : CompareKind) (v : Value) → IsHeld texts (canon_of kind v) → StandsFor texts kind v (side_of texts kind v)
stands-for texts kind v h = by_test (compares_days kind)
  where
    by_test : (t : Bool) → MatchBool t (IsDayItself (day_in v) (if t then day_side v else id_side texts (canon_of kind v))) (NamesCanon texts (canon_of kind v) (if t then day_side v else id_side texts (canon_of kind v)))
    by_test true = day-stands v
    by_test false = names texts (canon_of kind v) h

id-valid : (texts : List (List ℕ)) (canon : Option (List ℕ)) → IsIdOrAbsent (id_side texts canon)
id-valid texts None = tt
id-valid texts (Some text) = tt

day-valid : (v : Value) → IsValid v → IsDayOrAbsent (day_side v)
day-valid value.Absent h = tt
day-valid (value.Word text) h = tt
day-valid (value.Day day) h = h

valid-side : (texts : List (List ℕ)) (kind : CompareKind) (v : Value) → IsValid v → IsFieldSide (field_of kind) (side_of texts kind v)
valid-side texts kind v h = side-valid kind (side_of texts kind v) (by_test (compares_days kind))
  where
    by_test : (t : Bool) → MatchBool t (IsDayOrAbsent (if t then day_side v else id_side texts (canon_of kind v))) (IsIdOrAbsent (if t then day_side v else id_side texts (canon_of kind v)))
    by_test true = day-valid v h
    by_test false = id-valid texts (canon_of kind v)

pub side-at : (texts : List (List ℕ)) (kinds : List CompareKind) (row : List Value) (k : ℕ) → k < length kinds → length row ≡ length kinds → get_or (sides_of_row texts kinds row) k id.Absent ≡ side_of texts (get_or kinds k exact) (get_or row k absent_value)
side-at texts [] row k lt many = absurd (omega arith)
side-at texts (kind ∷ kinds) [] k lt many = absurd (omega arith)
side-at texts (kind ∷ kinds) (v ∷ vs) zero lt many = refl
side-at texts (kind ∷ kinds) (v ∷ vs) (suc k) lt many = side-at texts kinds vs k (omega arith) (omega arith)

pub sides-many : (texts : List (List ℕ)) (kinds : List CompareKind) (row : List Value) → length row ≡ length kinds → length (sides_of_row texts kinds row) ≡ length kinds
sides-many texts [] row many = refl
sides-many texts (kind ∷ kinds) [] many = absurd (omega arith)
sides-many texts (kind ∷ kinds) (v ∷ vs) many = ap suc (sides-many texts kinds vs (omega arith))

row-sides : (texts : List (List ℕ)) (kinds : List CompareKind) (row : List Value) → length row ≡ length kinds → All IsValid row → ((text : List ℕ) → stands_among (canons_of_row kinds row) text ≡ true → stands_among texts text ≡ true) → AreRowSides texts kinds row (sides_of_row texts kinds row)
row-sides texts kinds row many valid all = record {
  as_many = sides-many texts kinds row many;
  stand = λ k lt.
      let kind = get_or kinds k exact in
      let v = get_or row k absent_value in
      rw (side-at texts kinds row k lt many) (stands-for texts kind v (held-by texts (canon_of kind v) (λ text h. all text (stands-canons kinds row k text lt many h))));
  valid = λ k lt. rw (side-at texts kinds row k lt many) (valid-side texts (get_or kinds k exact) (get_or row k absent_value) (valid k absent_value (omega arith)));
}

pub length-sides : (texts : List (List ℕ)) (kinds : List CompareKind) (file : List Record) → length (sides_of_file texts kinds file) ≡ length file
length-sides texts kinds [] = refl
length-sides texts kinds (r ∷ rs) = ap suc (length-sides texts kinds rs)

pub file-sides : (texts : List (List ℕ)) (kinds : List CompareKind) (file : List Record) (rows : List (List IdValue)) → All (IsRowFor kinds) file → sides_of_file texts kinds file ≡ rows
    → ((text : List ℕ) → stands_among (file_texts (canons_of_row kinds) file) text ≡ true → stands_among texts text ≡ true) → AreFileSides texts kinds file rows
file-sides texts kinds file rows for_kinds e all = rw (← e) (record {
  as_many = length-sides texts kinds file;
  of_row = λ at lt.
      let here = for_kinds at no_record lt in
      rw (get_or-map (λ (r : Record). sides_of_row texts kinds r.row) file at no_record [] lt)
      (row-sides texts kinds (row_at file at) here.as_many here.valid (λ text h. all text (stands-flat (λ (r : Record). canons_of_row kinds r.row) file at no_record text lt h)));
})

-- the rows of a file, cut out of what their values are compared by
pub rows-cut : (texts : List (List ℕ)) (kinds : List CompareKind) (file : List Record) → All (IsRowFor kinds) file → rows_of_width (length kinds) (length file) (flat_sides texts kinds file) ≡ sides_of_file texts kinds file
rows-cut texts kinds [] h = refl
rows-cut texts kinds (r ∷ rs) h =
    let here = sides_of_row texts kinds r.row in
    let rest = flat_sides texts kinds rs in
    let many : length here ≡ length kinds = sides-many texts kinds r.row (h 0 no_record (omega arith)).as_many in
    let front : take (length kinds) (here ++ rest) ≡ here = take-append-le (length kinds) here rest (omega (arith, many)) ∙ take_all (length kinds) here (omega (arith, many)) in
    let back : drop (length kinds) (here ++ rest) ≡ rest = drop-append-le (length kinds) here rest (omega (arith, many)) ∙ ap (λ l. l ++ rest) (drop_all (length kinds) here (omega (arith, many))) in
    (λ i. front i ∷ rows_of_width (length kinds) (length rs) (back i)) ∙ ap (λ l. here ∷ l) (rows-cut texts kinds rs (λ at d lt. h (suc at) d (omega arith)))

pub rows-cut-as : (texts : List (List ℕ)) (kinds : List CompareKind) (file : List Record) (flat : List IdValue) (fields rows : ℕ) (table : List (List IdValue)) → All (IsRowFor kinds) file
    → flat_sides texts kinds file ≡ flat → fields ≡ length kinds → rows ≡ length file → table ≡ rows_of_width fields rows flat → sides_of_file texts kinds file ≡ table
rows-cut-as texts kinds file flat fields rows table h is_flat is_fields is_rows is_table =
    sym (rows-cut texts kinds file h) ∙ ap (rows_of_width (length kinds) (length file)) is_flat ∙ (λ i. rows_of_width (sym is_fields i) (sym is_rows i) flat) ∙ sym is_table

-- The distinct texts of a list, and those that are taken.

-- two texts that are not told apart
same-text : (t u : List ℕ) → bytes_eq t u ≡ true → t ≡ u
same-text t u h = (bytes_eq-Decides t u).0 h

pub among : (texts : List (List ℕ)) (text : List ℕ) → stands_among (distinct_texts texts) text ≡ stands_among texts text
among [] text = refl
among (t ∷ ts) text =
    elim (cases_Bool (bytes_eq t text)) [
      | inl here ↦ rw here refl
      | inr other ↦
          let kept : (u : List ℕ) → bytes_eq u text ≡ true → not (bytes_eq t u) ≡ true = λ u h. let same = same-text u text h in rw (same, other) refl in
          rw (other, any-filter_same (λ u. bytes_eq u text) (λ u. not (bytes_eq t u)) true kept (distinct_texts ts)) (among ts text)
    ]

pub once : (texts : List (List ℕ)) → AllPairs (λ a b. a ≢ b) (distinct_texts texts)
once [] i j d h k = absurd (omega arith)
once (t ∷ ts) i zero d h k = absurd (omega arith)
once (t ∷ ts) zero (suc j) d h k =
    λ same. let passes = filter_passes (λ u. not (bytes_eq t u)) (distinct_texts ts) j d (omega arith) in
    let here = (bytes_eq-Decides t (get_or (filter (λ u. not (bytes_eq t u)) (distinct_texts ts)) j d)).1 same in
    let fails : not true ≡ true = rw here at passes in cc
once (t ∷ ts) (suc i) (suc j) d h k =
    AllPairs-filter (λ a b. a ≢ b) (λ u. not (bytes_eq t u)) (distinct_texts ts) (once ts) i j d (omega arith) (omega arith)

-- one test after another
filter-twice : (p q r : List ℕ → Bool) (xs : List (List ℕ)) → ((x : List ℕ) → (p x && q x) ≡ r x) → filter p (filter q xs) ≡ filter r xs
filter-twice p q r [] h = refl
filter-twice p q r (x ∷ xs) h =
    elim (cases_Bool (q x)) [
      | inl yes_q ↦
          elim (cases_Bool (p x)) [
            | inl yes_p ↦ rw (← h x, yes_q, yes_p) (ap (λ ys. x ∷ ys) (filter-twice p q r xs h))
            | inr no_p ↦ rw (← h x, yes_q, no_p) (filter-twice p q r xs h)
          ]
      | inr no_q ↦
          elim (cases_Bool (p x)) [
            | inl yes_p ↦ rw (← h x, no_q, yes_p) (filter-twice p q r xs h)
            | inr no_p ↦ rw (← h x, no_q, no_p) (filter-twice p q r xs h)
          ]
    ]

filter-all : (xs : List (List ℕ)) → filter (λ _. true) xs ≡ xs
filter-all [] = refl
filter-all (x ∷ xs) = ap (λ ys. x ∷ ys) (filter-all xs)

-- the distinct texts of a list that are not held
abbrev new_texts : List (List ℕ) → List (List ℕ) → List (List ℕ)
new_texts held texts = filter (λ u. not (stands_among held u)) (distinct_texts texts)

new-held : (held texts : List (List ℕ)) (t : List ℕ) → stands_among held t ≡ true → new_texts held (t ∷ texts) ≡ new_texts held texts
new-held held texts t h =
    rw h (filter-twice (λ u. not (stands_among held u)) (λ u. not (bytes_eq t u)) (λ u. not (stands_among held u)) (distinct_texts texts) agree)
  where
    agree : (u : List ℕ) → (not (stands_among held u) && not (bytes_eq t u)) ≡ not (stands_among held u)
    agree u =
        elim (cases_Bool (bytes_eq t u)) [
          | inl here ↦ let same = same-text t u here in let stands : stands_among held u ≡ true = rw (← same) h in rw stands refl
          | inr other ↦ rw other (and-true (not (stands_among held u)))
        ]
      where
        and-true : (b : Bool) → (b && not false) ≡ b
        and-true true = refl
        and-true false = refl

new-first : (held texts : List (List ℕ)) (t : List ℕ) → stands_among held t ≡ false → new_texts held (t ∷ texts) ≡ t ∷ new_texts (held ++ t ∷ []) texts
new-first held texts t h =
    rw h (ap (λ us. t ∷ us) (filter-twice (λ u. not (stands_among held u)) (λ u. not (bytes_eq t u)) (λ u. not (stands_among (held ++ t ∷ []) u)) (distinct_texts texts) agree))
  where
    agree : (u : List ℕ) → (not (stands_among held u) && not (bytes_eq t u)) ≡ not (stands_among (held ++ t ∷ []) u)
    agree u = neither (stands_among held u) (bytes_eq t u) ∙ ap not (sym (list_any-append (λ x. bytes_eq x u) held (t ∷ [])))
      where
        neither : (b c : Bool) → (not b && not c) ≡ not (b || (c || false))
        neither true true = refl
        neither true false = refl
        neither false true = refl
        neither false false = refl

new-all : (texts : List (List ℕ)) → new_texts [] texts ≡ distinct_texts texts
new-all texts = filter-all (distinct_texts texts)

-- the bytes of texts
abbrev bytes : List (List ℕ) → ℕ
bytes texts = sum_by length texts

taken-from : (limit : ℕ) (texts held : List (List ℕ)) → bytes held + bytes (new_texts held texts) ≤ limit → texts_taken limit held texts ≡ Ok (held ++ new_texts held texts)
taken-from limit [] held h = ap Ok (sym (append-nil held))
taken-from limit (t ∷ ts) held h =
    elim (cases_Bool (stands_among held t)) [
      | inl yes_ ↦
          let new = new-held held ts t yes_ in
          rw (new, yes_) (taken-from limit ts held (rw new at h))
      | inr no_ ↦
          let new = new-first held ts t no_ in
          let more = sum_by-cons length t (new_texts (held ++ t ∷ []) ts) in
          let pushed = sum_by_push length held t in
          let sum : bytes held + bytes (t ∷ new_texts (held ++ t ∷ []) ts) ≤ limit = rw new at h in
          elim (cases_Bool (nat_lt limit (bytes held + length t))) [
            | inl past ↦ let above = ltb-true limit (bytes held + length t) past in absurd (omega arith)
            | inr fits ↦
                rw (new, no_, fits) (taken-from limit ts (held ++ t ∷ []) (omega arith) ∙ ap Ok (append_assoc held (t ∷ []) (new_texts (held ++ t ∷ []) ts)))
          ]
    ]

pub taken : (limit : ℕ) (texts : List (List ℕ)) → bytes (distinct_texts texts) ≤ limit → texts_taken limit [] texts ≡ Ok (distinct_texts texts)
taken limit texts h =
    let all = new-all texts in
    let zero-more : bytes [] + bytes (new_texts [] texts) ≤ limit = rw all (omega arith) in
    taken-from limit texts [] zero-more ∙ ap Ok all

abbrev Refused : ℕ → List (List ℕ) → List (List ℕ) → ℕ → Type 0
Refused limit held texts used =
    (texts_taken limit held texts ≡ Err (fault.Full used limit)) × (limit < used) × (used ≤ bytes held + bytes (new_texts held texts))

full-from : (limit : ℕ) (texts held : List (List ℕ)) → bytes held ≤ limit → limit < bytes held + bytes (new_texts held texts) → (used : ℕ) × Refused limit held texts used
full-from limit [] held within h = absurd (omega arith)
full-from limit (t ∷ ts) held within h =
    elim (cases_Bool (stands_among held t)) [
      | inl yes_ ↦
          let new = new-held held ts t yes_ in
          refused-held limit ts held t yes_ (full-from limit ts held within (rw new at h))
      | inr no_ ↦
          let new = new-first held ts t no_ in
          let more = sum_by-cons length t (new_texts (held ++ t ∷ []) ts) in
          let pushed = sum_by_push length held t in
          let sum : limit < bytes held + bytes (t ∷ new_texts (held ++ t ∷ []) ts) = rw new at h in
          elim (cases_Bool (nat_lt limit (bytes held + length t))) [
            | inl past ↦ (bytes held + length t, (rw (no_, past) refl, ltb-true limit (bytes held + length t) past, rw new (omega arith)))
            | inr fits ↦
                let below = ltb-false limit (bytes held + length t) fits in
                refused-later limit ts held t no_ fits (full-from limit ts (held ++ t ∷ []) (omega arith) (omega arith))
          ]
    ]
  where
    refused-held : (limit : ℕ) (ts held : List (List ℕ)) (t : List ℕ) → stands_among held t ≡ true → (used : ℕ) × Refused limit held ts used → (used : ℕ) × Refused limit held (t ∷ ts) used
    refused-held limit ts held t yes_ (used, h) = (used, (rw yes_ h.0, h.1, rw (new-held held ts t yes_) h.2))

    refused-later : (limit : ℕ) (ts held : List (List ℕ)) (t : List ℕ) → stands_among held t ≡ false → nat_lt limit (bytes held + length t) ≡ false → (used : ℕ) × Refused limit (held ++ t ∷ []) ts used → (used : ℕ) × Refused limit held (t ∷ ts) used
    refused-later limit ts held t no_ fits (used, h) =
        let more = sum_by-cons length t (new_texts (held ++ t ∷ []) ts) in
        let pushed = sum_by_push length held t in
        (used, (rw (no_, fits) h.0, h.1, rw (new-first held ts t no_) (omega (arith, h.2))))

from-none : (limit : ℕ) (texts : List (List ℕ)) → (used : ℕ) × Refused limit [] texts used → (used : ℕ) × IsFullAt limit texts used
from-none limit texts (used, h) = let most : used ≤ bytes [] + bytes (distinct_texts texts) = rw (new-all texts) at h.2 in (used, (h.0, h.1, omega arith))

pub full : (limit : ℕ) (texts : List (List ℕ)) → limit < bytes (distinct_texts texts) → (used : ℕ) × IsFullAt limit texts used
full limit texts h =
    let past : limit < bytes [] + bytes (new_texts [] texts) = rw (new-all texts) (omega arith) in
    from-none limit texts (full-from limit texts [] (omega arith) past)
