-- The capacities after one more row: the record that it names has the row's capacity, and every other record what it had.
use Rattle.std.proofs.Common.{◌≡◌, ◌≢◌, ◌<◌, AllPairs, ◌+◌, ◌∷◌, ◌∙◌, ℕ, List, [], length, map, replicate, set, take, get_or, Bool, true, false, Some, cond, ◌⊎◌, inl, inr, refl, sym, ap, arith, subst, bytes_eq, ◌≤◌, ◌++◌, ℤ, pos, ◌&&◌, suc, drop, if◌then◌else◌, Option, None, Result, Ok, drop-cons, nat_le, find}
use Rattle.std.proofs.lemmas.Bool.{cases_eq, cases_order, false_from_ne_true}
use Rattle.std.proofs.lemmas.List.{ext_get_or, get_or-map, get_or-set_other, get_or-set_same, get_or-take, length-map, length-set, length-take-le, take_more, take_all}
use Rattle.std.proofs.lemmas.List.Quantifiers.{position-Some}
use Rattle.std.proofs.lemmas.List.Recursion.{found_at, found_push_other}
use Rattle.std.proofs.lemmas.Slice.Eq.{bytes_eq-Decides}
use Rattle.csv_rows.specs.Numbers.{number_in, is_decimal}
use Rattle.link_base.specs.Words.{HaveDistinctIds, Record, no_record, position_of_id, and_then, Refuses, refuses_then}
use Rattle.file_reader.specs.Words.{TableRow, no_row, or_fault}
use Rattle.candidate_links.specs.Capacities.{capacity_by, listed_capacity, capacity_text, after_rows, capacity_in, capacity_named}
use Rattle.price_check.specs.Assignment.{price_of}
use Rattle.link_base.specs.declared.fault.Fault.{Fault}
use Rattle.link_limits.specs.declared.TheConstants.{MOST_CAPACITY}

-- no row names a record, and each has one place
pub unlisted : (b : List Record) → replicate (length b) 1 ≡ map (listed_capacity []) b
unlisted [] = refl
unlisted (r ∷ rs) = ap (λ ns. 1 ∷ ns) (unlisted rs)

-- what two ids are where they are not the same
other : (x y : List ℕ) → x ≢ y → bytes_eq x y ≡ false
other x y differ = false_from_ne_true (bytes_eq x y) (λ yes. differ ((bytes_eq-Decides x y).0 yes))

-- a record is looked up row by row
looked_up : (r : Record) (row : TableRow) (rows : List TableRow)
    → listed_capacity (row ∷ rows) r ≡ cond (bytes_eq row.id r.id) (number_in (capacity_text row)) (listed_capacity rows r)
looked_up r row rows = by_test (bytes_eq row.id r.id)
  where
    by_test : (t : Bool) → capacity_by (cond t (Some row) (find (λ (x : TableRow). bytes_eq x.id r.id) rows)) ≡ cond t (number_in (capacity_text row)) (listed_capacity rows r)
    by_test true = refl
    by_test false = refl

module _ (b : List Record) (rows : List TableRow) (at p : ℕ) (within : at < length rows) (distinct : HaveDistinctIds b)
    (apart : AllPairs (λ (x y : TableRow). x.id ≢ y.id) rows) (named : position_of_id (get_or rows at no_row).id b ≡ Some p) where
  -- the row, and the record that it names
  abbrev row : TableRow
  row = get_or rows at no_row

  abbrev there : Record
  there = get_or b p no_record

  -- what the rows so far say of a record, and what they say with one more
  abbrev before : Record → ℕ
  before r = listed_capacity (take at rows) r

  abbrev after : Record → ℕ
  after r = listed_capacity (take (at + 1) rows) r

  found : (p < length b) × (bytes_eq row.id there.id ≡ true) × ((k : ℕ) → k < p → bytes_eq row.id (get_or b k no_record).id ≡ false)
  found = position-Some (λ (r : Record). bytes_eq row.id r.id) b p no_record named

  same : row.id ≡ there.id
  same = (bytes_eq-Decides row.id there.id).0 found.1

  earlier : (k : ℕ) → k < at → bytes_eq (get_or (take (at + 1) rows) k no_row).id there.id ≡ false
  earlier k lt =
      rw (get_or-take (at + 1) rows k no_row (omega arith)) (other (get_or rows k no_row).id there.id (λ e. apart k at no_row lt within (e ∙ sym same)))

  passes : bytes_eq (get_or (take (at + 1) rows) at no_row).id there.id ≡ true
  passes = rw (get_or-take (at + 1) rows at no_row (omega arith)) found.1

  here : after there ≡ number_in (capacity_text row)
  here =
      found_at (λ rs. listed_capacity rs there) (λ (x : TableRow). bytes_eq x.id there.id) (λ x. number_in (capacity_text x)) 1 refl (looked_up there)
      (take (at + 1) rows) at no_row (omega (arith, length-take-le (at + 1) rows (omega arith))) earlier passes
      ∙ ap (λ x. number_in (capacity_text x)) (get_or-take (at + 1) rows at no_row (omega arith))

  -- another record has another id
  apart_from : (k : ℕ) → k < length b → k ≢ p → (get_or b k no_record).id ≢ there.id
  apart_from k lt differ = by_order (cases_order k p)
    where
      by_order : (k ≡ p) ⊎ ((k < p) ⊎ (p < k)) → (get_or b k no_record).id ≢ there.id
      by_order (inl e) = absurd (differ e)
      by_order (inr (inl less)) = distinct k p no_record less found.0
      by_order (inr (inr more)) = λ e. distinct p k no_record more lt (sym e)

  elsewhere : (k : ℕ) → k < length b → k ≢ p → before (get_or b k no_record) ≡ after (get_or b k no_record)
  elsewhere k lt differ =
      let r = get_or b k no_record in
      let is_other = other row.id r.id (λ e. apart_from k lt differ (sym e ∙ same)) in
      let as_before =
      ap (λ rs. listed_capacity rs r) (take_more rows at no_row within)
      ∙ found_push_other (λ rs. listed_capacity rs r) (λ (x : TableRow). bytes_eq x.id r.id) (λ x. number_in (capacity_text x)) 1 refl (looked_up r) (take at rows) row is_other in
      sym as_before

  pub listed_more : set (map before b) p (number_in (capacity_text row)) ≡ map after b
  listed_more = ext_get_or 0 (set (map before b) p (number_in (capacity_text row))) (map after b) as_long at_each
    where
      as_long : length (set (map before b) p (number_in (capacity_text row))) ≡ length (map after b)
      as_long = length-set (map before b) p (number_in (capacity_text row)) ∙ length-map b before ∙ sym (length-map b after)

      at_place : (k : ℕ) → k < length b → (k ≡ p) ⊎ (k ≡ p → ⊥) → get_or (set (map before b) p (number_in (capacity_text row))) k 0 ≡ after (get_or b k no_record)
      at_place k lt (inl e) =
          subst (λ j. get_or (set (map before b) p (number_in (capacity_text row))) j 0 ≡ after (get_or b j no_record)) (sym e)
          (get_or-set_same (map before b) p (number_in (capacity_text row)) 0 (omega (arith, found.0, length-map b before)) ∙ sym here)
      at_place k lt (inr differ) =
          get_or-set_other (map before b) p k (number_in (capacity_text row)) 0 differ
          ∙ get_or-map before b k no_record 0 lt
          ∙ elsewhere k lt differ

      at_each : (k : ℕ) → k < length (set (map before b) p (number_in (capacity_text row))) → get_or (set (map before b) p (number_in (capacity_text row))) k 0 ≡ get_or (map after b) k 0
      at_each k lt =
          let within_b : k < length b = omega (arith, lt, length-set (map before b) p (number_in (capacity_text row)), length-map b before) in
          at_place k within_b (cases_eq k p) ∙ sym (get_or-map after b k no_record 0 within_b)

-- Prices that are copied one by one.

-- one more price
pub price_next : (prices : List ℤ) (n : ℕ) (price : ℤ) (before after : List ℤ) → n < length prices → price ≡ price_of prices n → before ≡ take n prices → after ≡ before ++ price ∷ [] → after ≡ take (n + 1) prices
price_next prices n price before after lt is so_far more = rw (more, so_far, is) (sym (take_more prices n (pos 0) lt))

-- all prices
pub all_prices : (prices : List ℤ) (n : ℕ) (copied : List ℤ) → length prices ≤ n → copied ≡ take n prices → copied ≡ prices
all_prices prices n copied le so_far = so_far ∙ take_all n prices le

-- Rows that are read one by one, and the capacity that a row gives.

-- the number that a capacity is, where there is one
is_number : (t : Bool) (f : Fault) (m n : ℕ) → or_fault f (if t then Some m else None) ≡ Ok n → n ≡ m
is_number true f m n e = sym (ok_is m n e)
  where
    ok_is : (x y : ℕ) → or_fault f (Some x) ≡ Ok y → x ≡ y
    ok_is x y e = cc e
is_number false f m n e = absurd (cc e)

given_number : (o : Option ℕ) (f g : Fault) (text : List ℕ) (n : ℕ) → and_then (or_fault f o) (λ at. or_fault g (capacity_named text)) ≡ Ok n → n ≡ number_in text
given_number None f g text n e = absurd (cc e)
given_number (Some at) f g text n e = is_number (is_decimal text && nat_le (number_in text) MOST_CAPACITY) g (number_in text) n e

pub capacity_is : (b : List Record) (number : ℕ) (row : TableRow) (n : ℕ) → capacity_in b number row ≡ Ok n → n ≡ number_in (capacity_text row)
capacity_is b number row n e = given_number (position_of_id row.id b) _ _ (capacity_text row) n e

module _ (b : List Record) (given : List ℕ) (rows : List TableRow) (at : ℕ) (within : at < length rows) where
  -- a row without a fault
  pub row_told : (n : ℕ) → capacity_in b (at + 1) (get_or rows at no_row) ≡ Ok n
      → after_rows b given (at + 1) (drop at rows) ≡ after_rows b given (at + 1 + 1) (drop (at + 1) rows)
  row_told n told =
      let one_more : suc at ≡ at + 1 = omega arith in
      ap (after_rows b given (at + 1)) (drop-cons rows at no_row within)
      ∙ ap (λ (r : Result ℕ Fault). and_then r (λ x. after_rows b given (at + 1 + 1) (drop (suc at) rows))) told
      ∙ ap (λ k. after_rows b given (at + 1 + 1) (drop k rows)) one_more

  -- a row at fault
  pub row_refused : (f : Fault) → Refuses (capacity_in b (at + 1) (get_or rows at no_row)) f → Refuses (after_rows b given (at + 1) (drop at rows)) f
  row_refused f h =
      rw (drop-cons rows at no_row within) (refuses_then (capacity_in b (at + 1) (get_or rows at no_row)) (λ n. after_rows b given (at + 1 + 1) (drop (suc at) rows)) f h)
