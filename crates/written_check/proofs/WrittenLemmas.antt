-- What a run writes is verified.
use Rattle.std.proofs.Common.{◌≡◌, ◌<◌, ◌≤◌, ◌≤ℤ◌, ◌+◌, ◌^◌, ◌∷◌, ◌++◌, ◌∙◌, ℕ, ℤ, pos, negsuc, zero, suc, Bool, true, false, List, [], All, length, drop, get_or, if◌then◌else◌, map, Option, Some, None, Ok, refl, sym, ap, subst, arith, length-append, ◌&&◌, AllPairs, codes, Contains, decimal, filter, nat_le, not, replicate, slice_set, zip, int_eq}
use Rattle.std.specs.Fmt.{signed_decimal}
use Rattle.std.specs.List.{list_all}
use Rattle.std.proofs.Math.Seq.{drop-append_seam, get_or-append_seam, set-append_seam}
use Rattle.std.proofs.lemmas.Bool.Decides.{Decides-int_eq, nat_tests}
use Rattle.std.proofs.lemmas.Int.{ints}
use Rattle.std.proofs.lemmas.List.{append_assoc, append-nil, get_or_append_left}
use Rattle.std.proofs.lemmas.List.Elements.{All-contains, All-head, All-tail}
use Rattle.std.proofs.lemmas.List.Sums.{list_all-from_AllPass}
use Rattle.std.proofs.lemmas.Option.{same_Some}
use Rattle.price_check.specs.PlaceLaws.{same_member}
use Rattle.price_check.specs.Assignment.{IsBefore, IsWithin}
use Rattle.csv_rows.specs.Numbers.{is_decimal, number_in}
use Rattle.link_base.specs.Words.{HaveDistinctIds, id_at, no_record, position_of_id, Record}
use Rattle.link_base.specs.declared.rule.Candidate.{Candidate}
use Rattle.link_limits.specs.declared.TheConstants.{MOST_VALUE}
use Rattle.link_report.specs.Reading.{same_itself, row_same, rows_of_prices, same_row, side_rows}
use Rattle.link_report.specs.LinksText.{link_fields, is_priced, price_fields}
use Rattle.written_check.proofs.LinkLemmas.{before_so, found_only, IsFound, known_again, Row}
use Rattle.written_check.proofs.FormLemmas.{none_of_none}
use Rattle.written_check.specs.LinkRows.{after_all, candidate_in, goes_before, links_in, taken_more, first_difference}
use Rattle.written_check.specs.Certified.{ArePrices, have_none, no_prices, price_in, priced_at, priced_more, PricePair, prices_in, row_priced, side_priced, with_a, with_b}

-- rows do not differ from themselves
pub no_difference : (number : ℕ) (rows : List Row) → first_difference number rows rows ≡ None
no_difference number [] = refl
no_difference number (row ∷ rows) = rw (same_itself row) (no_difference (number + 1) rows)

-- a record is known by its id
known_at : (file : List Record) (i j : ℕ) → HaveDistinctIds file → i < length file → j < length file → id_at file i ≡ id_at file j → i ≡ j
known_at file i j distinct in_i in_j e = same_Some i j (sym (known_again file i distinct in_i) ∙ ap (λ (t : List ℕ). position_of_id t file) e ∙ known_again file j distinct in_j)

module _ (cs : List Candidate) (a b : List Record) (distinct_a : HaveDistinctIds a) (distinct_b : HaveDistinctIds b) (rising : AllPairs IsBefore cs) (within : All (IsWithin (length a) (length b)) cs) where
  -- the row of a candidate is its own
  pub own_row : (c : Candidate) → Contains cs c → candidate_in cs a b (link_fields a b c) ≡ Some c
  own_row c among = found_only (λ x. same_row (link_fields a b x) (link_fields a b c)) cs c among (same_itself (link_fields a b c)) only
    where
      only : (y : Candidate) → IsFound (λ x. same_row (link_fields a b x) (link_fields a b c)) cs y → y ≡ c
      only y found =
          let rows = row_same (link_fields a b y) (link_fields a b c) found.passes in
          let in_y = All-contains (IsWithin (length a) (length b)) cs y within found.among in
          let in_c = All-contains (IsWithin (length a) (length b)) cs c within among in
          same_member cs y c rising found.among among
          (known_at a y.a c.a distinct_a in_y.0 in_c.0 (ap (λ (r : Row). get_or r 0 []) rows)) (known_at b y.b c.b distinct_b in_y.1 in_c.1 (ap (λ (r : Row). get_or r 1 []) rows))

  all_before : (taken rest : List Candidate) (c : Candidate) → AllPairs IsBefore (taken ++ c ∷ rest) → list_all (λ d. goes_before d c) taken ≡ true
  all_before taken rest c all = list_all-from_AllPass (λ d. goes_before d c) taken (λ k d lt. before_so (get_or taken k d) c (at k d lt))
    where
      at : (k : ℕ) (d : Candidate) → k < length taken → IsBefore (get_or taken k d) c
      at k d lt =
          subst (λ (x : Candidate). IsBefore x c) (get_or_append_left taken (c ∷ rest) d k lt)
          (subst (λ (y : Candidate). IsBefore (get_or (taken ++ c ∷ rest) k d) y) (get_or-append_seam taken c rest d) (all k (length taken) d lt (omega (arith, length-append taken (c ∷ rest)))))

  -- the rows of rising candidates are read as these
  pub links_read : (taken rest : List Candidate) → AllPairs IsBefore (taken ++ rest) → All (Contains cs) rest → links_in cs a b taken (map (link_fields a b) rest) ≡ Ok (taken ++ rest)
  links_read taken [] all among = ap Ok (sym (append-nil taken))
  links_read taken (c ∷ rest) all among =
      let next : after_all taken (candidate_in cs a b (link_fields a b c)) ≡ Some c =
      ap (after_all taken) (own_row c (All-head (Contains cs) c rest among)) ∙ ap (λ (t : Bool). if t then Some c else None) (all_before taken rest c all) in
      ap (taken_more (λ more. links_in cs a b more (map (link_fields a b) rest)) taken) next
      ∙ links_read (taken ++ c ∷ []) rest (subst (AllPairs IsBefore) (sym (append_assoc taken (c ∷ []) rest)) all) (All-tail (Contains cs) c rest among)
      ∙ ap Ok (append_assoc taken (c ∷ []) rest)

-- the prices of a side after these rows
abbrev side_more : (List ℤ → Option (List ℤ)) → Option (List ℤ) → Option (List ℤ)
side_more go None = None
side_more go (Some ps) = go ps

abbrev side_all : List Record → List Row → List ℤ → Option (List ℤ)
side_all file [] prices = Some prices
side_all file (row ∷ rows) prices = side_more (side_all file rows) (side_priced file row prices)

-- the decimal digits of a number are read
pub record DecimalsRead : Type 0 where
  pub digits : (n : ℕ) → n < 2 ^ 64 → is_decimal (decimal n) ≡ true
  pub value : (n : ℕ) → n < 2 ^ 64 → number_in (decimal n) ≡ n

read_if : (n m : ℕ) (t : Bool) → t ≡ true → m ≡ n → 1 ≤ n → n ≤ MOST_VALUE → (if t && nat_le 1 m && nat_le m MOST_VALUE then Some m else None) ≡ Some n
read_if n m t e same some few = rw (e, same) (ap (λ (b : Bool). if b then Some n else None) (both_le n some few))
  where
    both_le : (n : ℕ) → 1 ≤ n → n ≤ MOST_VALUE → (nat_le 1 n && nat_le n MOST_VALUE) ≡ true
    both_le n some few = grind (arith, nat_tests)

module _ (read : DecimalsRead) where
  price_read : (p : ℤ) → int_eq p (pos 0) ≡ false → pos 0 ≤ℤ p → p ≤ℤ pos MOST_VALUE → (n : ℕ) × (price_in (signed_decimal p) ≡ Some n) × (p ≡ pos n)
  price_read (pos n) other low high =
      (n, read_if n (number_in (decimal n)) (is_decimal (decimal n)) (read.digits n (omega (arith, ints, high))) (read.value n (omega (arith, ints, high))) (positive n other) (omega (arith, ints, high)), refl)
    where
      positive : (n : ℕ) → int_eq (pos n) (pos 0) ≡ false → 1 ≤ n
      positive zero e = absurd (cc e)
      positive (suc n) e = omega arith
  price_read (negsuc n) other low high = absurd (omega (arith, ints, low))

  module _ (file : List Record) (distinct : HaveDistinctIds file) (side : List ℕ) where
    -- the rows of the prices from a record on, after those before it
    side_read : (done left : List ℤ) (before after : List Record) → before ++ after ≡ file → length done ≡ length before → length left ≡ length after → ArePrices left
        → side_all file (side_rows side left after) (done ++ replicate (length left) (pos 0)) ≡ Some (done ++ left)
    side_read done [] before after whole long as_long small = nothing_left after
      where
        nothing_left : (after : List Record) → side_all file (side_rows side [] after) (done ++ []) ≡ Some (done ++ [])
        nothing_left after = refl
    side_read done (p ∷ left) before [] whole long as_long small = absurd (omega (arith, as_long))
    side_read done (p ∷ left) before (r ∷ after) whole long as_long small =
        side_step done p left before r after whole long (All-head (λ q. (pos 0 ≤ℤ q) × (q ≤ℤ pos MOST_VALUE)) p left small)
        (side_read (done ++ p ∷ []) left (before ++ r ∷ []) after (append_assoc before (r ∷ []) after ∙ whole)
        (omega (arith, length-append done (p ∷ []), length-append before (r ∷ []), long)) (omega (arith, as_long)) (All-tail (λ q. (pos 0 ≤ℤ q) × (q ≤ℤ pos MOST_VALUE)) p left small))
        (int_eq p (pos 0)) refl
      where
        side_step : (done : List ℤ) (p : ℤ) (left : List ℤ) (before : List Record) (r : Record) (after : List Record) → before ++ r ∷ after ≡ file → length done ≡ length before → (pos 0 ≤ℤ p) × (p ≤ℤ pos MOST_VALUE)
            → side_all file (side_rows side left after) ((done ++ p ∷ []) ++ replicate (length left) (pos 0)) ≡ Some ((done ++ p ∷ []) ++ left)
            → (t : Bool) → int_eq p (pos 0) ≡ t
            → side_all file (map (price_fields side) (if not t then (p, r) ∷ filter is_priced (zip left after) else filter is_priced (zip left after))) (done ++ replicate (length (p ∷ left)) (pos 0)) ≡ Some (done ++ p ∷ left)
        side_step done p left before r after whole long small go true is =
            let zero : p ≡ pos 0 = (Decides-int_eq p (pos 0)).0 is in
            ap (side_all file (side_rows side left after)) (ap (λ (z : ℤ). done ++ z ∷ replicate (length left) (pos 0)) (sym zero) ∙ sym (append_assoc done (p ∷ []) (replicate (length left) (pos 0))))
            ∙ go ∙ ap Some (append_assoc done (p ∷ []) left)
        side_step done p left before r after whole long small go false is =
            let zeros = replicate (length left) (pos 0) in
            let price = price_read p is small.0 small.1 in
            let known : position_of_id r.id file ≡ Some (length before) =
            ap (λ (t : List ℕ). position_of_id t file) (sym (ap (λ (f : List Record). id_at f (length before)) (sym whole) ∙ ap (λ (x : Record). x.id) (get_or-append_seam before r after no_record)))
            ∙ known_again file (length before) distinct (omega (arith, ap (λ (f : List Record). length f) whole, length-append before (r ∷ after))) in
            let none : have_none (drop (length before) (done ++ pos 0 ∷ zeros)) ≡ true =
            ap (λ n. have_none (drop n (done ++ pos 0 ∷ zeros))) (sym long) ∙ ap have_none (drop-append_seam done (pos 0 ∷ zeros)) ∙ none_of_none (suc (length left)) in
            let put : slice_set (done ++ pos 0 ∷ zeros) (length before) (pos price.0) ≡ (done ++ p ∷ []) ++ zeros =
            ap (λ n. slice_set (done ++ pos 0 ∷ zeros) n (pos price.0)) (sym long) ∙ set-append_seam done (pos 0) zeros (pos price.0) ∙ ap (λ (z : ℤ). done ++ z ∷ zeros) (sym price.2)
            ∙ sym (append_assoc done (p ∷ []) zeros) in
            let taken : side_priced file (side ∷ r.id ∷ signed_decimal p ∷ []) (done ++ pos 0 ∷ zeros) ≡ Some ((done ++ p ∷ []) ++ zeros) =
            ap (λ o. priced_at (done ++ pos 0 ∷ zeros) o (price_in (signed_decimal p))) known ∙ ap (priced_at (done ++ pos 0 ∷ zeros) (Some (length before))) price.1
            ∙ ap (λ (t : Bool). if t then Some (slice_set (done ++ pos 0 ∷ zeros) (length before) (pos price.0)) else None) none ∙ ap Some put in
            ap (side_more (side_all file (side_rows side left after))) taken ∙ go ∙ ap Some (append_assoc done (p ∷ []) left)

-- rows of a side are read as prices of that side
record ReadsOn (a b : List Record) (number : ℕ) (prices : PricePair) (rows : List Row) (after : PricePair) (rest : List Row) : Type 0 where
  pub last : ℕ
  pub same : prices_in a b number prices (rows ++ rest) ≡ prices_in a b last after rest

-- where a row of a side is taken as its price is
module _ (a b : List Record) (rest : List Row) (side : List ℕ) (file : List Record) (put : List ℤ → PricePair)
    (takes : (x : ℤ × Record) (ps qs : List ℤ) → side_priced file (price_fields side x) ps ≡ Some qs → row_priced a b (price_fields side x) (put ps) ≡ Some (put qs)) where
  row_read : (number : ℕ) (ps : List ℤ) (x : ℤ × Record) (xs : List (ℤ × Record)) (qs : List ℤ) (o : Option (List ℤ)) → side_priced file (price_fields side x) ps ≡ o
      → ((more : List ℤ) → side_all file (map (price_fields side) xs) more ≡ Some qs → ReadsOn a b (number + 1) (put more) (map (price_fields side) xs) (put qs) rest)
      → side_more (side_all file (map (price_fields side) xs)) o ≡ Some qs → ReadsOn a b number (put ps) (map (price_fields side) (x ∷ xs)) (put qs) rest
  row_read number ps x xs qs None is go e = absurd (cc e)
  row_read number ps x xs qs (Some more) is go e =
      let on = go more e in
      record { last = on.last; same = ap (priced_more (λ next. prices_in a b (number + 1) next (map (price_fields side) xs ++ rest)) number) (takes x ps more is) ∙ on.same }

  rows_read : (number : ℕ) (ps : List ℤ) (xs : List (ℤ × Record)) (qs : List ℤ) → side_all file (map (price_fields side) xs) ps ≡ Some qs
      → ReadsOn a b number (put ps) (map (price_fields side) xs) (put qs) rest
  rows_read number ps [] qs e = record { last = number; same = ap (λ (more : List ℤ). prices_in a b number (put more) rest) (same_Some ps qs e) }
  rows_read number ps (x ∷ xs) qs e = row_read number ps x xs qs (side_priced file (price_fields side x) ps) refl (λ more f. rows_read (number + 1) more xs qs f) e

-- the rows of prices are read as these prices
pub prices_read : DecimalsRead → (a b : List Record) (prices_a prices_b : List ℤ) → HaveDistinctIds a → HaveDistinctIds b → length prices_a ≡ length a → length prices_b ≡ length b
    → ArePrices prices_a → ArePrices prices_b → prices_in a b 1 (no_prices a b) (rows_of_prices prices_a prices_b a b) ≡ Ok (record { a = prices_a; b = prices_b })
prices_read read a b prices_a prices_b distinct_a distinct_b long_a long_b small_a small_b =
    let rows_b = side_rows (codes "B") prices_b b in
    let of_a : side_all a (side_rows (codes "A") prices_a a) (replicate (length a) (pos 0)) ≡ Some prices_a =
    ap (λ n. side_all a (side_rows (codes "A") prices_a a) (replicate n (pos 0))) (sym long_a) ∙ side_read read a distinct_a (codes "A") [] prices_a [] a refl refl long_a small_a in
    let of_b : side_all b rows_b (replicate (length b) (pos 0)) ≡ Some prices_b =
    ap (λ n. side_all b rows_b (replicate n (pos 0))) (sym long_b) ∙ side_read read b distinct_b (codes "B") [] prices_b [] b refl refl long_b small_b in
    let of_zeros : List ℤ → PricePair = λ ps. record { a = ps; b = replicate (length b) (pos 0) } in
    let of_read : List ℤ → PricePair = λ qs. record { a = prices_a; b = qs } in
    let first = rows_read a b rows_b (codes "A") a of_zeros
    (λ x ps qs e. ap (λ (t : Bool). if t then with_a (of_zeros ps) (side_priced a (price_fields (codes "A") x) ps) else None) (none_of_none (length b)) ∙ ap (with_a (of_zeros ps)) e)
    1 (replicate (length a) (pos 0)) (filter is_priced (zip prices_a a)) prices_a of_a in
    let second = rows_read a b [] (codes "B") b of_read (λ x ps qs e. ap (with_b (of_read ps)) e) first.last (replicate (length b) (pos 0)) (filter is_priced (zip prices_b b)) prices_b of_b in
    first.same ∙ ap (prices_in a b first.last (of_read (replicate (length b) (pos 0)))) (sym (append-nil rows_b)) ∙ second.same
