-- Capacities that are all 1: lists within them are the one-to-one lists, and a check within them is the check of one-to-one links.
use Rattle.std.proofs.Common.{◌≡◌, ◌≢◌, ◌↔◌, ℕ, zero, suc, ◌+◌, ◌<◌, ◌≤◌, ℤ, pos, ◌+ℤ◌, ◌*ℤ◌, List, [], ◌∷◌, length, get_or, take, refl, sym, ap, subst, ◌∙◌, inl, inr, arith, All, AllPairs, Option, None, replicate, Some, set, get_or-set_other, get_or-set_same, slice_index}
use Rattle.std.proofs.lemmas.Bool.{cases_eq, cases_lt}
use Rattle.std.proofs.lemmas.Int.{ints}
use Rattle.std.proofs.Math.IntN.{suc_ℤ-*ℤ}
use Rattle.std.proofs.lemmas.List.{get_or_default, get_or_past, length-replicate, set_past}
use Rattle.std.proofs.lemmas.List.Elements.{All-head, All-tail, All-contains, All-replicate}
use Rattle.link_base.specs.declared.rule.Candidate.{Candidate}
use Rattle.link_base.specs.declared.rule.PairAt.{PairAt}
use Rattle.price_check.specs.Assignment.{Certifies, IsOneToOne, no_candidate, price_sum, SharesNoRecord, capacity_of, CertifiesWithin, IsWithinCapacities, links_at, place_sum}
use Rattle.price_check.specs.Verdict.{AreCertifiedWithin, HasPlace, IsVerdictWithin, pairs_at, AreCertified, IsCandidate, IsChecked, IsFirstReasonBy, IsFirstUnfit, IsFresh, IsVerdict}
use Rattle.price_check.specs.Law.{CertifiedIsGreatest}
use Rattle.price_check.specs.PlaceLaws.{links_at-here, links_at-other, AllPairs-head, AllPairs-tail}
use Rattle.price_check.specs.Search.{IsPairWithin}
use Rattle.price_check.specs.declared.verdict.Reason.{Reason}
use Rattle.price_check.specs.declared.verdict.Reason.TheVariants.{NotCandidate, Reused, Negative, Uncovered, Sum}
use Rattle.price_check.specs.declared.verdict.Verified.{Verified}
use Rattle.price_check.specs.declared.verdict.Verified.TheVariants.{Yes, No}
use Rattle.price_check.proofs.Order.{no_pair, pairs_at-here, pairs_at-other, verdict_exact_within}
use Rattle.std.proofs.lemmas.Bool.Decides.{nat_tests}
use Rattle.price_check.specs.Forest.{PointsUp, climbed, top, merged}

links_at-none : (b : ℕ) (cs : List Candidate) → All (λ c. b ≢ c.b) cs → links_at b cs ≡ 0
links_at-none b [] h = refl
links_at-none b (c ∷ cs) h =
    let n : c.b ≢ b = λ e. All-head (λ (c : Candidate). b ≢ c.b) c cs h (sym e) in
    links_at-other b c cs n ∙ links_at-none b cs (All-tail (λ (c : Candidate). b ≢ c.b) c cs h)

links_at-one : (b : ℕ) (cs : List Candidate) → AllPairs SharesNoRecord cs → links_at b cs ≤ 1
links_at-one b [] h = omega arith
links_at-one b (c ∷ cs) h = elim (cases_eq c.b b) [
  | inl e ↦ (let none = links_at-none b cs (λ k d l. rw (← e) (AllPairs-head SharesNoRecord c cs h k d l).1) in omega (arith, none, links_at-here b c cs e))
  | inr n ↦ rw (links_at-other b c cs n) (links_at-one b cs (AllPairs-tail SharesNoRecord c cs h))
]

links_at-some : (cs : List Candidate) (k : ℕ) (d : Candidate) → k < length cs → 0 < links_at (get_or cs k d).b cs
links_at-some [] k d lt = absurd (omega arith)
links_at-some (c ∷ cs) zero d lt = omega (arith, links_at-here c.b c cs refl)
links_at-some (c ∷ cs) (suc k) d lt =
    let r = links_at-some cs k d (omega arith) in
    let b = (get_or cs k d).b in
    elim (cases_eq c.b b) [ inl e ↦ omega (arith, links_at-here b c cs e) | inr n ↦ omega (arith, links_at-other b c cs n, r) ]

apart_from_single : (cs : List Candidate) → ((b : ℕ) → links_at b cs ≤ 1) → (i j : ℕ) (d : Candidate) → i < j → j < length cs → (get_or cs i d).b ≢ (get_or cs j d).b
apart_from_single [] h i j d lt m e = absurd (omega arith)
apart_from_single (c ∷ cs) h zero zero d lt m e = absurd (omega arith)
apart_from_single (c ∷ cs) h zero (suc j) d lt m e =
    let some = links_at-some cs j d (omega arith) in
    let b = (get_or cs j d).b in
    absurd (omega (arith, some, links_at-here b c cs e, h b))
apart_from_single (c ∷ cs) h (suc i) zero d lt m e = absurd (omega arith)
apart_from_single (c ∷ cs) h (suc i) (suc j) d lt m e = apart_from_single cs (fewer c cs h) i j d (omega arith) (omega arith) e
  where
    fewer : (c : Candidate) (cs : List Candidate) → ((b : ℕ) → links_at b (c ∷ cs) ≤ 1) → (b : ℕ) → links_at b cs ≤ 1
    fewer c cs h b = elim (cases_eq c.b b) [ inl e ↦ omega (arith, links_at-here b c cs e, h b) | inr n ↦ omega (arith, links_at-other b c cs n, h b) ]

capacity_single : (capacities : List ℕ) (b : ℕ) → All (λ n. n ≡ 1) capacities → capacity_of capacities b ≤ 1
capacity_single capacities b h = elim (cases_lt b (length capacities)) [ inl lt ↦ omega (arith, h b 0 lt) | inr past ↦ omega (arith, get_or_past capacities b 0 past) ]

place_sum_single : (capacities : List ℕ) (prices : List ℤ) → All (λ n. n ≡ 1) capacities → length prices ≡ length capacities → place_sum capacities prices ≡ price_sum prices
place_sum_single [] [] h e = refl
place_sum_single [] (q ∷ qs) h e = absurd (omega (arith, e))
place_sum_single (n ∷ ns) [] h e = absurd (omega (arith, e))
place_sum_single (n ∷ ns) (q ∷ qs) h e =
    let one : n ≡ 1 = All-head (λ n. n ≡ 1) n ns h in
    let rest = place_sum_single ns qs (All-tail (λ n. n ≡ 1) n ns h) (omega (arith, e)) in
    let here : (pos 1 *ℤ q) ≡ (pos 0 *ℤ q) +ℤ q = suc_ℤ-*ℤ (pos 0) q in
    rw one (omega (arith, ints, rest, here))

module _ (candidates : List Candidate) (capacities : List ℕ) (links : List Candidate) (single : All (λ n. n ≡ 1) capacities) (within : All (λ c. c.b < length capacities) candidates) where
  pub one_to_one_within : IsWithinCapacities candidates capacities links → IsOneToOne candidates links
  one_to_one_within w = record {
    among = w.among;
    rising = w.rising;
    apart = λ i j d lt m. (w.apart i j d lt m, apart_from_single links (λ b. omega (arith, w.fits b, capacity_single capacities b single)) i j d lt m);
  }

  fits_at : IsOneToOne candidates links → (b : ℕ) → (0 < links_at b links → b < length capacities) → links_at b links ≤ capacity_of capacities b
  fits_at one b there = elim (cases_lt b (length capacities)) [
    | inl lt ↦ omega (arith, single b 0 lt, links_at-one b links one.apart)
    | inr past ↦ elim (cases_lt 0 (links_at b links)) [ inl some ↦ absurd (let h = there some in omega arith) | inr none ↦ omega arith ]
  ]

  pub within_one_to_one : IsOneToOne candidates links → IsWithinCapacities candidates capacities links
  within_one_to_one one = record {
    among = one.among;
    rising = one.rising;
    apart = λ i j d lt m. (one.apart i j d lt m).0;
    fits = λ b. fits_at one b (λ some. there links (λ k d lt. All-contains (λ (c : Candidate). c.b < length capacities) candidates (get_or links k d) within (one.among k d lt)) b some);
  }
    where
      there : (cs : List Candidate) → All (λ c. c.b < length capacities) cs → (b : ℕ) → 0 < links_at b cs → b < length capacities
      there [] h b some = absurd (omega arith)
      there (c ∷ cs) h b some = elim (cases_eq c.b b) [
        | inl e ↦ omega (arith, e, All-head (λ (c : Candidate). c.b < length capacities) c cs h)
        | inr n ↦ there cs (All-tail (λ (c : Candidate). c.b < length capacities) c cs h) b (omega (arith, links_at-other b c cs n))
      ]

  pub certifies_single : (ps qs : List ℤ) → length qs ≡ length capacities → CertifiesWithin candidates capacities links ps qs ↔ Certifies candidates links ps qs
  certifies_single ps qs len = (
    λ cert. record {
      floor_a = cert.floor_a;
      floor_b = cert.floor_b;
      covered = cert.covered;
      balanced = sym (ap (λ n. price_sum ps +ℤ n) (place_sum_single capacities qs single len)) ∙ cert.balanced;
    },
    λ cert. record {
      floor_a = cert.floor_a;
      floor_b = cert.floor_b;
      covered = cert.covered;
      balanced = ap (λ n. price_sum ps +ℤ n) (place_sum_single capacities qs single len) ∙ cert.balanced;
    },
  )

-- Links that find a place in capacities of 1 are those of which no earlier one has a record.

unused : (ls : List PairAt) (b i : ℕ) → i ≤ length ls → ((k : ℕ) → k < i → (get_or ls k no_pair).b ≢ b) → pairs_at b (take i ls) ≡ 0
unused ls b zero le none = refl
unused ls b (suc i) le none =
    let e : suc i ≡ i + 1 = omega arith in
    rw (e, pairs_at-other ls i no_pair b (omega arith) (none i (omega arith))) (unused ls b i (omega arith) (λ k lt. none k (omega arith)))

used : (ls : List PairAt) (b i k : ℕ) → i ≤ length ls → k < i → (get_or ls k no_pair).b ≡ b → 0 < pairs_at b (take i ls)
used ls b zero k le lt at = absurd (omega arith)
used ls b (suc i) k le lt at =
    let e : suc i ≡ i + 1 = omega arith in
    elim (cases_eq (get_or ls i no_pair).b b) [
      | inl q ↦ rw e (omega (arith, pairs_at-here ls i no_pair b (omega arith) q))
      | inr n ↦ elim (cases_eq k i) [
        | inl q ↦ absurd (n (rw q at at))
        | inr ne ↦ rw (e, pairs_at-other ls i no_pair b (omega arith) n) (used ls b i k (omega arith) (omega arith) at)
      ]
    ]

module _ (ns : List ℕ) (ls : List PairAt) (single : All (λ n. n ≡ 1) ns) (within : All (IsPairWithin (length ns)) ls) where
  fresh_placed : (i : ℕ) → i < length ls → HasPlace ns ls i ↔ IsFresh ls i
  fresh_placed i lt = (
    λ placed k d below. (
      placed.0 k d below,
      λ same.
          let b = (get_or ls i d).b in
          let at : (get_or ls k no_pair).b ≡ b = rw (get_or_default ls k no_pair d (omega arith)) same in
          omega (arith, used ls b i k (omega arith) below at, placed.1 d, single b 0 (within i d lt)),
    ),
    λ fresh. (
      λ k d below. (fresh k d below).0,
      λ d.
          let b = (get_or ls i d).b in
          let none = unused ls b i (omega arith) (λ k below. rw (get_or_default ls k no_pair d (omega arith)) (fresh k d below).1) in
          omega (arith, none, single b 0 (within i d lt)),
    ),
  )

  first_placed : (place : Option ℕ) → IsFirstUnfit (HasPlace ns ls) (length ls) place → IsFirstUnfit (IsFresh ls) (length ls) place
  first_placed None h = λ i lt. (fresh_placed i lt).0 (h i lt)
  first_placed (Some i) h = (h.0, λ k below. (fresh_placed k (omega (arith, h.0))).0 (h.1 k below), λ fresh. h.2 ((fresh_placed i h.0).1 fresh))

module _ (cs : List Candidate) (ns : List ℕ) (ls : List PairAt) (ps qs : List ℤ) (single : All (λ n. n ≡ 1) ns) (within : All (λ c. c.b < length ns) cs) (priced : length qs ≡ length ns) where
  certified_single : AreCertifiedWithin cs ns ls ps qs ↔ AreCertified cs ls ps qs
  certified_single = (
    λ t. (t.0, (t.1.0, one_to_one_within cs ns t.0 single within t.1.1, (certifies_single cs ns t.0 single within ps qs priced).0 t.1.2)),
    λ t. (t.0, (t.1.0, within_one_to_one cs ns t.0 single within t.1.1, (certifies_single cs ns t.0 single within ps qs priced).1 t.1.2)),
  )

  there : All (IsCandidate cs) ls → All (IsPairWithin (length ns)) ls
  there are k d lt =
      let at = are k d lt in
      omega (arith, (at.1.1 no_candidate).1, within at.0 no_candidate at.1.0)

  sums : (price_sum ps +ℤ place_sum ns qs) ≡ price_sum ps +ℤ price_sum qs
  sums = ap (λ n. price_sum ps +ℤ n) (place_sum_single ns qs single priced)

  reason_single : (r : Reason) → IsFirstReasonBy (HasPlace ns ls) (price_sum ps +ℤ place_sum ns qs) cs ls ps qs r → IsFirstReasonBy (IsFresh ls) (price_sum ps +ℤ price_sum qs) cs ls ps qs r
  reason_single (NotCandidate i) h = h
  reason_single (Reused i) h = (h.0, first_placed ns ls single (there h.0) (Some i) h.1)
  reason_single (Negative side i) h = (h.0, first_placed ns ls single (there h.0) None h.1, h.2)
  reason_single (Uncovered i) h = (h.0, first_placed ns ls single (there h.0) None h.1, h.2, h.3, h.4)
  reason_single (Sum l p) h = (h.0, first_placed ns ls single (there h.0) None h.1, h.2, h.3, h.4, h.5 ∙ sums, h.6, h.7)

  -- the verdict within capacities of 1 is that of one-to-one links
  verdict_single : (v : Verified) → IsVerdictWithin cs ns ls ps qs v → IsVerdict cs ls ps qs v
  verdict_single Yes h = certified_single.0 h
  verdict_single (No r) h = reason_single r h

  pub check_single : (v : Verified) → CertifiedIsGreatest → IsVerdictWithin cs ns ls ps qs v → IsChecked cs ls ps qs v
  check_single v law h =
      let exact = verdict_exact_within cs ns ls ps qs v h in
      record {
        first_reason = verdict_single v h;
        certified = (λ e. certified_single.0 (exact.0 e), λ t. exact.1 (certified_single.1 t));
        greatest = λ e. (let t = certified_single.0 (exact.0 e) in (t.0, (t.1.0, law cs t.0 ps qs t.1.1 t.1.2)));
      }

pub reused_single : (rows : ℕ) (ns : List ℕ) (ls : List PairAt) (place : Option ℕ) → ns ≡ replicate rows 1 → All (IsPairWithin rows) ls → IsFirstUnfit (HasPlace ns ls) (length ls) place → IsFirstUnfit (IsFresh ls) (length ls) place
reused_single rows ns ls place is within h =
    let long : length ns ≡ rows = ap (λ (l : List ℕ). length l) is ∙ length-replicate rows 1 in
    first_placed ns ls (subst (All (λ (n : ℕ). n ≡ 1)) (sym is) (All-replicate (λ (n : ℕ). n ≡ 1) rows 1 refl)) (λ k d lt. omega (arith, long, within k d lt)) place h

-- Tops of places, and what a change of one pointer does to them.

-- a top stays where it is
stays : (up : List ℕ) (n r : ℕ) → slice_index up r ≡ r → climbed up n r ≡ r
stays up zero r h = refl
stays up (suc n) r h = rw h (stays up n r h)

-- enough steps lead to a top
ends_at_top : (up : List ℕ) → PointsUp up → (n x : ℕ) → x ≤ n → slice_index up (climbed up n x) ≡ climbed up n x
ends_at_top up h zero x le = (let low = h x in omega (arith, low))
ends_at_top up h (suc n) x le = elim (cases_eq (slice_index up x) x) [
  | inl e ↦ (let same : climbed up n (slice_index up x) ≡ x = rw e (stays up n x e) in rw same e)
  | inr ne ↦ (let low = h x in ends_at_top up h n (slice_index up x) (omega arith))
]

-- there is one top
one_top : (up : List ℕ) (n m x r : ℕ) → slice_index up r ≡ r → climbed up n x ≡ r → slice_index up (climbed up m x) ≡ climbed up m x → climbed up m x ≡ r
one_top up zero m x r t e h = rw e (stays up m r t)
one_top up (suc n) zero x r t e h = sym (stays up (suc n) x h) ∙ e
one_top up (suc n) (suc m) x r t e h = one_top up n m (slice_index up x) r t e h

pub top_is : (up : List ℕ) → PointsUp up → (n x r : ℕ) → slice_index up r ≡ r → climbed up n x ≡ r → top up x ≡ r
top_is up h n x r t e = one_top up n x x r t e (ends_at_top up h x x (omega arith))

pub top_top : (up : List ℕ) → PointsUp up → (x : ℕ) → slice_index up (top up x) ≡ top up x
top_top up h x = ends_at_top up h x x (omega arith)

pub top_above : (up : List ℕ) → PointsUp up → (x : ℕ) → top up (slice_index up x) ≡ top up x
top_above up h x = top_is up h (suc x) (slice_index up x) (top up x) (top_top up h x) (one_top up x (suc (suc x)) x (top up x) (top_top up h x) refl (ends_at_top up h (suc (suc x)) x (omega arith)))

climbed_low : (up : List ℕ) → PointsUp up → (n x : ℕ) → climbed up n x ≤ x
climbed_low up h zero x = omega arith
climbed_low up h (suc n) x = omega (arith, h x, climbed_low up h n (slice_index up x))

pub top_low : (up : List ℕ) → PointsUp up → (x : ℕ) → top up x ≤ x
top_low up h x = climbed_low up h x x

pub points_up-set : (up : List ℕ) (x y : ℕ) → PointsUp up → y ≤ x → PointsUp (set up x y)
points_up-set up x y h le z = elim (cases_eq z x) [
  | inl e ↦ elim (cases_lt x (length up)) [
    | inl lt ↦ rw (e, get_or-set_same up x y 0 lt) le
    | inr past ↦ rw (e, set_past up x y past) (h x)
  ]
  | inr ne ↦ rw (get_or-set_other up x z y 0 ne) (h z)
]

-- what is the same along the pointers, and at each top the top, is the top of each place
pub tops_by : (up : List ℕ) → PointsUp up → (g : ℕ → ℕ) → ((y : ℕ) → g (slice_index up y) ≡ g y) → ((y : ℕ) → slice_index up y ≡ y → g y ≡ y) → (y : ℕ) → top up y ≡ g y
tops_by up h g along at y = sym (at (top up y) (top_top up h y)) ∙ all_along y y
  where
    all_along : (n x : ℕ) → g (climbed up n x) ≡ g x
    all_along zero x = refl
    all_along (suc n) x = all_along n (slice_index up x) ∙ along x

pub top_itself : (up : List ℕ) (y : ℕ) → slice_index up y ≡ y → top up y ≡ y
top_itself up y e = stays up y y e

abbrev halfway : List ℕ → ℕ → ℕ
halfway up x = slice_index up (slice_index up x)

-- a place points further up
pub tops_halved : (up : List ℕ) (x : ℕ) → PointsUp up → x < length up → (y : ℕ) → top (set up x (slice_index up (slice_index up x))) y ≡ top up y
tops_halved up x h lt = tops_by (set up x (halfway up x)) (points_up-set up x (halfway up x) h low) (top up) along at
  where
    low : halfway up x ≤ x
    low = omega (arith, h x, h (slice_index up x))

    along : (y : ℕ) → top up (slice_index (set up x (halfway up x)) y) ≡ top up y
    along y = elim (cases_eq y x) [
      | inl e ↦ rw (e, get_or-set_same up x (halfway up x) 0 lt) (top_above up h (slice_index up x) ∙ top_above up h x)
      | inr ne ↦ rw (get_or-set_other up x y (halfway up x) 0 ne) (top_above up h y)
    ]

    at : (y : ℕ) → slice_index (set up x (halfway up x)) y ≡ y → top up y ≡ y
    at y is = elim (cases_eq y x) [
      | inl e ↦ (let here : slice_index (set up x (halfway up x)) y ≡ halfway up x = rw e (get_or-set_same up x (halfway up x) 0 lt) in
          let self : slice_index up x ≡ x = omega (arith, here, is, e, h x, h (slice_index up x)) in
          top_itself up y (rw e self))
      | inr ne ↦ top_itself up y (sym (get_or-set_other up x y (halfway up x) 0 ne) ∙ is)
    ]

merged_first : (s t : ℕ) → s ≤ t → merged s t s ≡ s
merged_first s t le = grind (arith, nat_tests)

merged_second : (s t : ℕ) → s ≤ t → merged s t t ≡ s
merged_second s t le = grind (arith, nat_tests)

merged_other : (s t r : ℕ) → s ≤ t → r ≢ t → merged s t r ≡ r
merged_other s t r le ne = grind (arith, nat_tests)

pub merged_swap : (s t r : ℕ) → merged s t r ≡ merged t s r
merged_swap s t r = grind (arith, nat_tests)

-- the later top points to the earlier one
pub tops_united : (up : List ℕ) (s t : ℕ) → PointsUp up → slice_index up s ≡ s → slice_index up t ≡ t → s ≤ t → t < length up → (y : ℕ) → top (set up t s) y ≡ merged s t (top up y)
tops_united up s t h top_s top_t le lt = tops_by (set up t s) (points_up-set up t s h le) (λ y. merged s t (top up y)) along at
  where
    along : (y : ℕ) → merged s t (top up (slice_index (set up t s) y)) ≡ merged s t (top up y)
    along y = elim (cases_eq y t) [
      | inl e ↦ rw (e, get_or-set_same up t s 0 lt, top_itself up s top_s, top_itself up t top_t) (merged_first s t le ∙ sym (merged_second s t le))
      | inr ne ↦ rw (get_or-set_other up t y s 0 ne) (ap (merged s t) (top_above up h y))
    ]

    at : (y : ℕ) → slice_index (set up t s) y ≡ y → merged s t (top up y) ≡ y
    at y is = elim (cases_eq y t) [
      | inl e ↦ (let here : slice_index (set up t s) y ≡ s = rw e (get_or-set_same up t s 0 lt) in
          let same : s ≡ t = sym here ∙ (is ∙ e) in
          rw (e, top_itself up t top_t) (merged_second s t le ∙ same))
      | inr ne ↦ rw (top_itself up y (sym (get_or-set_other up t y s 0 ne) ∙ is)) (merged_other s t y le ne)
    ]

pub united_tops : (old up : List ℕ) (x y s t : ℕ) → PointsUp up → ((z : ℕ) → top up z ≡ top old z) → s ≡ top old x → t ≡ top old y → s ≤ t → t < length up → (z : ℕ) → top (set up t s) z ≡ merged (top old x) (top old y) (top old z)
united_tops old up x y s t h same es et le lt z =
    let is_s : top up x ≡ s = same x ∙ sym es in
    let is_t : top up y ≡ t = same y ∙ sym et in
    let top_s : slice_index up s ≡ s = rw is_s at (top_top up h x) in
    let top_t : slice_index up t ≡ t = rw is_t at (top_top up h y) in
    rw (← es, ← et, ← same z) (tops_united up s t h top_s top_t le lt z)
