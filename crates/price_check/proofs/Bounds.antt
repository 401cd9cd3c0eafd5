-- The prices of parts that share no record, put together.
use Rattle.std.proofs.Common.{◌≡◌, ℕ, zero, suc, ◌<◌, ◌≤◌, ℤ, pos, ◌+ℤ◌, ◌≤ℤ◌, Bool, true, false, cond, List, [], ◌∷◌, length, get_or, refl, ap, sym, ◌∙◌, inl, inr, arith, All, AllPairs, Contains, ◌==◌, ◌+◌, ◌-◌, ◌≢◌, ◌⊎◌, map, negsuc, ◌*ℤ◌}
use Rattle.std.proofs.lemmas.Int.{ints, fold-int_max_bounds, fold-int_max_reached}
use Rattle.std.proofs.lemmas.Bool.{cases_eq, cases_lt}
use Rattle.std.proofs.lemmas.Bool.Decides.{nat_tests}
use Rattle.std.proofs.lemmas.List.{get_or_default, get_or-map, length-map, get_or-set_other}
use Rattle.std.proofs.lemmas.List.Elements.{All-head, All-tail, All-cons, All-nil, All-contains, Contains-get_or, All-contains_itself, All-map}
use Rattle.link_base.specs.declared.rule.Candidate.{Candidate}
use Rattle.price_check.specs.Assignment.{price_sum, price_of, worth, IsBefore, SharesNoRecord, IsCovered, IsOneToOne, Certifies, greatest_value, capacity_of, links_at, place_sum}
use Rattle.price_check.specs.Law.{added_prices, prices_together, in_part, AreCertifiedParts}
use Rattle.price_check.specs.PlaceLaws.{IsFloored, IsTight, AllPairs-head, AllPairs-tail, price_sum-without, without, Contains-filter, clash, Contains-later, AreApart, fits-tail, links_at-here, one_less, place_sum-one_less}
use Rattle.price_check.proofs.Order.{price_of-floor, IsTight-from_sums, covered_links, unlinked_a, unlinked_b, IsFloored-without, price_sum-floor}
use Rattle.std.proofs.Math.IntN.{pos-*ℤ-pos}

-- Sums over the parts.

abbrev sum_below : ℕ → (ℕ → ℤ) → ℤ
sum_below zero f = pos 0
sum_below (suc n) f = f n +ℤ sum_below n f

sum_below-add : (n : ℕ) (f g : ℕ → ℤ) → sum_below n (λ p. f p +ℤ g p) ≡ sum_below n f +ℤ sum_below n g
sum_below-add zero f g = omega (arith, ints)
sum_below-add (suc n) f g = omega (arith, ints, sum_below-add n f g)

sum_below-same : (n : ℕ) (f g : ℕ → ℤ) → ((p : ℕ) → p < n → f p ≡ g p) → sum_below n f ≡ sum_below n g
sum_below-same zero f g h = refl
sum_below-same (suc n) f g h = omega (arith, ints, h n (omega arith), sum_below-same n f g (λ p lt. h p (omega arith)))

sum_below-zero : (n : ℕ) → sum_below n (λ p. pos 0) ≡ pos 0
sum_below-zero zero = refl
sum_below-zero (suc n) = omega (arith, ints, sum_below-zero n)

abbrev only_at : ℕ → ℤ → ℕ → ℤ
only_at k v p = cond (k == p) v (pos 0)

sum_past : (n k : ℕ) (v : ℤ) → n ≤ k → sum_below n (only_at k v) ≡ pos 0
sum_past zero k v le = refl
sum_past (suc n) k v le =
    let off : (k == n) ≡ false = grind (arith, nat_tests) in
    rw off (omega (arith, ints, sum_past n k v (omega arith)))

sum_single : (n k : ℕ) (v : ℤ) → k < n → sum_below n (only_at k v) ≡ v
sum_single zero k v lt = absurd (omega arith)
sum_single (suc n) k v lt = elim (cases_eq k n) [
  | inl e ↦ (let on : (k == n) ≡ true = grind (arith, nat_tests) in rw on (omega (arith, ints, sum_past n k v (omega (arith, e)))))
  | inr ne ↦ (let off : (k == n) ≡ false = grind (arith, nat_tests) in rw off (omega (arith, ints, sum_single n k v (omega arith))))
]

worth_head : (c : Candidate) (rest : List Candidate) (b : Bool) → worth (cond b (c ∷ rest) rest) ≡ cond b c.value (pos 0) +ℤ worth rest
worth_head c rest true = refl
worth_head c rest false = omega (arith, ints)

worth_parts : (part : Candidate → ℕ) (n : ℕ) (cs : List Candidate) → All (λ c. part c < n) cs → sum_below n (λ p. worth (in_part part p cs)) ≡ worth cs
worth_parts part n [] h = sum_below-zero n
worth_parts part n (c ∷ cs) h =
    let each : sum_below n (λ p. worth (in_part part p (c ∷ cs))) ≡ sum_below n (λ p. only_at (part c) c.value p +ℤ worth (in_part part p cs)) = sum_below-same n _ _ (λ p lt. worth_head c (in_part part p cs) (part c == p)) in
    let split = sum_below-add n (only_at (part c) c.value) (λ p. worth (in_part part p cs)) in
    let one = sum_single n (part c) c.value (All-head (λ c. part c < n) c cs h) in
    let rest = worth_parts part n cs (All-tail (λ c. part c < n) c cs h) in
    each ∙ (split ∙ omega (arith, ints, one, rest))

-- Prices added record by record.

price_sum-added : (ps qs : List ℤ) → price_sum (added_prices ps qs) ≡ price_sum ps +ℤ price_sum qs
price_sum-added [] qs = omega (arith, ints)
price_sum-added (p ∷ ps) [] = omega (arith, ints)
price_sum-added (p ∷ ps) (q ∷ qs) = omega (arith, ints, price_sum-added ps qs)

price_of-added : (ps qs : List ℤ) (position : ℕ) → price_of (added_prices ps qs) position ≡ price_of ps position +ℤ price_of qs position
price_of-added [] qs position = omega (arith, ints)
price_of-added (p ∷ ps) [] position = omega (arith, ints)
price_of-added (p ∷ ps) (q ∷ qs) zero = refl
price_of-added (p ∷ ps) (q ∷ qs) (suc position) = price_of-added ps qs position

floored-added : (ps qs : List ℤ) → IsFloored ps → IsFloored qs → IsFloored (added_prices ps qs)
floored-added [] qs fp fq = fq
floored-added (p ∷ ps) [] fp fq = fp
floored-added (p ∷ ps) (q ∷ qs) fp fq =
    All-cons (λ p. pos 0 ≤ℤ p) (p +ℤ q) (added_prices ps qs)
    (omega (arith, ints, All-head (λ p. pos 0 ≤ℤ p) p ps fp, All-head (λ p. pos 0 ≤ℤ p) q qs fq))
    (floored-added ps qs (All-tail (λ p. pos 0 ≤ℤ p) p ps fp) (All-tail (λ p. pos 0 ≤ℤ p) q qs fq))

price_sum-together : (n : ℕ) (prices : ℕ → List ℤ) → price_sum (prices_together n prices) ≡ sum_below n (λ p. price_sum (prices p))
price_sum-together zero prices = refl
price_sum-together (suc n) prices = omega (arith, ints, price_sum-added (prices n) (prices_together n prices), price_sum-together n prices)

floored-together : (n : ℕ) (prices : ℕ → List ℤ) → ((p : ℕ) → p < n → IsFloored (prices p)) → IsFloored (prices_together n prices)
floored-together zero prices h = All-nil (λ p. pos 0 ≤ℤ p)
floored-together (suc n) prices h = floored-added (prices n) (prices_together n prices) (h n (omega arith)) (floored-together n prices (λ p lt. h p (omega arith)))

-- a record costs together at least what it costs in one part
price_of-together : (n : ℕ) (prices : ℕ → List ℤ) (p position : ℕ) → ((p : ℕ) → p < n → IsFloored (prices p)) → p < n → price_of (prices p) position ≤ℤ price_of (prices_together n prices) position
price_of-together zero prices p position h lt = absurd (omega arith)
price_of-together (suc n) prices p position h lt =
    let both = price_of-added (prices n) (prices_together n prices) position in
    let more : (p : ℕ) → p < n → IsFloored (prices p) = λ p lt. h p (omega arith) in
    elim (cases_eq p n) [
      | inl e ↦ rw e (omega (arith, ints, both, price_of-floor (prices_together n prices) position (floored-together n prices more)))
      | inr ne ↦ omega (arith, ints, both, price_of-floor (prices n) position (h n (omega arith)), price_of-together n prices p position more (omega arith))
    ]

-- Members of a part.

in_part-of : (part : Candidate → ℕ) (p : ℕ) (cs : List Candidate) (c : Candidate) → Contains cs c → part c ≡ p → Contains (in_part part p cs) c
in_part-of part p cs c inside e = Contains-filter (λ (c : Candidate). part c == p) cs c inside (grind (arith, nat_tests))

pair_apart : (u v x y : Candidate) → u ≡ x → v ≡ y → SharesNoRecord u v → SharesNoRecord x y
pair_apart u v x y eu ev h = (λ e. h.0 (ap (λ (c : Candidate). c.a) eu ∙ (e ∙ sym (ap (λ (c : Candidate). c.a) ev))), λ e. h.1 (ap (λ (c : Candidate). c.b) eu ∙ (e ∙ sym (ap (λ (c : Candidate). c.b) ev))))

turned : (x y : Candidate) → SharesNoRecord y x → SharesNoRecord x y
turned x y h = (λ e. h.0 (sym e), λ e. h.1 (sym e))

members_apart : (ms : List Candidate) (x y : Candidate) → AllPairs SharesNoRecord ms → Contains ms x → Contains ms y → IsBefore x y → SharesNoRecord x y
members_apart ms x y pairs hx hy before = elim (cases_lt hx.0 hy.0) [
  | inl p ↦ pair_apart (get_or ms hx.0 x) (get_or ms hy.0 x) x y hx.2 (get_or_default ms hy.0 x y hy.1 ∙ hy.2) (pairs hx.0 hy.0 x p hy.1)
  | inr p ↦ elim (cases_lt hy.0 hx.0) [
    | inl q ↦ turned x y (pair_apart (get_or ms hy.0 x) (get_or ms hx.0 x) y x (get_or_default ms hy.0 x y hy.1 ∙ hy.2) hx.2 (pairs hy.0 hx.0 x q hx.1))
    | inr q ↦ (let at : hx.0 ≡ hy.0 = omega arith in let same : x ≡ y = sym hx.2 ∙ (ap (λ n. get_or ms n x) at ∙ (get_or_default ms hy.0 x y hy.1 ∙ hy.2)) in absurd (clash x y before (ap (λ (c : Candidate). c.a) same) (ap (λ (c : Candidate). c.b) same)))
  ]
]

module _ (candidates links : List Candidate) (part : Candidate → ℕ) (n : ℕ) (pa pb : ℕ → List ℤ) (among : All (Contains candidates) links) (rising : AllPairs IsBefore links) (h : AreCertifiedParts candidates links part n pa pb) where
  links_below : All (λ c. part c < n) links
  links_below = λ k d lt. All-contains (λ c. part c < n) candidates (get_or links k d) h.apart.below (among k d lt)

  floors_a : (p : ℕ) → p < n → IsFloored (pa p)
  floors_a p lt = (h.certified p lt).floor_a

  floors_b : (p : ℕ) → p < n → IsFloored (pb p)
  floors_b p lt = (h.certified p lt).floor_b

  two_apart : (x y : Candidate) → Contains links x → Contains links y → Contains candidates x → Contains candidates y → part x < n → IsBefore x y → SharesNoRecord x y
  two_apart x y lx ly cx cy lt before = elim (cases_eq (part x) (part y)) [
    | inl e ↦ members_apart (in_part part (part x) links) x y (h.one_to_one (part x) lt).apart (in_part-of part (part x) links x lx refl) (in_part-of part (part x) links y ly (sym e)) before
    | inr ne ↦ h.apart.apart x y cx cy ne
  ]

  pub together_one_to_one : IsOneToOne candidates links
  together_one_to_one = record {
    among = among;
    rising = rising;
    apart = λ i j d lt m.
        let ltn : i < length links = omega arith in
        two_apart (get_or links i d) (get_or links j d) (Contains-get_or links i d ltn) (Contains-get_or links j d m) (among i d ltn) (among j d m) (links_below i d ltn) (rising i j d lt m);
  }

  covered_by_part : (c : Candidate) → Contains candidates c → part c < n → IsCovered (prices_together n pa) (prices_together n pb) c
  covered_by_part c inside lt =
      let here : IsCovered (pa (part c)) (pb (part c)) c = All-contains (IsCovered (pa (part c)) (pb (part c))) (in_part part (part c) candidates) c (h.certified (part c) lt).covered (in_part-of part (part c) candidates c inside refl) in
      omega (arith, ints, here, price_of-together n pa (part c) c.a floors_a lt, price_of-together n pb (part c) c.b floors_b lt)

  pub together_certifies : Certifies candidates links (prices_together n pa) (prices_together n pb)
  together_certifies = record {
    floor_a = floored-together n pa floors_a;
    floor_b = floored-together n pb floors_b;
    covered = λ k d lt. covered_by_part (get_or candidates k d) (Contains-get_or candidates k d lt) (h.apart.below k d lt);
    balanced =
        let sums = sum_below-add n (λ p. price_sum (pa p)) (λ p. price_sum (pb p)) in
        let each = sum_below-same n (λ p. price_sum (pa p) +ℤ price_sum (pb p)) (λ p. worth (in_part part p links)) (λ p lt. (h.certified p lt).balanced) in
        omega (arith, ints, price_sum-together n pa, price_sum-together n pb, sums, each, worth_parts part n links links_below);
  }

-- Neighbours that rise make a rising list.

before_on : (x y z : Candidate) → IsBefore x y → IsBefore y z → IsBefore x z
before_on x y z (inl p) (inl q) = inl (omega (arith, p, q))
before_on x y z (inl p) (inr q) = inl (omega (arith, p, q.0))
before_on x y z (inr p) (inl q) = inl (omega (arith, p.0, q))
before_on x y z (inr p) (inr q) = inr (omega (arith, p.0, q.0), omega (arith, p.1, q.1))

pub rising_more : (cs : List Candidate) (d : Candidate) (k : ℕ) → 1 ≤ k → ((i j : ℕ) → i < j → j < k → IsBefore (get_or cs i d) (get_or cs j d)) → IsBefore (get_or cs (k - 1) d) (get_or cs k d) → (i j : ℕ) → i < j → j < k + 1 → IsBefore (get_or cs i d) (get_or cs j d)
rising_more cs d k some h here i j lt within = elim (cases_eq j k) [
  | inl e ↦ rw e (elim (cases_eq i (k - 1)) [
    | inl q ↦ rw q here
    | inr ne ↦ before_on (get_or cs i d) (get_or cs (k - 1) d) (get_or cs k d) (h i (k - 1) (omega arith) (omega arith)) here
  ])
  | inr ne ↦ h i j lt (omega arith)
]

pub rising_at : (cs : List Candidate) (d : Candidate) → ((i j : ℕ) → i < j → j < length cs → IsBefore (get_or cs i d) (get_or cs j d)) → AllPairs IsBefore cs
rising_at cs d h i j e lt within = alike (get_or cs i d) (get_or cs j d) (get_or cs i e) (get_or cs j e) (get_or_default cs i d e (omega arith)) (get_or_default cs j d e within) (h i j lt within)
  where
    alike : (u v x y : Candidate) → u ≡ x → v ≡ y → IsBefore u v → IsBefore x y
    alike u v x y eu ev b = rw (← eu, ← ev) b

-- No price of a certificate is above the greatest of 0 and the values.

greatest_value-floor : (cs : List Candidate) → pos 0 ≤ℤ greatest_value cs
greatest_value-floor cs = (fold-int_max_bounds (pos 0) (map (λ (c : Candidate). c.value) cs) (greatest_value cs) refl).0

value_bounded : (cs : List Candidate) (c : Candidate) → Contains cs c → c.value ≤ℤ greatest_value cs
value_bounded cs c h =
    let bounds = (fold-int_max_bounds (pos 0) (map (λ (c : Candidate). c.value) cs) (greatest_value cs) refl).1 in
    let here = bounds h.0 c.value (rw length-map h.1) in
    let is : (get_or cs h.0 c).value ≡ c.value = rw h.2 refl in
    omega (arith, ints, here, get_or-map (λ (c : Candidate). c.value) cs h.0 c c.value h.1, is)

pub greatest_value-least : (candidates links : List Candidate) (most : ℤ) → All (Contains candidates) links → pos 0 ≤ℤ most → All (λ c. c.value ≤ℤ most) candidates → greatest_value links ≤ℤ most
greatest_value-least candidates links most among floor bounded =
    let small : All (λ v. v ≤ℤ most) (map (λ (c : Candidate). c.value) links) = All-map (λ v. v ≤ℤ most) (λ (c : Candidate). c.value) links (λ k d lt. All-contains (λ (c : Candidate). c.value ≤ℤ most) candidates (get_or links k d) bounded (among k d lt)) in
    elim (fold-int_max_reached (pos 0) (map (λ (c : Candidate). c.value) links) (greatest_value links) refl) [
      | inl e ↦ omega (arith, ints, e, floor)
      | inr h ↦ All-contains (λ v. v ≤ℤ most) (map (λ (c : Candidate). c.value) links) (greatest_value links) small h
    ]

-- a record stands in a link or in none
with_record : (f : Candidate → ℕ) (position : ℕ) (links : List Candidate) → All (λ c. f c ≢ position) links ⊎ ((c : Candidate) × (Contains links c × (f c ≡ position)))
with_record f position [] = inl (All-nil (λ c. f c ≢ position))
with_record f position (c ∷ cs) = elim (cases_eq (f c) position) [
  | inl e ↦ inr (c, ((zero, omega arith, refl), e))
  | inr ne ↦ elim (with_record f position cs) [
    | inl none ↦ inl (All-cons (λ c. f c ≢ position) c cs ne none)
    | inr p ↦ inr (p.0, (Contains-later c cs p.0 p.1.0, p.1.1))
  ]
]

bounded_a : (links : List Candidate) (ps qs : List ℤ) (position : ℕ) → IsFloored qs → All (IsTight ps qs) links → (All (λ c. c.a ≢ position) links → price_of ps position ≡ pos 0) → price_of ps position ≤ℤ greatest_value links
bounded_a links ps qs position fq tight free = elim (with_record (λ c. c.a) position links) [
  | inl none ↦ omega (arith, ints, free none, greatest_value-floor links)
  | inr p ↦ rw (← p.1.1) (omega (arith, ints, All-contains (IsTight ps qs) links p.0 tight p.1.0, price_of-floor qs p.0.b fq, value_bounded links p.0 p.1.0))
]

bounded_b : (links : List Candidate) (ps qs : List ℤ) (position : ℕ) → IsFloored ps → All (IsTight ps qs) links → (All (λ c. c.b ≢ position) links → price_of qs position ≡ pos 0) → price_of qs position ≤ℤ greatest_value links
bounded_b links ps qs position fp tight free = elim (with_record (λ c. c.b) position links) [
  | inl none ↦ omega (arith, ints, free none, greatest_value-floor links)
  | inr p ↦ rw (← p.1.1) (omega (arith, ints, All-contains (IsTight ps qs) links p.0 tight p.1.0, price_of-floor ps p.0.a fp, value_bounded links p.0 p.1.0))
]

pub bounded_by_links : (candidates links : List Candidate) (ps qs : List ℤ) → IsOneToOne candidates links → Certifies candidates links ps qs → (position : ℕ) → (price_of ps position ≤ℤ greatest_value links) × (price_of qs position ≤ℤ greatest_value links)
bounded_by_links candidates links ps qs one cert position =
    let covered = covered_links candidates links ps qs one.among cert.covered in
    let tight = IsTight-from_sums links ps qs cert.floor_a cert.floor_b one.apart covered (omega (arith, ints, cert.balanced)) in (
      bounded_a links ps qs position cert.floor_b tight (unlinked_a links ps qs position cert.floor_a cert.floor_b one.apart covered (omega (arith, ints, cert.balanced))),
      bounded_b links ps qs position cert.floor_a tight (unlinked_b links ps qs position cert.floor_a cert.floor_b one.apart covered (omega (arith, ints, cert.balanced))),
    )

pub bounded_by_candidates : (candidates links : List Candidate) (ps qs : List ℤ) → IsOneToOne candidates links → Certifies candidates links ps qs → (position : ℕ) → (price_of ps position ≤ℤ greatest_value candidates) × (price_of qs position ≤ℤ greatest_value candidates)
bounded_by_candidates candidates links ps qs one cert position =
    let by_links = bounded_by_links candidates links ps qs one cert position in
    let fewer = greatest_value-least candidates links (greatest_value candidates) one.among (greatest_value-floor candidates) (λ k d lt. value_bounded candidates (get_or candidates k d) (All-contains_itself candidates k d lt)) in
    (omega (arith, ints, by_links.0, fewer), omega (arith, ints, by_links.1, fewer))

-- Weak duality with capacities: prices that cover a list within capacities add up to at least its worth.

product-floor : (n : ℕ) (q : ℤ) → pos 0 ≤ℤ q → pos 0 ≤ℤ (pos n *ℤ q)
product-floor n (pos m) h = rw (pos-*ℤ-pos n m) (omega (arith, ints))
product-floor n (negsuc m) h = absurd (omega (arith, ints))

pub place_sum-floor : (capacities : List ℕ) (prices : List ℤ) → IsFloored prices → pos 0 ≤ℤ place_sum capacities prices
place_sum-floor [] prices h = omega (arith, ints)
place_sum-floor (n ∷ ns) [] h = omega (arith, ints)
place_sum-floor (n ∷ ns) (q ∷ qs) h =
    let e = product-floor n q (All-head (λ p. pos 0 ≤ℤ p) q qs h) in
    let f = place_sum-floor ns qs (All-tail (λ p. pos 0 ≤ℤ p) q qs h) in
    omega (arith, ints, e, f)

-- members of other records of A keep their prices
pub IsCovered-without_a : (ps qs : List ℤ) (c : Candidate) (cs : List Candidate) → All (λ x. c.a ≢ x.a) cs → All (IsCovered ps qs) cs → All (IsCovered (without ps c.a) qs) cs
IsCovered-without_a ps qs c cs apart covered = λ k d l.
    let x : Candidate = get_or cs k d in
    let na : x.a ≢ c.a = λ e. apart k d l (sym e) in
    rw (get_or-set_other ps c.a x.a (pos 0) (pos 0) na) (covered k d l)

pub worth-le-place_sum : (links : List Candidate) (capacities : List ℕ) (ps qs : List ℤ) → IsFloored ps → IsFloored qs → AreApart links → ((b : ℕ) → links_at b links ≤ capacity_of capacities b) → All (IsCovered ps qs) links → worth links ≤ℤ (price_sum ps +ℤ place_sum capacities qs)
worth-le-place_sum [] capacities ps qs fa fb apart fits covered = omega (arith, ints, price_sum-floor ps fa, place_sum-floor capacities qs fb)
worth-le-place_sum (c ∷ cs) capacities ps qs fa fb apart fits covered =
    let head = AllPairs-head (λ (x y : Candidate). x.a ≢ y.a) c cs apart in
    let rest = worth-le-place_sum cs (one_less capacities c.b) (without ps c.a) qs (IsFloored-without ps c.a fa) fb (AllPairs-tail (λ (x y : Candidate). x.a ≢ y.a) c cs apart) (fits-tail capacities c cs fits) (IsCovered-without_a ps qs c cs head (All-tail (IsCovered ps qs) c cs covered)) in
    let some : 0 < capacity_of capacities c.b = omega (arith, links_at-here c.b c cs refl, fits c.b) in
    omega (arith, ints, rest, All-head (IsCovered ps qs) c cs covered, price_sum-without ps c.a, place_sum-one_less capacities qs c.b some)
