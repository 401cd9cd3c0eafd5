-- From links, seats and tight prices to a greatest list within capacities with a certificate.
use Rattle.std.proofs.Common.{◌≡◌, ◌≢◌, ◌⊎◌, ◌==◌, ℕ, zero, suc, ◌+◌, ◌-◌, ◌<◌, ◌≤◌, ℤ, pos, ◌+ℤ◌, List, [], ◌∷◌, length, get_or, set, Option, Some, None, true, false, filter, refl, ap, sym, ◌∙◌, inl, inr, arith, replicate, All, AllPairs, Contains, is_none, ◌++◌}
use Rattle.std.proofs.lemmas.List.Sums.{count_by-le-length}
use Rattle.std.proofs.lemmas.Bool.{cases_eq, cases_lt}
use Rattle.std.proofs.lemmas.Bool.Decides.{nat_tests}
use Rattle.std.proofs.lemmas.Int.{ints}
use Rattle.std.proofs.lemmas.List.{get_or-set_other, get_or-set_same, length-replicate, get_or_push, get_or_append_left, length-append}
use Rattle.std.proofs.lemmas.List.Elements.{All-head, All-tail, All-cons, All-nil, All-contains}
use Rattle.link_base.specs.declared.rule.Candidate.{Candidate}
use Rattle.price_check.specs.Assignment.{price_sum, price_of, worth, IsBefore, CertifiesWithin, IsWithinCapacities, capacity_of, links_at, place_sum}
use Rattle.price_check.specs.PlaceLaws.{without, absent-without, IsTight, price_sum-without, price_sum-zero, AllPairs-head, AllPairs-tail, Contains-later, AreApart, fits-tail, links_at-here, links_at-other, one_less, place_sum-one_less, place_there}
use Rattle.assignment_steps.specs.declared.market.Edge.{Edge}
use Rattle.assignment_steps.specs.Words.{edge, link, number, IsInRange, IsStart, ReachAll, edges_of, is_linked, prices_of, link_there, link-set, none_linked, floored, price_of-prices, absent_a, all_among, all_covered, all_tight, apart_a, link_member, links_rising, member_link}
use Rattle.capacity_assign.specs.Seating.{linked_at, HasPlace, Seating, free_records, AreAlike, AreEqual, HasCopies}
use Rattle.capacity_assign.specs.Round.{IsBetweenRounds}
use Rattle.capacity_assign.specs.Prepared.{AreClosed, AreEmpty}
use Rattle.capacity_assign.proofs.Links.{counted_link, linked_at-set, tick}

-- Tight members, no price where no member stands, and none at a record of B with a place left: the prices add up
-- to the worth.

tight-without_a : (ps qs : List ℤ) (c : Candidate) (cs : List Candidate) → All (λ x. c.a ≢ x.a) cs → All (IsTight ps qs) cs → All (IsTight (without ps c.a) qs) cs
tight-without_a ps qs c cs apart tight = λ k d l.
    let x : Candidate = get_or cs k d in
    let na : x.a ≢ c.a = λ e. apart k d l (sym e) in
    rw (get_or-set_other ps c.a x.a (pos 0) (pos 0) na) (tight k d l)

place_sum-none : (capacities : List ℕ) (qs : List ℤ) → ((b : ℕ) → (price_of qs b ≡ pos 0) ⊎ (capacity_of capacities b ≡ 0)) → place_sum capacities qs ≡ pos 0
place_sum-none [] qs h = refl
place_sum-none (n ∷ ns) [] h = refl
place_sum-none (n ∷ ns) (q ∷ qs) h =
    let rest = place_sum-none ns qs (λ b. h (suc b)) in
    elim (h zero) [
      | inl e ↦ (let q0 : q ≡ pos 0 = e in rw q0 (omega (arith, ints, rest)))
      | inr e ↦ (let n0 : n ≡ 0 = e in rw n0 (omega (arith, ints, rest)))
    ]

filled-tail : (capacities : List ℕ) (qs : List ℤ) (c : Candidate) (cs : List Candidate) → 0 < capacity_of capacities c.b → ((b : ℕ) → (price_of qs b ≡ pos 0) ⊎ (links_at b (c ∷ cs) ≡ capacity_of capacities b)) → (b : ℕ) → (price_of qs b ≡ pos 0) ⊎ (links_at b cs ≡ capacity_of (one_less capacities c.b) b)
filled-tail capacities qs c cs some h b = elim (h b) [
  | inl e ↦ inl e
  | inr e ↦ inr (elim (cases_eq c.b b) [
    | inl q ↦
        (let same : capacity_of (one_less capacities c.b) b ≡ capacity_of capacities c.b - 1 = rw (← q) (get_or-set_same capacities c.b (capacity_of capacities c.b - 1) 0 (place_there capacities c.b some)) in
        let at : capacity_of capacities c.b ≡ capacity_of capacities b = ap (capacity_of capacities) q in
        omega (arith, same, at, e, links_at-here b c cs q))
    | inr n ↦
        (let keeps : capacity_of (one_less capacities c.b) b ≡ capacity_of capacities b = get_or-set_other capacities c.b b (capacity_of capacities c.b - 1) 0 (λ q. n (sym q)) in
        omega (arith, keeps, e, links_at-other b c cs n))
  ])
]

pub sums_from_tight : (links : List Candidate) (capacities : List ℕ) (ps qs : List ℤ) → AreApart links → ((b : ℕ) → links_at b links ≤ capacity_of capacities b) → All (IsTight ps qs) links → ((position : ℕ) → All (λ c. c.a ≢ position) links → price_of ps position ≡ pos 0) → ((b : ℕ) → (price_of qs b ≡ pos 0) ⊎ (links_at b links ≡ capacity_of capacities b)) → (price_sum ps +ℤ place_sum capacities qs) ≡ worth links
sums_from_tight [] capacities ps qs apart fits tight none filled =
    omega (arith, ints, price_sum-zero ps (λ position. none position (All-nil (λ c. c.a ≢ position))), place_sum-none capacities qs (λ b. elim (filled b) [ inl e ↦ inl e | inr e ↦ inr (sym e) ]))
sums_from_tight (c ∷ cs) capacities ps qs apart fits tight none filled =
    let some : 0 < capacity_of capacities c.b = omega (arith, links_at-here c.b c cs refl, fits c.b) in
    let head = AllPairs-head (λ (x y : Candidate). x.a ≢ y.a) c cs apart in
    let rest = sums_from_tight cs (one_less capacities c.b) (without ps c.a) qs (AllPairs-tail (λ (x y : Candidate). x.a ≢ y.a) c cs apart) (fits-tail capacities c cs fits) (tight-without_a ps qs c cs head (All-tail (IsTight ps qs) c cs tight))
    (λ position absent. absent-without ps c.a position (λ n. none position (All-cons (λ d. d.a ≢ position) c cs (λ e. n (sym e)) absent)))
    (filled-tail capacities qs c cs some filled) in
    omega (arith, ints, rest, All-head (IsTight ps qs) c cs tight, price_sum-without ps c.a, place_sum-one_less capacities qs c.b some)

-- The links of a list are those of its records of A.

-- the links that are counted at a record of B are the members that stand there
pub counted_members : (es : List Edge) (links : List Candidate) (la : List (Option ℕ)) (b : ℕ) → AreApart links → ((c : Candidate) → Contains links c → (k : ℕ) × ((link la c.a ≡ Some k) × ((edge es k).b ≡ c.b))) → ((a k : ℕ) → link la a ≡ Some k → (c : Candidate) × (Contains links c × (c.a ≡ a))) → linked_at es la b ≡ links_at b links
counted_members es [] la b apart of_member of_link = none_counted la (λ a k on. (let m = of_link a k on in omega (arith, m.1.0.1)))
  where
    none_counted : (la : List (Option ℕ)) → ((a k : ℕ) → link la a ≡ Some k → ⊥) → linked_at es la b ≡ 0
    none_counted la none = elim (cases_lt 0 (linked_at es la b)) [
      | inl some ↦ (let p = counted_link es la b some in absurd (none p.0 p.1.0 p.1.1.0))
      | inr zero' ↦ omega arith
    ]
counted_members es (c ∷ cs) la b apart of_member of_link =
    let mine = of_member c (zero, omega arith, refl) in
    let k = mine.0 in
    let there = link_there la c.a k mine.1.0 in
    let head = AllPairs-head (λ (x y : Candidate). x.a ≢ y.a) c cs apart in
    let other : (d : Candidate) → Contains cs d → d.a ≢ c.a = λ d inside e. All-contains (λ (x : Candidate). c.a ≢ x.a) cs d head inside (sym e) in
    let rest = counted_members es cs (set la c.a None) b (AllPairs-tail (λ (x y : Candidate). x.a ≢ y.a) c cs apart)
    (λ d inside. (let m = of_member d (Contains-later c cs d inside) in (m.0, (get_or-set_other la c.a d.a None None (other d inside) ∙ m.1.0, m.1.1))))
    (λ a j on. elim (link-set la c.a a None there) [
      | inl p ↦ absurd (let clash : None ≡ Some j = sym p.1 ∙ on in cc)
      | inr p ↦ (let m = of_link a j (sym p.1 ∙ on) in (m.0, (of_rest c cs m.0 m.1.0 (λ e. p.0 (sym m.1.1 ∙ ap (λ (x : Candidate). x.a) e)), m.1.1)))
    ]) in
    let less : linked_at es (set la c.a None) b + tick ((edge es k).b == b) ≡ linked_at es la b + 0 = rw mine.1.0 at (linked_at-set es la c.a None b there) in
    elim (cases_eq c.b b) [
      | inl e ↦ (let on : tick ((edge es k).b == b) ≡ 1 = (let yes : ((edge es k).b == b) ≡ true = grind (arith, nat_tests, mine.1.1) in rw yes refl) in omega (arith, rest, less, on, links_at-here b c cs e))
      | inr n ↦ (let off : tick ((edge es k).b == b) ≡ 0 = (let no : ((edge es k).b == b) ≡ false = grind (arith, nat_tests, mine.1.1) in rw no refl) in omega (arith, rest, less, off, links_at-other b c cs n))
    ]
  where
    of_rest : (c : Candidate) (cs : List Candidate) (d : Candidate) → Contains (c ∷ cs) d → d ≢ c → Contains cs d
    of_rest c cs d h ne = at h.0 h.1 h.2
      where
        at : (k : ℕ) → k < length (c ∷ cs) → get_or (c ∷ cs) k d ≡ d → Contains cs d
        at zero lt e = absurd (ne (sym e))
        at (suc k) lt e = (k, omega arith, e)

module _ (cs : List Candidate) (capacities pa pb : List ℕ) (la : List (Option ℕ)) (s : Seating) (rising : AllPairs IsBefore cs) (w : IsBetweenRounds (edges_of cs) pa pb la s (length pa)) (places : (b : ℕ) → number s.left b + linked_at (edges_of cs) la b ≡ capacity_of capacities b) where
  abbrev es : List Edge
  es = edges_of cs

  abbrev links : List Candidate
  links = filter (is_linked es la) cs

  apart : AreApart links
  apart = apart_a cs pa pb la (HasPlace s.left) rising w.priced

  counted : (b : ℕ) → linked_at es la b ≡ links_at b links
  counted b = counted_members es links la b apart
      (λ c inside. (let h = member_link cs pa pb la (HasPlace s.left) rising w.priced c inside in (h.0, (h.1.on, h.1.record_b))))
      (λ a k on. (let m = link_member cs pa pb la (HasPlace s.left) rising w.priced a k on in (m.0, (m.1.0, m.1.1))))

  filled : (b : ℕ) → (price_of (prices_of pb) b ≡ pos 0) ⊎ (links_at b links ≡ capacity_of capacities b)
  filled b = elim (cases_lt 0 (number s.left b)) [
    | inl some ↦ inl (price_of-prices pb b ∙ ap pos (w.priced.free_b b some))
    | inr full ↦ inr (omega (arith, full, places b, counted b))
  ]

  pub within : IsWithinCapacities cs capacities links
  within = record {
    among = all_among cs pa pb la (HasPlace s.left) rising w.priced;
    rising = links_rising cs pa pb la (HasPlace s.left) rising w.priced;
    apart = apart;
    fits = λ b. omega (arith, places b, counted b);
  }

  pub certifies : CertifiesWithin cs capacities links (prices_of pa) (prices_of pb)
  certifies = record {
    floor_a = floored pa;
    floor_b = floored pb;
    covered = all_covered cs pa pb la (HasPlace s.left) rising w.priced;
    balanced = sums_from_tight links capacities (prices_of pa) (prices_of pb) apart (λ b. within.fits b) (all_tight cs pa pb la (HasPlace s.left) rising w.priced) (absent_a cs pa pb la (HasPlace s.left) rising w.priced) filled;
  }

-- What holds before the first round.

none_at : (es : List Edge) (n b : ℕ) → linked_at es (replicate n None) b ≡ 0
none_at es n b = elim (cases_lt 0 (linked_at es (replicate n None) b)) [
  | inl some ↦ (let p = counted_link es (replicate n None) b some in absurd (let none = none_linked n p.0 in let on = p.1.1.0 in cc))
  | inr none ↦ omega arith
]

pub between_first : (cs : List Candidate) (rows_a : ℕ) (capacities pa pb : List ℕ) (s : Seating) → IsInRange (edges_of cs) rows_a (length capacities) → AreClosed (edges_of cs) capacities pb → ReachAll (edges_of cs) rows_a pa pb → AreEmpty rows_a capacities s → IsBetweenRounds (edges_of cs) pa pb (replicate rows_a None) s 0
between_first cs rows_a capacities pa pb s range closed r empty = record {
  priced = record {
    rows_a = length-replicate rows_a None ∙ sym r.records;
    in_range = rw (r.records, closed.records) range;
    covered = r.covered;
    small_a = r.small;
    small_b = closed.small;
    linked = λ a k h. absurd (let none = none_linked rows_a a in cc);
    tight = λ k h. absurd (let none = none_linked rows_a (edge (edges_of cs) k).a in cc);
    free_a = λ a lt none. absurd (omega (arith, lt));
    free_b = λ b some. closed.vacant b (rw empty.left at some);
  };
  rows_b = rw empty.left (sym closed.records);
  seated = record {
    seats = empty.seats ∙ sym (length-replicate rows_a None);
    sitters = empty.sitters ∙ sym (length-replicate rows_a None);
    owners = empty.owners ∙ sym (length-replicate rows_a None);
    earliers = empty.earliers ∙ sym (length-replicate rows_a None);
    lasts = rw (empty.lasts, empty.left) (length-replicate (length capacities) None);
    room = rw empty.count (omega (arith, few (replicate rows_a None)));
    seated = λ a k h. absurd (let none = none_linked rows_a a in cc);
    filled = λ n lt. absurd (omega (arith, lt, empty.count));
    chains = record {
      last = λ b. rw (empty.lasts, empty.count, none_linked (length capacities) b) (λ m lt e. omega (arith, lt));
      earlier = λ n lt. absurd (omega (arith, lt, empty.count));
    };
  };
  closed = λ b k full lt ends.
      let none : capacity_of capacities (edge (edges_of cs) k).b ≡ 0 = rw (ends, ← empty.left) (omega (arith, full)) in
      rw (← ends) (closed.covered k lt none);
}
  where
    few : (la : List (Option ℕ)) → free_records la ≤ length la
    few la = count_by-le-length is_none la

pub places_first : (cs : List Candidate) (rows_a : ℕ) (capacities : List ℕ) (s : Seating) (b : ℕ) → AreEmpty rows_a capacities s → number s.left b + linked_at (edges_of cs) (replicate rows_a None) b ≡ capacity_of capacities b
places_first cs rows_a capacities s b empty = (let left : number s.left b ≡ capacity_of capacities b = ap (λ n. number n b) empty.left in omega (arith, left, none_at (edges_of cs) rows_a b))

-- Records of A of equal edges.

-- the edges of a record of A stand from its start on, and before the next one's
from_start : (es : List Edge) (a s k : ℕ) → IsStart es a s → (edge es k).a ≡ a → s ≤ k
from_start es a s k h is = elim (cases_lt k s) [ inl low ↦ absurd (omega (arith, h.below k low, is)) | inr high ↦ omega (arith, high) ]

before_next : (es : List Edge) (a e k : ℕ) → IsStart es (a + 1) e → k < length es → (edge es k).a ≡ a → k < e
before_next es a e k h lt is = elim (cases_lt k e) [ inl low ↦ low | inr high ↦ absurd (omega (arith, h.above k (omega (arith, high)) lt, is)) ]

pub starts_rise : (es : List Edge) (a s e : ℕ) → IsStart es a s → IsStart es (a + 1) e → s ≤ e
starts_rise es a s e h next = elim (cases_lt e s) [
  | inl low ↦ absurd (omega (arith, h.below e low, next.above e (omega arith) (omega (arith, low, h.within))))
  | inr high ↦ omega (arith, high)
]

-- of two records of A with as many edges, which are equal one by one, each has copies of the other's
pub copies_of_equal : (es : List Edge) (a r sa ea sr er : ℕ) → IsStart es a sa → IsStart es (a + 1) ea → IsStart es r sr → IsStart es (r + 1) er → er - sr ≡ ea - sa → AreEqual es sa sr (ea - sa) → HasCopies es a r
copies_of_equal es a r sa ea sr er ha na hr nr count equal k lt is =
    let from : sa ≤ k = from_start es a sa k ha is in
    let below : k < ea = before_next es a ea k na lt is in
    let i = k - sa in
    let inside : i < ea - sa = omega (arith, from, below) in
    let place : sr + i < er = omega (arith, inside, count) in
    let there : sr + i < length es = omega (arith, place, nr.within) in
    let back : sa + i ≡ k = omega (arith, from) in
    let same = rw back at (equal i inside) in (
      sr + i,
      record {
        place = there;
        record_a = omega (arith, nr.below (sr + i) place, hr.above (sr + i) (omega arith) there);
        record_b = same.0;
        value = same.1;
      },
    )

pub equal_back : (es : List Edge) (one other count : ℕ) → AreEqual es one other count → AreEqual es other one count
equal_back es one other count h i lt = (sym (h i lt).0, sym (h i lt).1)

-- one more record of A
pub one_more_alike : (es : List Edge) (a r : ℕ) (like : List ℕ) → AreAlike es a like → HasCopies es a r → HasCopies es r a → AreAlike es (a + 1) (like ++ r ∷ [])
one_more_alike es a r like w there back = record {
  records = length-append like (r ∷ []) ∙ omega (arith, w.records);
  there = λ i less. elim (cases_eq i a) [
    | inl same ↦ rw (same, get_or_push like r 0 a w.records) there
    | inr other ↦ (let low : i < a = omega (arith, less, other) in rw (get_or_append_left like (r ∷ []) 0 i (omega (arith, low, w.records))) (w.there i low))
  ];
  back = λ i less. elim (cases_eq i a) [
    | inl same ↦ rw (same, get_or_push like r 0 a w.records) back
    | inr other ↦ (let low : i < a = omega (arith, less, other) in rw (get_or_append_left like (r ∷ []) 0 i (omega (arith, low, w.records))) (w.back i low))
  ];
}
