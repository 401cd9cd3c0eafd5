-- Chains of candidates, and what uniting two places keeps.
use Rattle.std.proofs.Common.{◌≡◌, ◌≢◌, ◌⊎◌, ℕ, zero, suc, ◌<◌, ◌≤◌, ◌+◌, ◌-◌, List, length, set, get_or, refl, ap, sym, ◌∙◌, inl, inr, arith, get_or-set_other, get_or-set_same, AllPairs, Option, None, Some, slice_index}
use Rattle.std.proofs.lemmas.Bool.{cases_eq, cases_lt}
use Rattle.std.proofs.lemmas.Bool.Decides.{nat_tests}
use Rattle.link_base.specs.declared.rule.Candidate.{Candidate}
use Rattle.price_check.specs.Assignment.{IsBefore, no_candidate}
use Rattle.price_check.specs.PartNumbers.{ShareRecord, RecordChain, AreInOnePart, candidate, IsFirstOf, ArePartNumbers}
use Rattle.price_check.specs.Forest.{PointsUp, top, merged, AreUnited, AreLast, IsLast, AreByTop}
use Rattle.price_check.proofs.Tops.{top_low, top_itself, top_top, top_above}
use Rattle.std.proofs.lemmas.List.{get_or_past, length-set}

pub share_turned : (cs : List Candidate) (j k : ℕ) → ShareRecord cs j k → ShareRecord cs k j
share_turned cs j k (inl e) = inl (sym e)
share_turned cs j k (inr e) = inr (sym e)

pub joined_self : (cs : List Candidate) (j : ℕ) → AreInOnePart cs j j
joined_self cs j = (zero, refl)

chain_on : (cs : List Candidate) (n i j k : ℕ) → RecordChain cs n i j → AreInOnePart cs j k → AreInOnePart cs i k
chain_on cs zero i j k e h = rw e h
chain_on cs (suc n) i j k c h = (let rest = chain_on cs n c.0 j k c.1.2 h in (suc rest.0, (c.0, (c.1.0, c.1.1, rest.1))))

pub joined_on : (cs : List Candidate) (i j k : ℕ) → AreInOnePart cs i j → AreInOnePart cs j k → AreInOnePart cs i k
joined_on cs i j k h g = chain_on cs h.0 i j k h.1 g

pub joined_by : (cs : List Candidate) (j k : ℕ) → k < length cs → ShareRecord cs j k → AreInOnePart cs j k
joined_by cs j k lt s = (suc zero, (k, (lt, s, refl)))

chain_turned : (cs : List Candidate) (n i k : ℕ) → i < length cs → RecordChain cs n i k → AreInOnePart cs k i
chain_turned cs zero i k lt e = (zero, sym e)
chain_turned cs (suc n) i k lt c = joined_on cs k c.0 i (chain_turned cs n c.0 k c.1.0 c.1.2) (joined_by cs c.0 i lt (share_turned cs i c.0 c.1.1))

pub joined_turned : (cs : List Candidate) (i k : ℕ) → i < length cs → AreInOnePart cs i k → AreInOnePart cs k i
joined_turned cs i k lt h = chain_turned cs h.0 i k lt h.1

-- The top after two tops are one.

merged_cases : (s t r : ℕ) → (merged s t r ≡ r) ⊎ (((r ≡ s) ⊎ (r ≡ t)) × ((merged s t r ≡ s) ⊎ (merged s t r ≡ t)))
merged_cases s t r = elim (cases_eq r s) [
  | inl e ↦ inr (inl e, either s t r (inl e))
  | inr ne ↦ elim (cases_eq r t) [ inl e ↦ inr (inr e, either s t r (inr e)) | inr ne' ↦ inl (grind (arith, nat_tests)) ]
]
  where
    either : (s t r : ℕ) → (r ≡ s) ⊎ (r ≡ t) → (merged s t r ≡ s) ⊎ (merged s t r ≡ t)
    either s t r (inl e) = elim (cases_lt s t) [ inl lt ↦ inl (grind (arith, nat_tests)) | inr le ↦ inr (grind (arith, nat_tests)) ]
    either s t r (inr e) = elim (cases_lt s t) [ inl lt ↦ inl (grind (arith, nat_tests)) | inr le ↦ inr (grind (arith, nat_tests)) ]

merged_both : (s t : ℕ) → merged s t s ≡ merged s t t
merged_both s t = grind (arith, nat_tests)

module _ (cs : List Candidate) (up up' : List ℕ) (k x y : ℕ) (u : AreUnited cs up k) (lx : x < length cs) (ly : y < length cs) (xy : AreInOnePart cs x y) (count : length up' ≡ length up) (earlier : PointsUp up') (tops : (z : ℕ) → top up' z ≡ merged (top up x) (top up y) (top up z)) where
  low : (z : ℕ) → z < length cs → top up z < length cs
  low z lt = omega (arith, top_low up u.earlier z)

  -- z, whose top is one of the two, is joined to both
  to_x : (z : ℕ) → z < length cs → (top up z ≡ top up x) ⊎ (top up z ≡ top up y) → AreInOnePart cs z x
  to_x z lt (inl e) = joined_on cs z (top up z) x (u.joined z lt) (rw e (joined_turned cs x (top up x) lx (u.joined x lx)))
  to_x z lt (inr e) = joined_on cs z (top up z) x (u.joined z lt) (rw e (joined_on cs (top up y) y x (joined_turned cs y (top up y) ly (u.joined y ly)) (joined_turned cs x y lx xy)))

  to_top : (z r : ℕ) → z < length cs → AreInOnePart cs z x → (r ≡ top up x) ⊎ (r ≡ top up y) → AreInOnePart cs z r
  to_top z r lt h (inl e) = rw e (joined_on cs z x (top up x) h (u.joined x lx))
  to_top z r lt h (inr e) = rw e (joined_on cs z x (top up y) h (joined_on cs x y (top up y) xy (u.joined y ly)))

  joined_after : (z : ℕ) → z < length cs → AreInOnePart cs z (top up' z)
  joined_after z lt = elim (merged_cases (top up x) (top up y) (top up z)) [
    | inl e ↦ rw (tops z, e) (u.joined z lt)
    | inr p ↦ rw (tops z) (to_top z (merged (top up x) (top up y) (top up z)) lt (to_x z lt p.0) p.1)
  ]

  pub kept_after : (i j : ℕ) → top up i ≡ top up j → top up' i ≡ top up' j
  kept_after i j e = tops i ∙ (ap (merged (top up x) (top up y)) e ∙ sym (tops j))

  pub one_after : top up' x ≡ top up' y
  one_after = tops x ∙ (merged_both (top up x) (top up y) ∙ sym (tops y))

  pub united_after : AreUnited cs up' k
  united_after = record {
    count = count ∙ u.count;
    earlier = earlier;
    joined = joined_after;
    shared = λ i j lt ltk s. kept_after i j (u.shared i j lt ltk s);
  }

-- records of A rise
pub record_a_le : (cs : List Candidate) → AllPairs IsBefore cs → (i j : ℕ) → i ≤ j → j < length cs → (candidate cs i).a ≤ (candidate cs j).a
record_a_le cs rising i j le lt = elim (cases_lt i j) [
  | inl below ↦ of_before (candidate cs i) (candidate cs j) (rising i j no_candidate below lt)
  | inr past ↦ (let e : i ≡ j = omega arith in rw e (omega arith))
]
  where
    of_before : (x y : Candidate) → IsBefore x y → x.a ≤ y.a
    of_before x y (inl p) = omega (arith, p)
    of_before x y (inr p) = omega (arith, p.0)

-- the candidate at k has the top of the earlier ones that share its record of A, and of the last that has its record of B
pub united_more : (cs : List Candidate) (up : List ℕ) (k : ℕ) → AreUnited cs up k → ((i : ℕ) → i < k → (candidate cs i).a ≡ (candidate cs k).a → top up i ≡ top up k) → ((i : ℕ) → i < k → (candidate cs i).b ≡ (candidate cs k).b → top up i ≡ top up k) → AreUnited cs up (k + 1)
united_more cs up k u here_a here_b = record {
  count = u.count;
  earlier = u.earlier;
  joined = u.joined;
  shared = λ i j lt ltk s. elim (cases_eq j k) [
    | inl e ↦ rw e (at_k i (omega arith) (rw e at s))
    | inr ne ↦ u.shared i j lt (omega arith) s
  ];
}
  where
    at_k : (i : ℕ) → i < k → ShareRecord cs i k → top up i ≡ top up k
    at_k i lt (inl e) = here_a i lt e
    at_k i lt (inr e) = here_b i lt e

-- each place points to itself at first
pub united_first : (cs : List Candidate) (up : List ℕ) → length up ≡ length cs → ((x : ℕ) → x < length up → slice_index up x ≡ x) → AreUnited cs up 0
united_first cs up count self = record {
  count = count;
  earlier = λ x. elim (cases_lt x (length up)) [ inl lt ↦ omega (arith, self x lt) | inr past ↦ rw (get_or_past up x 0 past) (omega arith) ];
  joined = λ x lt. (let here : slice_index up x ≡ x = self x (omega (arith, count)) in rw (top_itself up x here) (joined_self cs x));
  shared = λ i j low high s. absurd (omega arith);
}

-- the place before has the same record of A, or none before has it
pub same_a_before : (cs : List Candidate) → AllPairs IsBefore cs → (i k : ℕ) → i < k → k < length cs → (candidate cs i).a ≡ (candidate cs k).a → (candidate cs i).a ≡ (candidate cs (k - 1)).a
same_a_before cs rising i k lt within e =
    let low = record_a_le cs rising i (k - 1) (omega arith) (omega arith) in
    let high = record_a_le cs rising (k - 1) k (omega arith) within in
    omega (arith, low, high, e)

-- the last place of a record of B stays where the next candidate has another record
last_later : (cs : List Candidate) (k b : ℕ) (place : Option ℕ) → b ≢ (candidate cs k).b → IsLast cs k b place → IsLast cs (k + 1) b place
last_later cs k b None ne old = λ i lt. elim (cases_eq i k) [
  | inl e ↦ (λ same. ne (sym (rw e at same)))
  | inr other ↦ old i (omega (arith, lt, other))
]
last_later cs k b (Some p) ne old = (
  omega (arith, old.0),
  old.1,
  λ i lt same. elim (cases_eq i k) [
    | inl e ↦ absurd (ne (sym (rw e at same)))
    | inr other ↦ old.2 i (omega (arith, lt, other)) same
  ],
)

-- the last places, one candidate on
pub last_after : (cs : List Candidate) (last : List (Option ℕ)) (k : ℕ) → (candidate cs k).b < length last → AreLast cs last k → AreLast cs (set last (candidate cs k).b (Some k)) (k + 1)
last_after cs last k within old = λ b lt. elim (cases_eq b (candidate cs k).b) [
  | inl e ↦ rw (e, get_or-set_same last (candidate cs k).b (Some k) None within) (omega arith, refl, λ i before same. omega (arith, before))
  | inr ne ↦ rw (get_or-set_other last (candidate cs k).b b (Some k) None ne) (last_later cs k b (get_or last b None) ne (old b (rw length-set at lt)))
]

-- Numbers by the tops are the numbers of the parts.

-- a top takes the next number
pub by_top_first : (up numbers : List ℕ) (i parts : ℕ) → PointsUp up → i < length numbers → slice_index up i ≡ i → AreByTop up numbers i parts → AreByTop up (set numbers i parts) (i + 1) (parts + 1)
by_top_first up numbers i parts h lt top_i n = record {
  same = λ x low. elim (cases_eq x i) [
    | inl e ↦ rw (e, top_itself up i top_i) refl
    | inr ne ↦ (let near = top_low up h x in
        let apart : top up x ≢ i = λ e. (let l : x < i = omega arith in omega (arith, e, near, l)) in
        rw (get_or-set_other numbers i x parts 0 ne, get_or-set_other numbers i (top up x) parts 0 apart) (n.same x (omega arith)))
  ];
  below = λ x low. elim (cases_eq x i) [
    | inl e ↦ rw (e, get_or-set_same numbers i parts 0 lt) (omega arith)
    | inr ne ↦ rw (get_or-set_other numbers i x parts 0 ne) (omega (arith, n.below x (omega arith)))
  ];
  used = λ p low. elim (cases_eq p parts) [
    | inl e ↦ (i, (omega arith, rw e (get_or-set_same numbers i parts 0 lt)))
    | inr ne ↦ (let old = n.used p (omega arith) in let apart : old.0 ≢ i = λ e. omega (arith, e, old.1.0) in (old.0, (omega (arith, old.1.0), get_or-set_other numbers i old.0 parts 0 apart ∙ old.1.1)))
  ];
  tops = λ x y low high tx ty. (let apart : x ≢ i = λ e. omega arith in elim (cases_eq y i) [
    | inl e ↦ rw (e, get_or-set_same numbers i parts 0 lt, get_or-set_other numbers i x parts 0 apart) (n.below x (omega arith))
    | inr ne ↦ rw (get_or-set_other numbers i x parts 0 apart, get_or-set_other numbers i y parts 0 ne) (n.tops x y low (omega arith) tx ty)
  ]);
}

-- any other place takes the number of the one that it points to
pub by_top_later : (up numbers : List ℕ) (i parts : ℕ) → PointsUp up → i < length numbers → slice_index up i ≢ i → AreByTop up numbers i parts → AreByTop up (set numbers i (slice_index numbers (slice_index up i))) (i + 1) parts
by_top_later up numbers i parts h lt other n =
    let v = slice_index numbers (slice_index up i) in
    let low_i : slice_index up i < i = (let l = h i in omega (arith, l, other)) in
    record {
      same = λ x low. (let near = top_low up h x in elim (cases_eq x i) [
        | inl e ↦ (let nearer = top_low up h (slice_index up i) in
            let apart : top up i ≢ i = λ q. omega (arith, q, top_above up h i, nearer, low_i) in
            rw (e, get_or-set_same numbers i v 0 lt, get_or-set_other numbers i (top up i) v 0 apart) (n.same (slice_index up i) low_i ∙ ap (slice_index numbers) (top_above up h i)))
        | inr ne ↦ (let apart : top up x ≢ i = λ e. (let l : x < i = omega arith in omega (arith, e, near, l)) in
            rw (get_or-set_other numbers i x v 0 ne, get_or-set_other numbers i (top up x) v 0 apart) (n.same x (omega arith)))
      ]);
      below = λ x low. elim (cases_eq x i) [
        | inl e ↦ rw (e, get_or-set_same numbers i v 0 lt) (n.below (slice_index up i) low_i)
        | inr ne ↦ rw (get_or-set_other numbers i x v 0 ne) (n.below x (omega arith))
      ];
      used = λ p low. (let old = n.used p low in let apart : old.0 ≢ i = λ e. omega (arith, e, old.1.0) in (old.0, (omega (arith, old.1.0), get_or-set_other numbers i old.0 v 0 apart ∙ old.1.1)));
      tops = λ x y low high tx ty. (let apart : x ≢ i = λ e. omega arith in elim (cases_eq y i) [
        | inl e ↦ absurd (other (rw e at ty))
        | inr ne ↦ rw (get_or-set_other numbers i x v 0 apart, get_or-set_other numbers i y v 0 ne) (n.tops x y low (omega arith) tx ty)
      ]);
    }

module _ (cs : List Candidate) (up numbers : List ℕ) (parts : ℕ) (u : AreUnited cs up (length cs)) (n : AreByTop up numbers (length cs) parts) where
  same_top : (j k : ℕ) → j < length cs → k < length cs → slice_index numbers j ≡ slice_index numbers k → top up j ≡ top up k
  same_top j k lj lk e =
      let lowj = top_low up u.earlier j in
      let lowk = top_low up u.earlier k in
      let ej = n.same j lj in
      let ek = n.same k lk in
      elim (cases_lt (top up j) (top up k)) [
        | inl p ↦ (let rise = n.tops (top up j) (top up k) p (omega arith) (top_top up u.earlier j) (top_top up u.earlier k) in absurd (omega (arith, rise, e, ej, ek)))
        | inr p ↦ elim (cases_lt (top up k) (top up j)) [
          | inl q ↦ (let rise = n.tops (top up k) (top up j) q (omega arith) (top_top up u.earlier k) (top_top up u.earlier j) in absurd (omega (arith, rise, e, ej, ek)))
          | inr q ↦ omega arith
        ]
      ]

  joined_from : (j k : ℕ) → j < length cs → k < length cs → slice_index numbers j ≡ slice_index numbers k → AreInOnePart cs j k
  joined_from j k lj lk e = joined_on cs j (top up j) k (u.joined j lj) (rw (same_top j k lj lk e) (joined_turned cs k (top up k) lk (u.joined k lk)))

  shared_top : (i j : ℕ) → i < length cs → j < length cs → ShareRecord cs i j → top up i ≡ top up j
  shared_top i j li lj s = elim (cases_lt i j) [
    | inl p ↦ u.shared i j p lj s
    | inr p ↦ elim (cases_lt j i) [ inl q ↦ sym (u.shared j i q li (share_turned cs i j s)) | inr q ↦ ap (top up) (let e : i ≡ j = omega arith in e) ]
  ]

  chain_top : (m j k : ℕ) → j < length cs → RecordChain cs m j k → top up j ≡ top up k
  chain_top zero j k lj e = ap (top up) e
  chain_top (suc m) j k lj c = shared_top j c.0 lj c.1.0 c.1.1 ∙ chain_top m c.0 k c.1.0 c.1.2

  number_from : (j k : ℕ) → j < length cs → k < length cs → AreInOnePart cs j k → slice_index numbers j ≡ slice_index numbers k
  number_from j k lj lk h = n.same j lj ∙ (ap (slice_index numbers) (chain_top h.0 j k lj h.1) ∙ sym (n.same k lk))

  -- the first of a number is a top
  first_is_top : (j : ℕ) → j < length cs → IsFirstOf numbers j → slice_index up j ≡ j
  first_is_top j lj first = elim (cases_eq (top up j) j) [
    | inl e ↦ (let t = top_top up u.earlier j in rw e at t)
    | inr ne ↦ (let low = top_low up u.earlier j in absurd (first (top up j) (omega arith) (sym (n.same j lj))))
  ]

  pub part_numbers_are : length numbers ≡ length cs → ArePartNumbers cs numbers parts
  part_numbers_are count = record {
    count = count;
    joined = λ j k lj lk. (joined_from j k lj lk, number_from j k lj lk);
    below = n.below;
    used = n.used;
    in_order = λ j k lt lk first_j first_k. n.tops j k lt lk (first_is_top j (omega arith) first_j) (first_is_top k lk first_k);
  }
