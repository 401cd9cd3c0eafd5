-- Laws of candidates as edges (`edges_of`), of those that are linked (`is_linked`) and of prices as integers (`prices_of`). Both
-- assigners cite them.
use Rattle.std.proofs.Common.{◌≡◌, ℕ, zero, suc, ◌^◌, ◌<◌, ◌≤◌, ℤ, pos, negsuc, ◌≤ℤ◌, List, [], ◌∷◌, length, get_or, Option, Some, None, true, refl, ap, ◌∙◌, inl, inr, arith, All, AllPairs, Contains, ◌≢◌, ◌+◌, ◌+ℤ◌, Bool, filter, sym, map}
use Rattle.std.specs.List.{cons_option}
use Rattle.std.proofs.lemmas.Bool.{cases_lt, false≢true}
use Rattle.std.proofs.lemmas.Bool.Decides.{nat_tests}
use Rattle.std.proofs.lemmas.Int.{ints}
use Rattle.std.proofs.lemmas.List.{get_or_past, get_or_default, length-map}
use Rattle.std.proofs.lemmas.List.Elements.{All-cons, All-nil, All-contains, All-filter, All-contains_itself, filter_passes, All-map}
use Rattle.link_limits.specs.declared.TheConstants.{MOST_PAIRS, MOST_VALUE}
use Rattle.link_base.specs.declared.rule.Candidate.{Candidate}
use Rattle.assignment_steps.specs.declared.market.Edge.{Edge}
use Rattle.assignment_steps.specs.Market.{link, edge, number, no_edge, IsInRange, AreSmall, IsRising}
use Rattle.assignment_steps.specs.Candidates.{positive, valued_edge, edge_from, edges_of, is_positive, links_to, is_linked, prices_of, HasSmallValue, AreTurned, turned_edge}
use Rattle.price_check.specs.Assignment.{IsBefore, IsWithin, price_of, IsCovered}
use Rattle.price_check.specs.PlaceLaws.{Contains-later, Contains-filter, clash, same_member, IsTight}
use Rattle.std.proofs.lemmas.List.Kept.{AllPairs-filter}
use Rattle.assignment_steps.specs.Between.{IsPriced}
use Rattle.assignment_steps.specs.LinkLaws.{link_cases}
use Rattle.std.proofs.lemmas.List.Sorted.{All-permutation, length_permutation}

-- Candidates and edges.

pub record Makes (c : Candidate) (e : Edge) : Type 0 where
  pub record_a : c.a ≡ e.a
  pub record_b : c.b ≡ e.b
  pub value : c.value ≡ pos e.value
  pub is : is_positive c.value ≡ true

makes_at : (c : Candidate) (e : Edge) (v : ℤ) → c.value ≡ v → valued_edge c (positive v) ≡ Some e → Makes c e
makes_at c e (pos zero) is h = absurd cc
makes_at c e (pos (suc n)) is h = (let same : record { a = c.a; b = c.b; value = suc n } ≡ e = cc in rw (← same) (record { record_a = refl; record_b = refl; value = is; is = ap is_positive is }))
makes_at c e (negsuc n) is h = absurd cc

kept_head : (c : Candidate) (cs : List Candidate) (es : List Edge) → ((k : ℕ) → k < length es → (d : Candidate) × (Contains cs d × Makes d (edge es k))) → (o : Option Edge) → edge_from c ≡ o → (k : ℕ) → k < length (cons_option o es) → (d : Candidate) × (Contains (c ∷ cs) d × Makes d (edge (cons_option o es) k))
kept_head c cs es rest None e k lt = (let r = rest k lt in (r.0, (Contains-later c cs r.0 r.1.0, r.1.1)))
kept_head c cs es rest (Some y) e zero lt = (c, ((zero, omega arith, refl), makes_at c y c.value refl e))
kept_head c cs es rest (Some y) e (suc k) lt = (let r = rest k (omega arith) in (r.0, (Contains-later c cs r.0 r.1.0, r.1.1)))

pub edge_kept : (cs : List Candidate) (k : ℕ) → k < length (edges_of cs) → (c : Candidate) × (Contains cs c × Makes c (edge (edges_of cs) k))
edge_kept [] k lt = absurd (omega arith)
edge_kept (c ∷ cs) k lt = kept_head c cs (edges_of cs) (edge_kept cs) (edge_from c) refl k lt

made_shift : (o : Option Edge) (es : List Edge) (e : Edge) → (k : ℕ) × ((k < length es) × (edge es k ≡ e)) → (k : ℕ) × ((k < length (cons_option o es)) × (edge (cons_option o es) k ≡ e))
made_shift None es e h = h
made_shift (Some y) es e h = (suc h.0, (omega (arith, h.1.0), h.1.1))

made_head : (y c : Candidate) (ys : List Candidate) (e : Edge) → edge_from c ≡ Some e → (Contains ys c → (k : ℕ) × ((k < length (edges_of ys)) × (edge (edges_of ys) k ≡ e))) → (k : ℕ) → k < length (y ∷ ys) → get_or (y ∷ ys) k c ≡ c → (k : ℕ) × ((k < length (edges_of (y ∷ ys))) × (edge (edges_of (y ∷ ys)) k ≡ e))
made_head y c ys e is rest zero lt same = (let o : edge_from y ≡ Some e = ap edge_from same ∙ is in rw o (zero, (omega arith, refl)))
made_head y c ys e is rest (suc k) lt same = made_shift (edge_from y) (edges_of ys) e (rest (k, omega arith, same))

pub edge_made : (cs : List Candidate) (c : Candidate) (n : ℕ) → Contains cs c → c.value ≡ pos (suc n) → (k : ℕ) × ((k < length (edges_of cs)) × (edge (edges_of cs) k ≡ record { a = c.a; b = c.b; value = suc n }))
edge_made [] c n inside is = absurd (omega (arith, inside.1))
edge_made (y ∷ ys) c n inside is = made_head y c ys (record { a = c.a; b = c.b; value = suc n }) (ap (λ v. valued_edge c (positive v)) is) (λ h. edge_made ys c n h is) inside.0 inside.1 inside.2

-- Prices as integers.

pub price_of-prices : (ps : List ℕ) (position : ℕ) → price_of (prices_of ps) position ≡ pos (number ps position)
price_of-prices [] position = refl
price_of-prices (p ∷ ps) zero = refl
price_of-prices (p ∷ ps) (suc position) = price_of-prices ps position

pub floored : (ps : List ℕ) → All (λ p. pos 0 ≤ℤ p) (prices_of ps)
floored [] = All-nil (λ p. pos 0 ≤ℤ p)
floored (p ∷ ps) = All-cons (λ p. pos 0 ≤ℤ p) (pos p) (prices_of ps) (omega (arith, ints)) (floored ps)

-- what a linked candidate says
pub record IsLinkedBy (es : List Edge) (la : List (Option ℕ)) (c : Candidate) (k : ℕ) : Type 0 where
  pub on : link la c.a ≡ Some k
  pub record_b : (edge es k).b ≡ c.b
  pub is : is_positive c.value ≡ true

linked_case : (es : List Edge) (la : List (Option ℕ)) (c : Candidate) (x : Option ℕ) → link la c.a ≡ x → links_to es c x ≡ true → (k : ℕ) × IsLinkedBy es la c k
linked_case es la c None e h = absurd (false≢true h)
linked_case es la c (Some k) e h = (k, record { on = e; record_b = grind (arith, nat_tests); is = grind (arith, nat_tests) })

pub linked_by : (es : List Edge) (la : List (Option ℕ)) (c : Candidate) → is_linked es la c ≡ true → (k : ℕ) × IsLinkedBy es la c k
linked_by es la c h = linked_case es la c (link la c.a) refl h

pub is_linked_from : (es : List Edge) (la : List (Option ℕ)) (c : Candidate) (k : ℕ) → link la c.a ≡ Some k → (edge es k).b ≡ c.b → is_positive c.value ≡ true → is_linked es la c ≡ true
is_linked_from es la c k on b is = rw (on, is) (grind (arith, nat_tests))

few_head : (o : Option Edge) (es : List Edge) (n : ℕ) → length es ≤ n → length (cons_option o es) ≤ suc n
few_head None es n le = omega (arith, le)
few_head (Some y) es n le = omega (arith, le)

pub few_edges : (cs : List Candidate) → length (edges_of cs) ≤ length cs
few_edges [] = omega arith
few_edges (c ∷ cs) = few_head (edge_from c) (edges_of cs) (length cs) (few_edges cs)

pub range_edges : (cs : List Candidate) (rows_a rows_b : ℕ) → length cs ≤ MOST_PAIRS → rows_a < 2 ^ 32 → rows_b < 2 ^ 32 → All (IsWithin rows_a rows_b) cs → IsInRange (edges_of cs) rows_a rows_b
range_edges cs rows_a rows_b few few_a few_b within = record {
  few = omega (arith, few, few_edges cs);
  few_a = few_a;
  few_b = few_b;
  record_a = λ k lt. (let c = edge_kept cs k lt in rw (← c.1.1.record_a) (All-contains (IsWithin rows_a rows_b) cs c.0 within c.1.0).0);
  record_b = λ k lt. (let c = edge_kept cs k lt in rw (← c.1.1.record_b) (All-contains (IsWithin rows_a rows_b) cs c.0 within c.1.0).1);
}

pub small_edges : (cs : List Candidate) → All HasSmallValue cs → AreSmall (edges_of cs)
small_edges cs small k = elim (cases_lt k (length (edges_of cs))) [
  | inl lt ↦ (let c = edge_kept cs k lt in omega (arith, ints, c.1.1.value, All-contains HasSmallValue cs c.0 small c.1.0))
  | inr past ↦ rw (get_or_past (edges_of cs) k no_edge past) (omega arith)
]

rising_cons : (y : Edge) (es : List Edge) → ((j : ℕ) → j < length es → y.a ≤ (edge es j).a) → IsRising es → IsRising (y ∷ es)
rising_cons y es head tail zero zero le lt = omega arith
rising_cons y es head tail zero (suc j) le lt = head j (omega arith)
rising_cons y es head tail (suc i) zero le lt = absurd (omega arith)
rising_cons y es head tail (suc i) (suc j) le lt = tail i j (omega arith) (omega arith)

rising_head : (c : Candidate) (es : List Edge) → ((j : ℕ) → j < length es → c.a ≤ (edge es j).a) → IsRising es → (o : Option Edge) → edge_from c ≡ o → IsRising (cons_option o es)
rising_head c es head tail None e = tail
rising_head c es head tail (Some y) e = (let m = makes_at c y c.value refl e in rising_cons y es (λ j lt. rw (← m.record_a) (head j lt)) tail)

before_le : (x y : Candidate) → IsBefore x y → x.a ≤ y.a
before_le x y (inl p) = omega (arith, p)
before_le x y (inr p) = omega (arith, p.0)

pub rising_edges : (cs : List Candidate) → AllPairs IsBefore cs → IsRising (edges_of cs)
rising_edges [] h = λ i j le lt. absurd (omega (arith, lt))
rising_edges (c ∷ cs) h = rising_head c (edges_of cs)
    (λ j lt. (let d = edge_kept cs j lt in rw (← d.1.1.record_a) (before_le c d.0 (All-contains (IsBefore c) cs d.0 (λ k e l. h zero (suc k) e (omega arith) (omega arith)) d.1.0))))
    (rising_edges cs (λ i j e l m. h (suc i) (suc j) e (omega arith) (omega arith))) (edge_from c) refl

-- Laws from edges back to candidates: prices of edges cover the candidates, the linked ones are tight, and they are those of
-- the links. Both assigners cite them.

module _ (cs : List Candidate) (pa pb : List ℕ) (la : List (Option ℕ)) (IsFree : ℕ → Type 0) (rising : AllPairs IsBefore cs) (w : IsPriced (edges_of cs) pa pb la IsFree (length pa)) where
  abbrev es : List Edge
  es = edges_of cs

  abbrev test : Candidate → Bool
  test c = is_linked es la c

  abbrev links : List Candidate
  links = filter test cs

  all_linked : All (λ c. test c ≡ true) links
  all_linked = filter_passes test cs

  pub all_among : All (Contains cs) links
  all_among = All-filter test (Contains cs) cs (All-contains_itself cs)

  pub links_rising : AllPairs IsBefore links
  links_rising = AllPairs-filter IsBefore test cs rising

  -- each candidate is covered
  covered_at : (c : Candidate) (v : ℤ) → Contains cs c → c.value ≡ v → v ≤ℤ (price_of (prices_of pa) c.a +ℤ price_of (prices_of pb) c.b)
  covered_at c (pos zero) inside is = rw (price_of-prices pa c.a, price_of-prices pb c.b) (omega (arith, ints))
  covered_at c (negsuc n) inside is = rw (price_of-prices pa c.a, price_of-prices pb c.b) (omega (arith, ints))
  covered_at c (pos (suc n)) inside is =
      let m = edge_made cs c n inside is in
      let here = w.covered m.0 m.1.0 in
      let here' : suc n ≤ number pa c.a + number pb c.b = rw m.1.1 at here in
      rw (price_of-prices pa c.a, price_of-prices pb c.b) (omega (arith, ints, here'))

  pub all_covered : All (IsCovered (prices_of pa) (prices_of pb)) cs
  all_covered = λ k d lt. covered_at (get_or cs k d) (get_or cs k d).value (All-contains_itself cs k d lt) refl

  -- a linked candidate is the one of its edge, and tight
  tight_at : (c : Candidate) → Contains cs c → test c ≡ true → IsTight (prices_of pa) (prices_of pb) c
  tight_at c inside t =
      let h = linked_by es la c t in
      let p = w.linked c.a h.0 h.1.on in
      let kept = edge_kept cs h.0 p.0 in
      let same : kept.0 ≡ c = same_member cs kept.0 c rising kept.1.0 inside (kept.1.1.record_a ∙ p.1) (kept.1.1.record_b ∙ h.1.record_b) in
      let value : c.value ≡ pos (edge es h.0).value = rw same at kept.1.1.value in
      let on : link la (edge es h.0).a ≡ Some h.0 = rw p.1 h.1.on in
      let tight : number pa c.a + number pb c.b ≡ (edge es h.0).value = rw (p.1, h.1.record_b) at (w.tight h.0 on) in
      rw (price_of-prices pa c.a, price_of-prices pb c.b) (omega (arith, ints, value, tight))

  pub all_tight : All (IsTight (prices_of pa) (prices_of pb)) links
  all_tight = λ k d lt. tight_at (get_or links k d) (all_among k d lt) (all_linked k d lt)

  -- the candidate of a linked edge is linked
  pub link_member : (a k : ℕ) → link la a ≡ Some k → (c : Candidate) × (Contains links c × (c.a ≡ a) × (c.b ≡ (edge es k).b))
  link_member a k on =
      let m = w.linked a k on in
      let kept = edge_kept cs k m.0 in
      let at : kept.0.a ≡ a = kept.1.1.record_a ∙ m.1 in
      let t : test kept.0 ≡ true = is_linked_from es la kept.0 k (rw at on) (sym kept.1.1.record_b) kept.1.1.is in
      (kept.0, (Contains-filter test cs kept.0 kept.1.0 t, at, kept.1.1.record_b))

  -- and the edge of a linked candidate links it
  pub member_link : (c : Candidate) → Contains links c → (k : ℕ) × IsLinkedBy es la c k
  member_link c inside = linked_by es la c (All-contains (λ c. test c ≡ true) links c all_linked inside)

  -- two linked candidates are not of one record of A
  pub apart_a : AllPairs (λ (x y : Candidate). x.a ≢ y.a) links
  apart_a = λ i j d lt m e.
      let x : Candidate = get_or links i d in
      let y : Candidate = get_or links j d in
      let hx = linked_by es la x (all_linked i d (omega arith)) in
      let hy = linked_by es la y (all_linked j d m) in
      let on : link la x.a ≡ Some hy.0 = rw e hy.1.on in
      let same : hx.0 ≡ hy.0 = cc (hx.1.on, on) in
      clash x y (links_rising i j d lt m) e (sym hx.1.record_b ∙ (ap (λ n. (edge es n).b) same ∙ hy.1.record_b))

  -- a record of A that stands in no link has no price
  pub absent_a : (position : ℕ) → All (λ c. c.a ≢ position) links → price_of (prices_of pa) position ≡ pos 0
  absent_a position absent = price_of-prices pa position ∙ ap pos (elim (link_cases la position) [
    | inl none ↦ elim (cases_lt position (length pa)) [ inl lt ↦ w.free_a position lt none | inr past ↦ get_or_past pa position 0 past ]
    | inr p ↦ (let c = link_member position p.0 p.1 in absurd (All-contains (λ c. c.a ≢ position) links c.0 absent c.1.0 c.1.1))
  ])

-- Laws of edges as the other side sees them (`AreTurned`).

-- what each turned edge of a list has, the edges have as the other side sees them
module _ (P : Edge → Type 0) (es turned : List Edge) (each : (k : ℕ) → k < length es → P (turned_edge (edge es k))) (t : AreTurned es turned) where
  pub each_turned : (j : ℕ) → j < length turned → P (edge turned j)
  each_turned j lt = All-permutation P (map turned_edge es) turned t (All-map P turned_edge es (λ k d low. rw (get_or_default es k d no_edge low) (each k low))) j no_edge lt

-- turned edges stand within the records of the other side
pub turned_in_range : (es turned : List Edge) (rows_a rows_b : ℕ) → IsInRange es rows_a rows_b → AreTurned es turned → IsInRange turned rows_b rows_a
turned_in_range es turned rows_a rows_b r t = record {
  few = omega (arith, r.few, length_permutation (map turned_edge es) turned t, length-map es turned_edge);
  few_a = r.few_b;
  few_b = r.few_a;
  record_a = each_turned (λ (e : Edge). e.a < rows_b) es turned r.record_b t;
  record_b = each_turned (λ (e : Edge). e.b < rows_a) es turned r.record_a t;
}

-- no turned edge has a large value where no edge has
pub turned_small : (es turned : List Edge) → AreSmall es → AreTurned es turned → AreSmall turned
turned_small es turned small t j = elim (cases_lt j (length turned)) [
  | inl lt ↦ each_turned (λ (e : Edge). e.value ≤ MOST_VALUE) es turned (λ k low. small k) t j lt
  | inr past ↦ rw (get_or_past turned j no_edge past) (omega arith)
]
