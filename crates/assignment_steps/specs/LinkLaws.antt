-- Laws of links (`link`, `IsMatched`, `AreLinked`, `AreTight`): what one link that is taken or given up does to them. Both
-- assigners cite them.
use Rattle.std.proofs.Common.{◌≡◌, ◌≢◌, ◌⊎◌, ℕ, ◌<◌, List, length, set, Option, Some, None, refl, ap, sym, ◌∙◌, inl, inr, get_or-set_other, get_or-set_same, false, arith, replicate, ◌+◌, Bool, cond, ◌==◌, zero, suc, is_some}
use Rattle.std.proofs.lemmas.Bool.{cases_eq, cases_lt, false≢true, eq-eqb, ne_eqb}
use Rattle.std.proofs.lemmas.List.{get_or_past, get_or-replicate, length-replicate, length-set}
use Rattle.assignment_steps.specs.declared.market.Edge.{Edge}
use Rattle.assignment_steps.specs.Market.{IsMatched, link, edge, AreLinked, AreTight, IsTight, number, distance, far, unreached}
use Rattle.assignment_steps.specs.Between.{HasNoLink, IsBetween, IsPriced, IsDone, AreSettled, IsSettled}
use Rattle.std.proofs.lemmas.List.Sums.{sum_by-set}
use Rattle.assignment_steps.specs.Ways.{IsHop, Leads, LeadsFrom, above}

-- a link, or none
pub link_cases : (l : List (Option ℕ)) (r : ℕ) → (link l r ≡ None) ⊎ ((k : ℕ) × (link l r ≡ Some k))
link_cases l r = go (link l r) refl
  where
    go : (x : Option ℕ) → link l r ≡ x → (link l r ≡ None) ⊎ ((k : ℕ) × (link l r ≡ Some k))
    go None e = inl e
    go (Some k) e = inr (k, e)

-- a record with a link is there
pub link_there : (l : List (Option ℕ)) (r k : ℕ) → link l r ≡ Some k → r < length l
link_there l r k on = elim (cases_lt r (length l)) [ inl lt ↦ lt | inr past ↦ absurd (let none = get_or_past l r None past in cc) ]

-- the links after one write
pub link-set : (l : List (Option ℕ)) (i j : ℕ) (x : Option ℕ) → i < length l → ((j ≡ i) × (link (set l i x) j ≡ x)) ⊎ ((j ≢ i) × (link (set l i x) j ≡ link l j))
link-set l i j x lt = elim (cases_eq j i) [ inl e ↦ inl (e, rw e (get_or-set_same l i x None lt)) | inr n ↦ inr (n, get_or-set_other l i j x None n) ]

-- the two sides after record of A and record of B of edge k take it
joined_a : (es : List Edge) (la lb : List (Option ℕ)) (k a j : ℕ) → IsMatched es la lb → k < length es → (edge es k).a < length la → (edge es k).b < length lb → link lb (edge es k).b ≡ None → link (set la (edge es k).a (Some k)) a ≡ Some j → (j < length es) × ((edge es j).a ≡ a) × (link (set lb (edge es k).b (Some k)) (edge es j).b ≡ Some j)
joined_a es la lb k a j m lt ra rb nb h =
    elim (link-set la (edge es k).a a (Some k) ra) [
      | inl p ↦ (let same : k ≡ j = cc in rw (← same) (lt, sym p.0, get_or-set_same lb (edge es k).b (Some k) None rb))
      | inr p ↦
          (let old = m.of_a a j (sym p.1 ∙ h) in
          let other : (edge es j).b ≢ (edge es k).b = λ e. (let clash : link lb (edge es k).b ≡ Some j = rw (← e) old.2 in cc) in
          (old.0, old.1, get_or-set_other lb (edge es k).b (edge es j).b (Some k) None other ∙ old.2))
    ]

joined_b : (es : List Edge) (la lb : List (Option ℕ)) (k b j : ℕ) → IsMatched es la lb → k < length es → (edge es k).a < length la → (edge es k).b < length lb → link la (edge es k).a ≡ None → link (set lb (edge es k).b (Some k)) b ≡ Some j → (j < length es) × ((edge es j).b ≡ b) × (link (set la (edge es k).a (Some k)) (edge es j).a ≡ Some j)
joined_b es la lb k b j m lt ra rb na h =
    elim (link-set lb (edge es k).b b (Some k) rb) [
      | inl p ↦ (let same : k ≡ j = cc in rw (← same) (lt, sym p.0, get_or-set_same la (edge es k).a (Some k) None ra))
      | inr p ↦
          (let old = m.of_b b j (sym p.1 ∙ h) in
          let other : (edge es j).a ≢ (edge es k).a = λ e. (let clash : link la (edge es k).a ≡ Some j = rw (← e) old.2 in cc) in
          (old.0, old.1, get_or-set_other la (edge es k).a (edge es j).a (Some k) None other ∙ old.2))
    ]

-- two records without a link take edge k
pub matched_joined : (es : List Edge) (la lb : List (Option ℕ)) (k : ℕ) → IsMatched es la lb → k < length es → (edge es k).a < length la → (edge es k).b < length lb → link la (edge es k).a ≡ None → link lb (edge es k).b ≡ None → IsMatched es (set la (edge es k).a (Some k)) (set lb (edge es k).b (Some k))
matched_joined es la lb k m lt ra rb na nb = record {
  of_a = λ a j h. joined_a es la lb k a j m lt ra rb nb h;
  of_b = λ b j h. joined_b es la lb k b j m lt ra rb na h;
}

-- the two records of edge j lose their link
pub matched_parted : (es : List Edge) (la lb : List (Option ℕ)) (j : ℕ) → IsMatched es la lb → (edge es j).a < length la → (edge es j).b < length lb → link la (edge es j).a ≡ Some j → IsMatched es (set la (edge es j).a None) (set lb (edge es j).b None)
matched_parted es la lb j m ra rb on = record {
  of_a = λ a i h. elim (link-set la (edge es j).a a None ra) [
    | inl p ↦ cc
    | inr p ↦
        (let old = m.of_a a i (sym p.1 ∙ h) in
        let other : (edge es i).b ≢ (edge es j).b = λ e. (
        let onb : link lb (edge es j).b ≡ Some j = (m.of_a _ _ on).2 in
        let oni : link lb (edge es j).b ≡ Some i = rw (← e) old.2 in
        let same : i ≡ j = cc in
        p.0 (sym old.1 ∙ ap (λ n. (edge es n).a) same)) in
        (old.0, old.1, get_or-set_other lb (edge es j).b (edge es i).b None None other ∙ old.2))
  ];
  of_b = λ b i h. elim (link-set lb (edge es j).b b None rb) [
    | inl p ↦ cc
    | inr p ↦
        (let old = m.of_b b i (sym p.1 ∙ h) in
        let other : (edge es i).a ≢ (edge es j).a = λ e. (
        let oni : link la (edge es j).a ≡ Some i = rw (← e) old.2 in
        let same : i ≡ j = cc in
        p.0 (sym old.1 ∙ ap (λ n. (edge es n).b) same)) in
        (old.0, old.1, get_or-set_other la (edge es j).a (edge es i).a None None other ∙ old.2))
  ];
}

-- no link agrees with no link
pub none_matched : (es : List Edge) (la lb : List (Option ℕ)) → ((a : ℕ) → link la a ≡ None) → ((b : ℕ) → link lb b ≡ None) → IsMatched es la lb
none_matched es la lb none_a none_b = record { of_a = λ a k h. absurd (let clash : None ≡ Some k = sym (none_a a) ∙ h in cc); of_b = λ b k h. absurd (let clash : None ≡ Some k = sym (none_b b) ∙ h in cc) }

pub none_linked : (n r : ℕ) → link (replicate n None) r ≡ None
none_linked n r = elim (cases_lt r n) [ inl lt ↦ get_or-replicate n r None None lt | inr past ↦ get_or_past (replicate n None) r None (omega (arith, length-replicate {A = Option ℕ} n None)) ]

-- what is tight stays so where a record takes a tight edge
pub tight_joined : (es : List Edge) (pa pb : List ℕ) (la : List (Option ℕ)) (k : ℕ) → (edge es k).a < length la → AreTight es pa pb la → IsTight es pa pb k → AreTight es pa pb (set la (edge es k).a (Some k))
tight_joined es pa pb la k ra tight here i h =
    elim (link-set la (edge es k).a (edge es i).a (Some k) ra) [
      | inl p ↦ (let same : k ≡ i = cc in rw (← same) here)
      | inr p ↦ tight i (sym p.1 ∙ h)
    ]

-- a record without a link after one write of a link had none before
pub none_before : (l : List (Option ℕ)) (i r k : ℕ) → i < length l → link (set l i (Some k)) r ≡ None → link l r ≡ None
none_before l i r k lt none = elim (link-set l i r (Some k) lt) [ inl p ↦ absurd (let clash : Some k ≡ None = sym p.1 ∙ none in cc) | inr p ↦ sym p.1 ∙ none ]

-- the record of A of edge k takes it
pub linked_joined : (es : List Edge) (la : List (Option ℕ)) (k : ℕ) → AreLinked es la → k < length es → (edge es k).a < length la → AreLinked es (set la (edge es k).a (Some k))
linked_joined es la k h lt ra a j on = elim (link-set la (edge es k).a a (Some k) ra) [
  | inl p ↦ (let same : k ≡ j = cc in rw (← same) (lt, sym p.0))
  | inr p ↦ h a j (sym p.1 ∙ on)
]

pub not_linked : (x : Option ℕ) → is_some x ≡ false → x ≡ None
not_linked None h = refl
not_linked (Some k) h = absurd (false≢true (sym h))

-- Laws of what holds between two steps (`IsPriced`, `IsBetween`, `IsDone`) and of settled edges (`AreSettled`), one step after the
-- other. Both assigners cite them.

-- the record of A of a tight edge takes it, where what is free was free before
pub priced_joined : (es : List Edge) (pa pb : List ℕ) (la : List (Option ℕ)) (k : ℕ) (IsFree IsFree' : ℕ → Type 0) → IsPriced es pa pb la IsFree 0 → k < length es → (edge es k).a < length la → IsTight es pa pb k → ((b : ℕ) → IsFree' b → IsFree b) → IsPriced es pa pb (set la (edge es k).a (Some k)) IsFree' 0
priced_joined es pa pb la k IsFree IsFree' w lt ra tight before = record {
  rows_a = rw length-set w.rows_a;
  in_range = w.in_range;
  covered = w.covered;
  small_a = w.small_a;
  small_b = w.small_b;
  linked = linked_joined es la k w.linked lt ra;
  tight = tight_joined es pa pb la k ra w.tight tight;
  free_a = λ a low none. absurd (omega arith);
  free_b = λ b free. w.free_b b (before b free);
}

-- neither record has a link
pub between_joined : (es : List Edge) (pa pb : List ℕ) (la lb : List (Option ℕ)) (k : ℕ) → IsBetween es pa pb la lb 0 → k < length es → link la (edge es k).a ≡ None → link lb (edge es k).b ≡ None → IsTight es pa pb k → IsBetween es pa pb (set la (edge es k).a (Some k)) (set lb (edge es k).b (Some k)) 0
between_joined es pa pb la lb k w lt free_a free_b tight =
    let ra : (edge es k).a < length la = omega (arith, w.priced.in_range.record_a k lt, w.priced.rows_a) in
    let rb : (edge es k).b < length lb = omega (arith, w.priced.in_range.record_b k lt, w.rows_b) in
    record {
      priced = priced_joined es pa pb la k (HasNoLink lb) (HasNoLink (set lb (edge es k).b (Some k))) w.priced lt ra tight (λ b none. none_before lb (edge es k).b b k rb none);
      rows_b = rw length-set w.rows_b;
      matched = matched_joined es la lb k w.matched lt ra rb free_a free_b;
    }

-- one more edge is settled, where each link stays or becomes another and what is taken stays so
pub one_more_settled : (es : List Edge) (pa pb : List ℕ) (la la' : List (Option ℕ)) (IsTaken IsTaken' : ℕ → Type 0) (k : ℕ) → ((a : ℕ) → link la' a ≡ None → link la a ≡ None) → ((b : ℕ) → IsTaken b → IsTaken' b) → AreSettled es pa pb la IsTaken k → IsSettled es pa pb la' IsTaken' k → AreSettled es pa pb la' IsTaken' (k + 1)
one_more_settled es pa pb la la' IsTaken IsTaken' k kept stays before here j low tight none =
    elim (cases_eq j k) [
      | inl same ↦ (let at : IsSettled es pa pb la' IsTaken' j = rw same here in at tight none)
      | inr other ↦ stays _ (before j (omega (arith, low, other)) tight (kept _ none))
    ]

-- one more record of A is done
pub one_more_done : (pa pa' : List ℕ) (la la' : List (Option ℕ)) (root : ℕ) → ((a : ℕ) → IsDone pa la a → IsDone pa' la' a) → ((a : ℕ) → a < root → IsDone pa la a) → IsDone pa' la' root → (a : ℕ) → a < root + 1 → IsDone pa' la' a
one_more_done pa pa' la la' root kept before here a low =
    elim (cases_eq a root) [
      | inl same ↦ rw same here
      | inr other ↦ kept a (before a (omega (arith, low, other)))
    ]

-- what holds of prices holds however many records of A are done
pub priced_done : (es : List Edge) (pa pb : List ℕ) (la : List (Option ℕ)) (IsFree : ℕ → Type 0) (done now : ℕ) → IsPriced es pa pb la IsFree done → ((a : ℕ) → a < now → IsDone pa la a) → IsPriced es pa pb la IsFree now
priced_done es pa pb la IsFree done now w free = record {
  rows_a = w.rows_a;
  in_range = w.in_range;
  covered = w.covered;
  small_a = w.small_a;
  small_b = w.small_b;
  linked = w.linked;
  tight = w.tight;
  free_a = free;
  free_b = w.free_b;
}

-- Laws of distances and prices (`distance`, `unreached`, `number`): of one write, and of zeros. Both assigners cite them.

-- a distance after one write
pub distance-set : (xs : List ℕ) (i j x : ℕ) → i < length xs → ((j ≡ i) × (distance (set xs i x) j ≡ x)) ⊎ ((j ≢ i) × (distance (set xs i x) j ≡ distance xs j))
distance-set xs i j x lt = elim (cases_eq j i) [ inl e ↦ inl (e, rw e (get_or-set_same xs i x far lt)) | inr n ↦ inr (n, get_or-set_other xs i j x far n) ]

-- the number at a place after one write
pub number-set : (xs : List ℕ) (i j x : ℕ) → i < length xs → ((j ≡ i) × (number (set xs i x) j ≡ x)) ⊎ ((j ≢ i) × (number (set xs i x) j ≡ number xs j))
number-set xs i j x lt = elim (cases_eq j i) [ inl e ↦ inl (e, rw e (get_or-set_same xs i x 0 lt)) | inr n ↦ inr (n, get_or-set_other xs i j x 0 n) ]

pub all_zero : (n r : ℕ) → number (replicate n 0) r ≡ 0
all_zero n r = elim (cases_lt r n) [ inl lt ↦ get_or-replicate n r 0 0 lt | inr past ↦ get_or_past (replicate n 0) r 0 (omega (arith, length-replicate {A = ℕ} n 0)) ]

abbrev tick : Bool → ℕ
tick b = cond b 1 0

-- one write of a distance: one record fewer is not reached yet, or as many where it was reached before
module _ (ds : List ℕ) (position dist : ℕ) (lt : position < length ds) (near : dist < far) where
  parted : unreached (set ds position dist) + tick (distance ds position == far) ≡ unreached ds
  parted =
      let e : unreached (set ds position dist) + tick (distance ds position == far) ≡ unreached ds + tick (dist == far) = sum_by-set (λ (d : ℕ). cond (d == far) 1 0) ds position dist far lt in
      let off : tick (dist == far) ≡ 0 = rw (ne_eqb dist far (λ e. absurd (omega (arith, e)))) refl in
      omega (arith, e, off)

  pub unreached-set : distance ds position ≡ far → unreached (set ds position dist) + 1 ≡ unreached ds
  unreached-set new =
      let on : tick (distance ds position == far) ≡ 1 = rw (eq-eqb (distance ds position) far new) refl in
      omega (arith, parted, on)

  pub unreached-again : distance ds position ≢ far → unreached (set ds position dist) ≡ unreached ds
  unreached-again old =
      let off : tick (distance ds position == far) ≡ 0 = rw (ne_eqb (distance ds position) far old) refl in
      omega (arith, parted, off)

-- Laws of ways to a root (`Leads`, `LeadsFrom`). Both assigners cite them.

-- a way that stands below a record is not touched by a change of that record's link
pub leads_below : (es : List Edge) (pa pb : List ℕ) (la : List (Option ℕ)) (from rank : List ℕ) (root : ℕ) (a : ℕ) (x : Option ℕ) (n b : ℕ) → number rank (above es from b) < number rank a → Leads es pa pb la from rank root n b → Leads es pa pb (set la a x) from rank root n b
leads_below es pa pb la from rank root a x zero b low h = h
leads_below es pa pb la from rank root a x (suc n) b low h =
    let other : above es from b ≢ a = λ e. (let same : number rank (above es from b) ≡ number rank a = ap (number rank) e in omega (arith, same)) in
    let keeps = get_or-set_other la a (above es from b) x None other in (
      h.0,
      elim h.1 [
        | inl p ↦ inl (p.0, keeps ∙ p.1)
        | inr p ↦ inr (p.0, (keeps ∙ p.1.0, p.1.1, leads_below es pa pb la from rank root a x n (edge es p.0).b (omega (arith, p.1.1)) p.1.2))
      ],
    )

pub reached_by : (es : List Edge) (pa pb : List ℕ) (la : List (Option ℕ)) (from rank : List ℕ) (root n b : ℕ) → Leads es pa pb la from rank root n b → IsHop es pa pb from b
reached_by es pa pb la from rank root zero b h = absurd h
reached_by es pa pb la from rank root (suc n) b h = h.0

-- a way whose first record of A is linked goes on from the record of B of that link
pub goes_on : (es : List Edge) (pa pb : List ℕ) (la : List (Option ℕ)) (from rank : List ℕ) (root n b j : ℕ) → link la (above es from b) ≡ Some j → Leads es pa pb la from rank root n b → (number rank (above es from (edge es j).b) < number rank (above es from b)) × ((m : ℕ) × Leads es pa pb la from rank root m (edge es j).b)
goes_on es pa pb la from rank root zero b j on h = absurd h
goes_on es pa pb la from rank root (suc n) b j on h = elim h.1 [
  | inl p ↦ cc
  | inr p ↦ (let same : p.0 ≡ j = cc in rw (← same) (p.1.1, (n, p.1.2)))
]

-- a way whose first record of A is not linked ends there, at the root
pub ends_at : (es : List Edge) (pa pb : List ℕ) (la : List (Option ℕ)) (from rank : List ℕ) (root n b : ℕ) → link la (above es from b) ≡ None → Leads es pa pb la from rank root n b → above es from b ≡ root
ends_at es pa pb la from rank root zero b none h = absurd h
ends_at es pa pb la from rank root (suc n) b none h = elim h.1 [ inl p ↦ p.0 | inr p ↦ cc ]

-- a linked record of A gives its link up: the way from its record of B stays
pub leads_parted : (es : List Edge) (pa pb : List ℕ) (la : List (Option ℕ)) (from rank : List ℕ) (root last k : ℕ) → link la last ≡ Some k → LeadsFrom es pa pb la from rank root last → (n : ℕ) × Leads es pa pb (set la last None) from rank root n (edge es k).b
leads_parted es pa pb la from rank root last k on h = elim h [
  | inl p ↦ absurd (let clash : None ≡ Some k = sym p.1 ∙ on in cc)
  | inr p ↦ (let same : p.0 ≡ k = cc in rw (← same) (p.1.2.0, leads_below es pa pb la from rank root last None p.1.2.0 (edge es p.0).b p.1.1 p.1.2.1))
]
