-- What was joined stays so as long as no link is taken away.
use Rattle.std.proofs.Common.{◌≡◌, ℕ, ◌<◌, ◌+◌, List, Option, None, inl, inr, arith, length, Some, ◌++◌, ◌∷◌, [], ◌⊎◌, zero, ◌-◌, ◌*◌, ◌/◌, ◌≤◌, get_or, map, refl, sym, ap, ◌∙◌, Contains, IsPermutation, set, drop, add-one, drop-cons, get_or-set_same}
use Rattle.std.proofs.lemmas.Bool.{cases_eq}
use Rattle.assignment_steps.specs.declared.market.Board.{Board}
use Rattle.assignment_steps.specs.Words.{edge, link, number, IsStart, distance, far, AreJoined, AreJoinedAs, AreJoinedWith, Contains-cons_cases, distance-set, number-set}
use Rattle.std.proofs.lemmas.List.{get_or_push, get_or_append_left, get_or-map, length-map}
use Rattle.assignment_steps.specs.declared.market.Edge.{Edge}
use Rattle.assignment_steps.specs.declared.queue.TheConstants.{LAST, TURNS}
use Rattle.std.proofs.lemmas.List.Elements.{All-contains, All-contains_itself, All-map}
use Rattle.std.proofs.lemmas.List.Sorted.{Contains-permutation, IsPermutation-sym}
use Rattle.price_check.specs.PlaceLaws.{Contains-later}

-- links of the two sides, and later ones that keep each record's link or give it another
module _ (board : Board) (la lb la' lb' : List (Option ℕ)) (kept_a : (a : ℕ) → link la' a ≡ None → link la a ≡ None) (kept_b : (b : ℕ) → link lb' b ≡ None → link lb b ≡ None) where
  still : (a b : ℕ) → AreJoined board la lb a b → AreJoined board la' lb' a b
  still a b was = elim was [ inl none ↦ inl none | inr there ↦ inr (there.0, (there.1.0, there.1.1, λ free_a free_b. there.1.2 (kept_a _ free_a) (kept_b _ free_b))) ]

  pub one_more_as : (links : List (Option ℕ)) (i : ℕ) → AreJoinedAs board la lb links i → ((j : ℕ) → link links i ≡ Some j → j < length board.turned.now → AreJoined board la' lb' (edge board.turned.now j).b (edge board.turned.now j).a) → AreJoinedAs board la' lb' links (i + 1)
  one_more_as links i before here n less j is within =
      elim (cases_eq n i) [
        | inl same ↦ here j (rw (← same) is) within
        | inr other ↦ still _ _ (before n (omega (arith, less, other)) j is within)
      ]

  pub one_more_with : (mates : List ℕ) (a : ℕ) → AreJoinedWith board la lb mates a → AreJoined board la' lb' a (number mates a) → AreJoinedWith board la' lb' mates (a + 1)
  one_more_with mates a before here n less =
      elim (cases_eq n a) [
        | inl same ↦ rw same here
        | inr other ↦ still _ _ (before n (omega (arith, less, other)))
      ]

-- Places where the edges of records begin.

-- one more place after those of the records below `a`
pub one_more_start : (es : List Edge) (starts : List ℕ) (a start : ℕ) → length starts ≡ a → ((i : ℕ) → i < a → IsStart es i (number starts i)) → IsStart es a start → (i : ℕ) → i < a + 1 → IsStart es i (number (starts ++ start ∷ []) i)
one_more_start es starts a start count before here i less =
    elim (cases_eq i a) [
      | inl same ↦ rw (same, get_or_push starts start 0 a count) here
      | inr other ↦
          (let low : i < a = omega (arith, less, other) in
          rw (get_or_append_left starts (start ∷ []) 0 i (omega (arith, low, count))) (before i low))
    ]

-- Members of a list after a push and after a pop, and of a mapped list.

-- after a pop
pub popped_stays : {X : Type 0} (xs ys : List X) (e : X) → IsPermutation xs (e ∷ ys) → (x : X) → Contains xs x → Contains ys x ⊎ (x ≡ e)
popped_stays xs ys e p x h = Contains-cons_cases e ys x (Contains-permutation xs (e ∷ ys) x p h)

pub popped_only : {X : Type 0} (xs ys : List X) (e : X) → IsPermutation xs (e ∷ ys) → (x : X) → Contains ys x → Contains xs x
popped_only xs ys e p x h = Contains-permutation (e ∷ ys) xs x (IsPermutation-sym xs (e ∷ ys) p) (Contains-later e ys x h)

pub popped_inside : {X : Type 0} (xs ys : List X) (e : X) → IsPermutation xs (e ∷ ys) → Contains xs e
popped_inside xs ys e p = Contains-permutation (e ∷ ys) xs e (IsPermutation-sym xs (e ∷ ys) p) (zero, omega arith, refl)

-- after a push
pub pushed_stays : {X : Type 0} (xs ys : List X) (e : X) → IsPermutation (e ∷ xs) ys → (x : X) → Contains xs x → Contains ys x
pushed_stays xs ys e p x h = Contains-permutation (e ∷ xs) ys x p (Contains-later e xs x h)

pub pushed_added : {X : Type 0} (xs ys : List X) (e : X) → IsPermutation (e ∷ xs) ys → Contains ys e
pushed_added xs ys e p = Contains-permutation (e ∷ xs) ys e p (zero, omega arith, refl)

pub pushed_only : {X : Type 0} (xs ys : List X) (e : X) → IsPermutation (e ∷ xs) ys → (x : X) → Contains ys x → Contains xs x ⊎ (x ≡ e)
pushed_only xs ys e p x h = Contains-cons_cases e xs x (Contains-permutation ys (e ∷ xs) x (IsPermutation-sym (e ∷ xs) ys p) h)

-- Members of a mapped list.

pub Contains-map : {X Y : Type 0} (f : X → Y) (xs : List X) (x : X) → Contains xs x → Contains (map f xs) (f x)
Contains-map f xs x h = (h.0, rw length-map h.1, get_or-map f xs h.0 x (f x) h.1 ∙ ap f h.2)

pub Contains-unmap : {X Y : Type 0} (f : X → Y) (xs : List X) (y : Y) → Contains (map f xs) y → (x : X) × (Contains xs x × (f x ≡ y))
Contains-unmap {X} f xs y h =
    All-contains (λ y. (x : X) × (Contains xs x × (f x ≡ y))) (map f xs) y (All-map (λ y. (x : X) × (Contains xs x × (f x ≡ y))) f xs (λ k d lt. (get_or xs k d, (All-contains_itself xs k d lt, refl)))) h

-- after a push of e
pub mapped_stays : {X Y : Type 0} (f : X → Y) (xs ys : List X) (e : X) → IsPermutation (e ∷ xs) ys → (y : Y) → Contains (map f xs) y → Contains (map f ys) y
mapped_stays f xs ys e p y h = (let r = Contains-unmap f xs y h in rw (← r.1.1) (Contains-map f ys r.0 (pushed_stays xs ys e p r.0 r.1.0)))

pub mapped_added : {X Y : Type 0} (f : X → Y) (xs ys : List X) (e : X) (y : Y) → f e ≡ y → IsPermutation (e ∷ xs) ys → Contains (map f ys) y
mapped_added f xs ys e y is p = rw (← is) (Contains-map f ys e (pushed_added xs ys e p))

pub mapped_only : {X Y : Type 0} (f : X → Y) (xs ys : List X) (e : X) (v : Y) → f e ≡ v → IsPermutation (e ∷ xs) ys → (y : Y) → Contains (map f ys) y → Contains (map f xs) y ⊎ (y ≡ v)
mapped_only f xs ys e v is p y h = (let r = Contains-unmap f ys y h in elim (pushed_only xs ys e p r.0 r.1.0) [
  | inl q ↦ inl (rw (← r.1.1) (Contains-map f xs r.0 q))
  | inr q ↦ inr (sym r.1.1 ∙ (ap f q ∙ is))
])

-- after a pop of e
pub left_stays : {X Y : Type 0} (f : X → Y) (xs ys : List X) (e : X) (v : Y) → f e ≡ v → IsPermutation xs (e ∷ ys) → (y : Y) → Contains (map f xs) y → Contains (map f ys) y ⊎ (y ≡ v)
left_stays f xs ys e v is p y h = (let r = Contains-unmap f xs y h in elim (popped_stays xs ys e p r.0 r.1.0) [
  | inl q ↦ inl (rw (← r.1.1) (Contains-map f ys r.0 q))
  | inr q ↦ inr (sym r.1.1 ∙ (ap f q ∙ is))
])

pub left_only : {X Y : Type 0} (f : X → Y) (xs ys : List X) (e : X) → IsPermutation xs (e ∷ ys) → (y : Y) → Contains (map f ys) y → Contains (map f xs) y
left_only f xs ys e p y h = (let r = Contains-unmap f ys y h in rw (← r.1.1) (Contains-map f xs r.0 (popped_only xs ys e p r.0 r.1.0)))

pub left_inside : {X Y : Type 0} (f : X → Y) (xs ys : List X) (e : X) (v : Y) → f e ≡ v → IsPermutation xs (e ∷ ys) → Contains (map f xs) v
left_inside f xs ys e v is p = rw (← is) (Contains-map f xs e (popped_inside xs ys e p))

-- the rank that an entry was made from
pub rank_of_entry : (rank : ℕ) → rank ≤ LAST → LAST - (LAST - rank) ≡ rank
rank_of_entry rank within = omega arith

pub falls_with_entry : (x y : ℕ) → y ≤ x → LAST - x ≤ LAST - y
falls_with_entry x y le = omega arith

pub distances_rise : (x y : ℕ) → x ≤ y → x / (2 * TURNS) ≤ y / (2 * TURNS)
distances_rise x y le = omega arith

-- A record's price changes by what its distance lacks to the end, and its distance is put back.

module _ (prices dist : List ℕ) (end t change : ℕ) (in_prices : t < length prices) (in_dist : t < length dist) (low : end ≤ far) where
  pub price_raised : change ≡ number prices t + (end - distance dist t) → (r : ℕ) → number (set prices t change) r + (end - distance (set dist t far) r) ≡ number prices r + (end - distance dist r)
  price_raised is r = elim (number-set prices t r change in_prices) [
    | inl p ↦ rw p.0 (omega (arith, is, get_or-set_same prices t change 0 in_prices, get_or-set_same dist t far far in_dist))
    | inr p ↦ elim (distance-set dist t r far in_dist) [ inl q ↦ absurd (p.0 q.0) | inr q ↦ omega (arith, p.1, q.1) ]
  ]

  pub price_lowered : (fp fd : List ℕ) → ((r : ℕ) → number prices r + (end - distance fd r) ≡ number fp r + (end - distance dist r)) → change + (end - distance dist t) ≡ number prices t → (r : ℕ) → number (set prices t change) r + (end - distance fd r) ≡ number fp r + (end - distance (set dist t far) r)
  price_lowered fp fd kept is r = elim (number-set prices t r change in_prices) [
    | inl p ↦ rw p.0 (omega (arith, is, kept t, get_or-set_same prices t change 0 in_prices, get_or-set_same dist t far far in_dist))
    | inr p ↦ elim (distance-set dist t r far in_dist) [ inl q ↦ absurd (p.0 q.0) | inr q ↦ omega (arith, p.1, q.1, kept r) ]
  ]

-- no distance is above that of what is far
pub top_put_back : (dist : List ℕ) (t : ℕ) → t < length dist → ((r : ℕ) → distance dist r ≤ far) → (r : ℕ) → distance (set dist t far) r ≤ far
top_put_back dist t lt top r = elim (distance-set dist t r far lt) [ inl p ↦ omega (arith, p.1) | inr p ↦ omega (arith, p.1, top r) ]

-- those that are left are near, but for the one that was put back
pub left_put_back : (dist touched : List ℕ) (i t : ℕ) → t < length dist → i < length touched → number touched i ≡ t → ((r : ℕ) → distance dist r < far → Contains (drop i touched) r) → (r : ℕ) → distance (set dist t far) r < far → Contains (drop (i + 1) touched) r
left_put_back dist touched i t lt here is whole r near = elim (distance-set dist t r far lt) [
  | inl p ↦ absurd (omega (arith, p.1, near))
  | inr p ↦
      (let cut : drop i touched ≡ number touched i ∷ drop (i + 1) touched = rw add-one (drop-cons touched i 0 here) in
      elim (Contains-cons_cases (number touched i) (drop (i + 1) touched) r (rw cut at (whole r (omega (arith, p.1, near))))) [ inl q ↦ q | inr q ↦ absurd (p.0 (q ∙ is)) ])
]
