-- Laws of places, which the proofs of the crates above cite: in how many links a record stands, and what is left of the capacities where a
-- record gives one place away. They are said of every list of capacities, which no clause of a call can range over, so they stand here.
use Rattle.std.proofs.Common.{◌≡◌, ◌≢◌, ◌==◌, ℕ, zero, suc, ◌+◌, ◌-◌, ◌<◌, ◌≤◌, ℤ, pos, ◌+ℤ◌, ◌*ℤ◌, List, [], ◌∷◌, length, set, Bool, true, false, cond, refl, sym, ap, inl, inr, arith, AllPairs, ◌≤ℤ◌, ◌∙◌, All, filter, get_or, Contains}
use Rattle.std.proofs.lemmas.Bool.{cases_eq, cases_lt, false≢true}
use Rattle.std.proofs.lemmas.Bool.Decides.{nat_tests}
use Rattle.std.proofs.lemmas.Int.{ints}
use Rattle.std.proofs.lemmas.List.Sums.{sum_by-cons}
use Rattle.std.proofs.Math.IntN.{suc_ℤ-*ℤ}
use Rattle.std.proofs.lemmas.List.{get_or-set_other, get_or-set_same, get_or_default}
use Rattle.link_base.specs.declared.rule.Candidate.{Candidate}
use Rattle.price_check.specs.Assignment.{price_of, price_sum, IsBefore, capacity_of, links_at, place_sum}

-- how often a record stands in a list, with its first member
abbrev tick : Bool → ℕ
tick b = cond b 1 0

pub links_at-here : (b : ℕ) (c : Candidate) (cs : List Candidate) → c.b ≡ b → links_at b (c ∷ cs) ≡ links_at b cs + 1
links_at-here b c cs e =
    let t : (c.b == b) ≡ true = grind (arith, nat_tests) in
    omega (arith, sum_by-cons (λ (c : Candidate). cond (c.b == b) 1 0) c cs, ap tick t)

pub links_at-other : (b : ℕ) (c : Candidate) (cs : List Candidate) → c.b ≢ b → links_at b (c ∷ cs) ≡ links_at b cs
links_at-other b c cs n =
    let t : (c.b == b) ≡ false = grind (arith, nat_tests) in
    omega (arith, sum_by-cons (λ (c : Candidate). cond (c.b == b) 1 0) c cs, ap tick t)

-- a record of B gives one place away
abbrev pub one_less : List ℕ → ℕ → List ℕ
one_less capacities b = set capacities b (capacity_of capacities b - 1)

pub place_sum-one_less : (capacities : List ℕ) (prices : List ℤ) (b : ℕ) → 0 < capacity_of capacities b → (place_sum (one_less capacities b) prices +ℤ price_of prices b) ≡ place_sum capacities prices
place_sum-one_less [] prices b some = absurd (omega arith)
place_sum-one_less (n ∷ ns) [] zero some = refl
place_sum-one_less (n ∷ ns) [] (suc b) some = refl
place_sum-one_less (zero ∷ ns) (q ∷ qs) zero some = absurd (omega arith)
place_sum-one_less (suc n ∷ ns) (q ∷ qs) zero some =
    let step : (pos (suc n) *ℤ q) ≡ (pos n *ℤ q) +ℤ q = suc_ℤ-*ℤ (pos n) q in
    let n_is : suc n - 1 ≡ n = omega arith in
    omega (arith, ints, step, ap (λ m. pos m *ℤ q) n_is)
place_sum-one_less (n ∷ ns) (q ∷ qs) (suc b) some = omega (arith, ints, place_sum-one_less ns qs b some)

-- a record with a place is there
pub place_there : (capacities : List ℕ) (b : ℕ) → 0 < capacity_of capacities b → b < length capacities
place_there [] b h = absurd (omega arith)
place_there (n ∷ ns) zero h = omega arith
place_there (n ∷ ns) (suc b) h = (let r = place_there ns b h in omega (arith, r))

-- what is left of the places where the first member takes one
pub fits-tail : (capacities : List ℕ) (c : Candidate) (cs : List Candidate) → ((b : ℕ) → links_at b (c ∷ cs) ≤ capacity_of capacities b) → (b : ℕ) → links_at b cs ≤ capacity_of (one_less capacities c.b) b
fits-tail capacities c cs fits b = elim (cases_eq c.b b) [
  | inl e ↦ (let here = links_at-here c.b c cs refl in
      let room = fits c.b in
      let within = place_there capacities c.b (omega (arith, here, room)) in
      let same : capacity_of (one_less capacities c.b) c.b ≡ capacity_of capacities c.b - 1 = get_or-set_same capacities c.b (capacity_of capacities c.b - 1) 0 within in
      rw (← e) (omega (arith, here, room, same)))
  | inr n ↦ (let keeps : capacity_of (one_less capacities c.b) b ≡ capacity_of capacities b = get_or-set_other capacities c.b b (capacity_of capacities c.b - 1) 0 (λ e. n (sym e)) in
      omega (arith, keeps, links_at-other b c cs n, fits b))
]

-- no record of A stands in two members
abbrev pub AreApart : List Candidate → Type 0
AreApart links = AllPairs (λ x y. x.a ≢ y.a) links

-- Laws of prices, which the proofs of the crates above cite: what prices add up to where a record's price is put to 0, and members whose two
-- prices add up to their value. They are said of every list of prices, which no clause of a call can range over, so they stand here.

-- pairs of a list: those with its head, and those of its rest
pub AllPairs-head : {X : Type 0} (R : X → X → Type 0) (x : X) (xs : List X) → AllPairs R (x ∷ xs) → All (R x) xs
AllPairs-head R x xs h = λ k d l. h zero (suc k) d (omega arith) (omega arith)

pub AllPairs-tail : {X : Type 0} (R : X → X → Type 0) (x : X) (xs : List X) → AllPairs R (x ∷ xs) → AllPairs R xs
AllPairs-tail R x xs h = λ i j d l m. h (suc i) (suc j) d (omega arith) (omega arith)

-- no price is below 0
abbrev pub IsFloored : List ℤ → Type 0
IsFloored prices = All (λ p. pos 0 ≤ℤ p) prices

-- a record's price is put to 0
abbrev pub without : List ℤ → ℕ → List ℤ
without prices position = set prices position (pos 0)

without-same : (prices : List ℤ) (position : ℕ) → price_of (without prices position) position ≡ pos 0
without-same [] position = refl
without-same (p ∷ ps) zero = refl
without-same (p ∷ ps) (suc position) = without-same ps position

-- a record has no price there where it has none but at the record whose price is put to 0
pub absent-without : (prices : List ℤ) (position r : ℕ) → (r ≢ position → price_of prices r ≡ pos 0) → price_of (without prices position) r ≡ pos 0
absent-without prices position r h = elim (cases_eq r position) [ inl e ↦ rw e (without-same prices position) | inr n ↦ get_or-set_other prices position r (pos 0) (pos 0) n ∙ h n ]

pub price_sum-without : (prices : List ℤ) (position : ℕ) → (price_sum (without prices position) +ℤ price_of prices position) ≡ price_sum prices
price_sum-without [] position = refl
price_sum-without (p ∷ ps) zero = omega (arith, ints)
price_sum-without (p ∷ ps) (suc position) = omega (arith, ints, price_sum-without ps position)

-- the prices of the two records add up to the candidate's value
abbrev pub IsTight : List ℤ → List ℤ → Candidate → Type 0
IsTight prices_a prices_b c = (price_of prices_a c.a +ℤ price_of prices_b c.b) ≡ c.value

pub price_sum-zero : (prices : List ℤ) → ((position : ℕ) → price_of prices position ≡ pos 0) → price_sum prices ≡ pos 0
price_sum-zero [] h = refl
price_sum-zero (p ∷ ps) h = omega (arith, ints, h zero, price_sum-zero ps (λ position. h (suc position)))

-- Laws of members, which the proofs of the crates above cite: what a test keeps of a list, and that in rising candidates no two members
-- have the same records. They are said of every list, which no clause of a call can range over, so they stand here.

pub Contains-later : {X : Type 0} (y : X) (xs : List X) (x : X) → Contains xs x → Contains (y ∷ xs) x
Contains-later y xs x h = (suc h.0, omega (arith, h.1), h.2)

kept_head : {X : Type 0} (p : X → Bool) (y : X) (ys : List X) (x : X) → (Contains ys x → Contains (filter p ys) x) → p x ≡ true → (k : ℕ) → k < length (y ∷ ys) → get_or (y ∷ ys) k x ≡ x → (b : Bool) → p y ≡ b → Contains (cond b (y ∷ filter p ys) (filter p ys)) x
kept_head p y ys x rest t zero lt e true q = (zero, omega arith, e)
kept_head p y ys x rest t zero lt e false q = absurd (false≢true (sym q ∙ (ap p e ∙ t)))
kept_head p y ys x rest t (suc k) lt e true q = Contains-later y (filter p ys) x (rest (k, omega arith, e))
kept_head p y ys x rest t (suc k) lt e false q = rest (k, omega arith, e)

-- a member that passes the test stays
pub Contains-filter : {X : Type 0} (p : X → Bool) (xs : List X) (x : X) → Contains xs x → p x ≡ true → Contains (filter p xs) x
Contains-filter p [] x h t = absurd (omega (arith, h.1))
Contains-filter {X} p (y ∷ ys) x h t = kept_head p y ys x (λ g. Contains-filter p ys x g t) t h.0 h.1 h.2 (p y) refl

-- of two candidates, one before the other, not both records are the same
pub clash : (x y : Candidate) → IsBefore x y → x.a ≡ y.a → x.b ≡ y.b → ⊥
clash x y (inl p) e f = omega (arith, p, e)
clash x y (inr p) e f = omega (arith, p.1, f)

clash_at : (u v x y : Candidate) → u ≡ x → v ≡ y → IsBefore u v → x.a ≡ y.a → x.b ≡ y.b → ⊥
clash_at u v x y eu ev h e f = clash u v h (rw (eu, ev) e) (rw (eu, ev) f)

-- two members with the same positions are one
pub same_member : (cs : List Candidate) (x y : Candidate) → AllPairs IsBefore cs → Contains cs x → Contains cs y → x.a ≡ y.a → x.b ≡ y.b → x ≡ y
same_member cs x y rising hx hy ea eb = elim (cases_lt hx.0 hy.0) [
  | inl p ↦ absurd (clash_at (get_or cs hx.0 x) (get_or cs hy.0 x) x y hx.2 (get_or_default cs hy.0 x y hy.1 ∙ hy.2) (rising hx.0 hy.0 x p hy.1) ea eb)
  | inr p ↦ elim (cases_lt hy.0 hx.0) [
    | inl q ↦ absurd (clash_at (get_or cs hy.0 x) (get_or cs hx.0 x) y x (get_or_default cs hy.0 x y hy.1 ∙ hy.2) hx.2 (rising hy.0 hx.0 x q hx.1) (sym ea) (sym eb))
    | inr q ↦ (let at : hx.0 ≡ hy.0 = omega arith in sym hx.2 ∙ (ap (λ n. get_or cs n x) at ∙ (get_or_default cs hy.0 x y hy.1 ∙ hy.2)))
  ]
]
