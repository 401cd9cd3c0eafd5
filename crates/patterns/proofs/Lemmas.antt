use Rattle.std.proofs.Common.{◌≡◌, ℕ, ◌+◌, ◌*◌, ◌^◌, ◌<◌, ◌≤◌, arith, inl, inr, ℤ, zero, suc, Bool, true, false, cond, leb, sym, ap, ◌∙◌, ◌-◌, pos, negsuc, ◌≤ℤ◌, ◌-ℤ◌, ◌/◌, ◌%◌, List, length, drop, refl, drop-cons, add-one, map}
use Rattle.std.proofs.Math.Nat.{pow-le-pow_left, pow-le-pow_right, mul-le-mul_right, mul-le-mul_left, mul-one}
use Rattle.std.proofs.lemmas.Nat.{pow-add, pow_pos, mul-le}
use Rattle.std.proofs.lemmas.Bool.{cases_lt, le-leb, lt-leb}
use Rattle.std.specs.List.{count_by, range_with_len}
use Rattle.std.proofs.lemmas.List.Sums.{sum_by-cons}
use Rattle.std.proofs.lemmas.Int.{ints}
use Rattle.patterns.specs.Patterns.{FitsWeight, IsEighthWeight, eighth_weight_of, outcome_at, outcome_with, pattern_count_by, number_of, outcomes}
use Rattle.link_base.specs.Words.{outcomes_of}
use Rattle.std.proofs.lemmas.List.{length-map}
use Rattle.link_limits.specs.declared.TheConstants.{MOST_FIELDS, MOST_PATTERNS}
use Rattle.link_base.specs.declared.rule.Outcome.{Outcome}
use Rattle.link_base.specs.declared.rule.Outcome.TheVariants.{Rare}
use Rattle.patterns.specs.PatternLaws.{outcomes_bounds, count-pos, count-le, pattern-lt}

-- a power that some multiple of keeps below another is the smaller
pub exponent_below : (low i j n : ℕ) → 1 ≤ low → low * 2 ^ i ≤ n → n < 2 ^ j → i < j
exponent_below low i j n some le lt =
    elim (cases_lt i j) [
      | inl w ↦ w
      | inr w ↦
          let up : 2 ^ j ≤ 2 ^ i = pow-le-pow_right (omega arith) w in
          let times : 1 * 2 ^ i ≤ low * 2 ^ i = mul-le-mul_right (2 ^ i) some in
          absurd (omega arith)
    ]

pub doubled : (low raised i : ℕ) → raised ≡ low * 2 ^ i → raised + raised ≡ low * 2 ^ (i + 1)
doubled low raised i e = let p : 2 ^ (i + 1) ≡ 2 ^ i * 2 ^ 1 = pow-add 2 i 1 in rw p (omega (arith, e))

-- the eighth power of a share
pub eighth : (n x : ℕ) → 1 ≤ n → n ≤ 1022 → x ≡ n → (1 ≤ x ^ 8) × (x ^ 8 < 2 ^ 80)
eighth n x some most e =
    let least : 1 ^ 8 ≤ n ^ 8 = pow-le-pow_left some 8 in
    let below : n ^ 8 ≤ 1022 ^ 8 = pow-le-pow_left most 8 in
    rw e (omega (arith, least), omega (arith, below))

-- a test that passes on the first t numbers alone counts t
count_prefix : (p : ℕ → Bool) (n a t : ℕ) → t ≤ n → ((j : ℕ) → a ≤ j → j < a + t → p j ≡ true) → ((j : ℕ) → a + t ≤ j → p j ≡ false) → count_by p (range_with_len a n) ≡ t
count_prefix p zero a t le passes fails = omega arith
count_prefix p (suc n) a zero le passes fails =
    let here : p a ≡ false = fails a (omega arith) in
    let rest = count_prefix p n (a + 1) zero (omega arith) (λ j ge lt. absurd (omega arith)) (λ j ge. fails j (omega arith)) in
    rw (sum_by-cons (λ x. cond (p x) 1 0) a (range_with_len (a + 1) n), here) (omega (arith, rest))
count_prefix p (suc n) a (suc t) le passes fails =
    let here : p a ≡ true = passes a (omega arith) (omega arith) in
    let rest = count_prefix p n (a + 1) t (omega arith) (λ j ge lt. passes j (omega arith) (omega arith)) (λ j ge. fails j (omega arith)) in
    rw (sum_by-cons (λ x. cond (p x) 1 0) a (range_with_len (a + 1) n), here) (omega (arith, rest))

powers_up : (low i j : ℕ) → i ≤ j → low * 2 ^ i ≤ low * 2 ^ j
powers_up low i j h = let up : 2 ^ i ≤ 2 ^ j = pow-le-pow_right (omega arith) h in mul-le-mul_left low up

powers_down : (low i j : ℕ) → low * 2 ^ i < low * 2 ^ j → i < j
powers_down low i j lt =
    elim (cases_lt i j) [
      | inl w ↦ w
      | inr w ↦ absurd (omega (arith, powers_up low j i w))
    ]

up_greatest : (m u n : ℕ) → m ^ 8 < u ^ 8 * 2 ^ (n + 1) → (v : ℤ) → FitsWeight m u v → v ≤ℤ pos n
up_greatest m u n over (pos k) fits = let lt : k < n + 1 = powers_down (u ^ 8) k (n + 1) (omega (arith, fits)) in omega (arith, ints)
up_greatest m u n over (negsuc k) fits = omega (arith, ints)

pub weight_up : (m u n : ℕ) → u ^ 8 * 2 ^ n ≤ m ^ 8 → m ^ 8 < u ^ 8 * 2 ^ (n + 1) → IsEighthWeight m u (pos n)
weight_up m u n fits over = record { fits = fits; greatest = up_greatest m u n over }

down_greatest : (m u n : ℕ) → m ^ 8 * 2 ^ n < u ^ 8 → m ^ 8 < u ^ 8 → (v : ℤ) → FitsWeight m u v → v ≤ℤ negsuc n
down_greatest m u n under less (pos k) fits = absurd (omega (arith, fits, powers_up (u ^ 8) 0 k (omega arith)))
down_greatest m u n under less (negsuc k) fits = let lt : n < k + 1 = powers_down (m ^ 8) n (k + 1) (omega (arith, fits)) in omega (arith, ints)

pub weight_down : (m u n : ℕ) → u ^ 8 ≤ m ^ 8 * 2 ^ (n + 1) → m ^ 8 * 2 ^ n < u ^ 8 → m ^ 8 < u ^ 8 → IsEighthWeight m u (negsuc n)
weight_down m u n fits under less = record { fits = fits; greatest = down_greatest m u n under less }

-- the count of those that fit, where the threshold is t
value_by : (m u t : ℕ) → t ≤ 160 → ((j : ℕ) → j < t → u ^ 8 * 2 ^ j ≤ m ^ 8 * 2 ^ 80) → ((j : ℕ) → t ≤ j → m ^ 8 * 2 ^ 80 < u ^ 8 * 2 ^ j) → eighth_weight_of m u ≡ pos t -ℤ pos 81
unfolding eighth_weight_of
value_by m u t le passes fails =
    ap (λ n. pos n -ℤ pos 81) (count_prefix (λ n. leb (u ^ 8 * 2 ^ n) (m ^ 8 * 2 ^ 80)) 160 0 t le (λ j ge lt. le-leb _ _ (passes j (omega arith))) (λ j ge. lt-leb _ _ (fails j (omega arith))))

pub value_up : (m u n : ℕ) → n < 80 → u ^ 8 * 2 ^ n ≤ m ^ 8 → m ^ 8 < u ^ 8 * 2 ^ (n + 1) → eighth_weight_of m u ≡ pos n
value_up m u n small fits over =
    value_by m u (n + 81) (omega arith)
    (λ j lt. let split : 2 ^ (n + 80) ≡ 2 ^ n * 2 ^ 80 = pow-add 2 n 80 in
    let scaled : u ^ 8 * 2 ^ n * 2 ^ 80 ≤ m ^ 8 * 2 ^ 80 = mul-le-mul_right (2 ^ 80) fits in
    let up : u ^ 8 * 2 ^ j ≤ u ^ 8 * 2 ^ (n + 80) = powers_up (u ^ 8) j (n + 80) (omega arith) in
    omega (arith, rw split at up, scaled))
    (λ j ge. let split : 2 ^ (n + 1 + 80) ≡ 2 ^ (n + 1) * 2 ^ 80 = pow-add 2 (n + 1) 80 in
    let up : u ^ 8 * 2 ^ (n + 1 + 80) ≤ u ^ 8 * 2 ^ j = powers_up (u ^ 8) (n + 1 + 80) j (omega arith) in
    let scaled : (m ^ 8 + 1) * 2 ^ 80 ≤ u ^ 8 * 2 ^ (n + 1) * 2 ^ 80 = mul-le-mul_right (2 ^ 80) (omega arith) in
    omega (arith, rw split at up, scaled))
    ∙ omega (arith, ints)

negative : (n : ℕ) → n < 80 → pos (80 - n) -ℤ pos 81 ≡ negsuc n
negative n small = omega (arith, ints)

pub value_down : (m u n : ℕ) → n < 80 → u ^ 8 ≤ m ^ 8 * 2 ^ (n + 1) → m ^ 8 * 2 ^ n < u ^ 8 → eighth_weight_of m u ≡ negsuc n
value_down m u n small fits under =
    value_by m u (80 - n) (omega arith)
    (λ j lt. let split : 2 ^ (n + 1 + j) ≡ 2 ^ (n + 1) * 2 ^ j = pow-add 2 (n + 1) j in
    let scaled : u ^ 8 * 2 ^ j ≤ m ^ 8 * 2 ^ (n + 1) * 2 ^ j = mul-le-mul_right (2 ^ j) fits in
    let up : m ^ 8 * 2 ^ (n + 1 + j) ≤ m ^ 8 * 2 ^ 80 = powers_up (m ^ 8) (n + 1 + j) 80 (omega arith) in
    omega (arith, rw split at up, scaled))
    (λ j ge. let split : 2 ^ (n + j) ≡ 2 ^ n * 2 ^ j = pow-add 2 n j in
    let some : 0 < 2 ^ j = pow_pos j in
    let scaled : (m ^ 8 * 2 ^ n + 1) * 2 ^ j ≤ u ^ 8 * 2 ^ j = mul-le-mul_right (2 ^ j) (omega arith) in
    let up : m ^ 8 * 2 ^ 80 ≤ m ^ 8 * 2 ^ (n + j) = powers_up (m ^ 8) 80 (n + j) (omega arith) in
    omega (arith, rw split at up, scaled, some))
    ∙ negative n small

-- the two results of the search, where low and high are the eighth powers
module _ (m u n low high : ℕ) (w : ℤ) (eh : high ≡ m ^ 8) (el : low ≡ u ^ 8) (small : n < 80) where
  pub result_up : w ≡ pos n → low * 2 ^ n ≤ high → high < low * 2 ^ (n + 1) → IsEighthWeight m u w × (w ≡ eighth_weight_of m u)
  result_up e fits over =
      let fits' : u ^ 8 * 2 ^ n ≤ m ^ 8 = rw (eh, el) at fits in
      let over' : m ^ 8 < u ^ 8 * 2 ^ (n + 1) = rw (eh, el) at over in
      (rw e (weight_up m u n fits' over'), e ∙ sym (value_up m u n small fits' over'))

  pub result_down : w ≡ negsuc n → high * 2 ^ n < low → low ≤ high * 2 ^ (n + 1) → IsEighthWeight m u w × (w ≡ eighth_weight_of m u)
  result_down e under fits =
      let fits' : u ^ 8 ≤ m ^ 8 * 2 ^ (n + 1) = rw (eh, el) at fits in
      let under' : m ^ 8 * 2 ^ n < u ^ 8 = rw (eh, el) at under in
      let less : m ^ 8 < u ^ 8 = omega (arith, under', powers_up (m ^ 8) 0 n (omega arith)) in
      (rw e (weight_down m u n fits' under' less), e ∙ sym (value_down m u n small fits' under'))

-- Steps of the loops over the fields.

-- what the front of a pattern adds up to
pub total-bound : (n c k w : ℕ) → 1 ≤ c → n * c + k ≡ w → n ≤ w
total-bound n c k w h e = let product = mul-le n 1 n c (omega arith) h in omega (arith, mul-one n)

pub count-next : (rares : List Bool) (i n : ℕ) (rare : Bool) → length rares ≤ 6 → n * pattern_count_by (drop i rares) ≡ pattern_count_by rares → n * outcomes_of rare ≤ 16384
count-next rares i n rare few e =
    let whole = count-le rares 6 few in
    let front = total-bound n (pattern_count_by (drop i rares)) 0 (pattern_count_by rares) (count-pos (drop i rares)) (omega (arith, e)) in
    let base = outcomes_bounds rare in
    let product = mul-le n (outcomes_of rare) 4096 4 (omega arith) base.1 in
    omega arith

-- one field further
pub outcome-step : (rares : List Bool) (i k p : ℕ) → i < k → k < length rares → outcome_at (drop i rares) p (k - i) ≡ outcome_at (drop (i + 1) rares) (p % pattern_count_by (drop (i + 1) rares)) (k - (i + 1))
outcome-step rares i k p h within =
    let less : k - i ≡ suc (k - (i + 1)) = omega arith in
    rw (less, drop-cons rares i false (omega arith), add-one) refl

pub outcome-last : (rares : List Bool) (k p : ℕ) → k < length rares → outcome_at (drop k rares) p (k - k) ≡ outcome_with (p / pattern_count_by (drop (k + 1) rares))
outcome-last rares k p within =
    let none : k - k ≡ 0 = omega arith in
    rw (none, drop-cons rares k false within, add-one) refl

pub next-le : (n : ℕ) (r : Bool) → n < MOST_PATTERNS → n * outcomes_of r ≤ 16380
next-le n r h = let base = outcomes_bounds r in let product = mul-le n (outcomes_of r) 4095 4 (omega arith) base.1 in omega arith

module _ {C S : Type 0} {rare : C → Bool} {outcome : C → S → S → Outcome} (only_rare : (c : C) (x y : S) → outcome c x y ≡ Rare → rare c ≡ true) where
  pub front-lt : (cs : List C) (xs ys : List S) (rest : List Bool) (n m : ℕ) → length cs ≤ MOST_FIELDS → length xs ≡ length cs → length ys ≡ length cs → n * pattern_count_by rest + m ≡ number_of (map rare cs) (outcomes outcome cs xs ys) → n < MOST_PATTERNS
  front-lt cs xs ys rest n m few h k e =
      let whole = pattern-lt only_rare cs xs ys h k in
      let count = count-le (map rare cs) 6 (simp length-map few) in
      let front = total-bound n (pattern_count_by rest) m _ (count-pos rest) e in
      omega arith
