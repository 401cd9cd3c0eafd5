-- Laws of the numbers of patterns: there are as many as the product of the outcomes, each number is below that, its digits are the outcomes,
-- and it does not change when the two rows change places, by the laws of the comparators alone.
use Rattle.std.proofs.Common.{◌≡◌, ◌<◌, ◌≤◌, ◌-◌, ℕ, zero, suc, ◌^◌, Bool, true, false, List, [], ◌∷◌, length, refl, arith, map, get_or, mul_comm, cond, leb, ◌+◌, ◌*◌, ◌/◌, ◌%◌, drop, drop-cons, ap, sym, ◌∙◌, ◌++◌, pos, ◌-ℤ◌, ◌≤ℤ◌, le-leb}
use Rattle.std.proofs.Math.Nat.{one-le-pow, pow-succ', pow-le-pow_left}
use Rattle.std.proofs.lemmas.Nat.{mul-le, div-mul-add, mod-mul-add, mul-add-lt, div_below, mod_below, pow-add}
use Rattle.link_base.specs.Words.{outcomes_of, IsShares}
use Rattle.patterns.specs.Patterns.{outcome_at, outcome_with, pattern_count_by, digit_of, number_of, outcomes, eighth_weight_of, base_of, pattern_count_of, rare_in, chance_of, m_of, u_of, weight_of}
use Rattle.std.specs.Prelude.{⊤}
use Rattle.std.proofs.lemmas.List.{length-map}
use Rattle.link_base.specs.declared.rule.Outcome.{Outcome}
use Rattle.link_base.specs.declared.rule.Outcome.TheVariants.{Agree, Disagree, Missing, Rare}
use Rattle.std.specs.List.{count_by, range_with_len, sum_by}
use Rattle.std.proofs.lemmas.Int.{ints}
use Rattle.std.proofs.lemmas.List.FromFn.{length-range_with_len}
use Rattle.std.proofs.lemmas.List.Sums.{sum_by-cons, count_by-le-length, sum_by-append}
use Rattle.link_base.specs.declared.shares.FieldShares.{FieldShares}

pub outcomes_bounds : (rare : Bool) → (3 ≤ outcomes_of rare) × (outcomes_of rare ≤ 4)
outcomes_bounds true = (omega arith, omega arith)
outcomes_bounds false = (omega arith, omega arith)

pub count-pos : (rares : List Bool) → 1 ≤ pattern_count_by rares
count-pos [] = omega arith
count-pos (rare ∷ rares) =
    let base = outcomes_bounds rare in
    let product = mul-le 1 1 (outcomes_of rare) (pattern_count_by rares) (omega arith) (count-pos rares) in
    omega arith

-- one field or more have at least three patterns
pub count-some : (rares : List Bool) → 1 ≤ length rares → 3 ≤ pattern_count_by rares
count-some [] some = absurd (omega arith)
count-some (rare ∷ rares) some =
    let base = outcomes_bounds rare in
    let product = mul-le 3 1 (outcomes_of rare) (pattern_count_by rares) base.0 (count-pos rares) in
    omega arith

pub count-le : (rares : List Bool) (n : ℕ) → length rares ≤ n → pattern_count_by rares ≤ 4 ^ n
count-le [] n h = one-le-pow n 4 (omega arith)
count-le (rare ∷ rares) zero h = absurd (omega arith)
count-le (rare ∷ rares) (suc n) h =
    let base = outcomes_bounds rare in
    let product = mul-le (outcomes_of rare) (pattern_count_by rares) 4 (4 ^ n) base.1 (count-le rares n (omega arith)) in
    let power = pow-succ' 4 n in
    omega (arith, product, power)

-- one outcome for each field, rare only where the field may be
abbrev pub FitsShape : List Bool → List Outcome → Type 0
FitsShape [] [] = ⊤
FitsShape [] (outcome ∷ outcomes) = ⊥
FitsShape (rare ∷ rares) [] = ⊥
FitsShape (rare ∷ rares) (outcome ∷ outcomes) = (outcome ≡ Rare → rare ≡ true) × FitsShape rares outcomes

pub digit-le : (o : Outcome) → digit_of o ≤ 3
digit-le Agree = omega arith
digit-le Disagree = omega arith
digit-le Missing = omega arith
digit-le Rare = omega arith

pub digit-lt : (r : Bool) (o : Outcome) → (o ≡ Rare → r ≡ true) → digit_of o < outcomes_of r
digit-lt true o h = let bound = digit-le o in omega arith
digit-lt false Agree h = omega arith
digit-lt false Disagree h = omega arith
digit-lt false Missing h = omega arith
digit-lt false Rare h = let never : false ≡ true = h refl in cc

with-digit : (o : Outcome) → outcome_with (digit_of o) ≡ o
with-digit Agree = refl
with-digit Disagree = refl
with-digit Missing = refl
with-digit Rare = refl

pub number-lt : (rs : List Bool) (os : List Outcome) → FitsShape rs os → number_of rs os < pattern_count_by rs
number-lt [] [] h = omega arith
number-lt [] (o ∷ os) h = absurd h
number-lt (r ∷ rs) [] h = absurd h
number-lt (r ∷ rs) (o ∷ os) h =
    let placed = mul-add-lt (digit_of o) (pattern_count_by rs) (number_of rs os) (outcomes_of r) (digit-lt r o h.0) (number-lt rs os h.1) in
    rw (mul_comm (outcomes_of r) (pattern_count_by rs)) placed

-- each digit of the number is its outcome
pub outcome-number : (rs : List Bool) (os : List Outcome) (k : ℕ) (d : Outcome) → FitsShape rs os → k < length rs → outcome_at rs (number_of rs os) k ≡ get_or os k d
outcome-number [] os k d fits h = absurd (omega arith)
outcome-number (r ∷ rs) [] k d fits h = absurd fits
outcome-number (r ∷ rs) (o ∷ os) zero d fits h = rw (div-mul-add (digit_of o) (pattern_count_by rs) (number_of rs os) (number-lt rs os fits.1)) (with-digit o)
outcome-number (r ∷ rs) (o ∷ os) (suc k) d fits h = rw (mod-mul-add (digit_of o) (pattern_count_by rs) (number_of rs os) (number-lt rs os fits.1)) (outcome-number rs os k d fits.1 (omega arith))

module _ {C S : Type 0} {outcome : C → S → S → Outcome} where
  -- from the law of a comparator alone
  pub outcomes-swap : ((c : C) (x y : S) → outcome c x y ≡ outcome c y x) → (cs : List C) (xs ys : List S) → outcomes outcome cs xs ys ≡ outcomes outcome cs ys xs
  outcomes-swap law [] xs ys = refl
  outcomes-swap law (c ∷ cs) [] [] = refl
  outcomes-swap law (c ∷ cs) [] (y ∷ ys) = refl
  outcomes-swap law (c ∷ cs) (x ∷ xs) [] = refl
  outcomes-swap law (c ∷ cs) (x ∷ xs) (y ∷ ys) = λ i. law c x y i ∷ outcomes-swap law cs xs ys i

module _ {C S : Type 0} {rare : C → Bool} {outcome : C → S → S → Outcome} where
  pub outcomes_fit : ((c : C) (x y : S) → outcome c x y ≡ Rare → rare c ≡ true) → (cs : List C) (xs ys : List S) → length xs ≡ length cs → length ys ≡ length cs → FitsShape (map rare cs) (outcomes outcome cs xs ys)
  outcomes_fit law [] xs ys h k = tt
  outcomes_fit law (c ∷ cs) [] ys h k = absurd (omega arith)
  outcomes_fit law (c ∷ cs) (x ∷ xs) [] h k = absurd (omega arith)
  outcomes_fit law (c ∷ cs) (x ∷ xs) (y ∷ ys) h k = (law c x y, outcomes_fit law cs xs ys (omega arith) (omega arith))

module _ {C S : Type 0} {rare : C → Bool} {outcome : C → S → S → Outcome} (only_rare : (c : C) (x y : S) → outcome c x y ≡ Rare → rare c ≡ true) where
  pub pattern-lt : (cs : List C) (xs ys : List S) → length xs ≡ length cs → length ys ≡ length cs → number_of (map rare cs) (outcomes outcome cs xs ys) < pattern_count_by (map rare cs)
  pattern-lt cs xs ys h k = number-lt (map rare cs) (outcomes outcome cs xs ys) (outcomes_fit only_rare cs xs ys h k)

  pub outcome-pattern : (cs : List C) (xs ys : List S) → length xs ≡ length cs → length ys ≡ length cs → (k : ℕ) (d : Outcome) → k < length cs → outcome_at (map rare cs) (number_of (map rare cs) (outcomes outcome cs xs ys)) k ≡ get_or (outcomes outcome cs xs ys) k d
  outcome-pattern cs xs ys h l k d within = outcome-number (map rare cs) (outcomes outcome cs xs ys) k d (outcomes_fit only_rare cs xs ys h l) (simp length-map within)

-- Laws of the chances and the weight of a pattern: each chance is positive and at most the whole, those of all patterns add up to the whole,
-- and a weight is within 80 eighths of a bit a field below, and 79 above.

pub pattern_count_pos : (shares : List FieldShares) → 0 < pattern_count_of shares
pattern_count_pos shares = omega (arith, count-pos (rare_in shares))

pub pattern_count_small : (shares : List FieldShares) → length shares ≤ 6 → pattern_count_of shares ≤ 4096
pattern_count_small shares few = omega (arith, count-le (rare_in shares) 6 (simp length-map few))

-- the fields from a place on
pub drop_step : (shares : List FieldShares) (i : ℕ) (field : FieldShares) → i < length shares → field ≡ get_or shares i field → drop i shares ≡ field ∷ drop (i + 1) shares
drop_step shares i field lt e =
    let one : suc i ≡ i + 1 = omega arith in
    drop-cons shares i field lt ∙ ap (λ f. f ∷ drop (suc i) shares) (sym e) ∙ ap (λ n. field ∷ drop n shares) one

pub share_bounds : (rare : Bool) (xs : List ℕ) (k : ℕ) → IsShares (outcomes_of rare) xs → k < outcomes_of rare → (1 ≤ get_or xs k 0) × (get_or xs k 0 ≤ 1022)
share_bounds rare (a ∷ b ∷ c ∷ d ∷ []) zero h lt = let n = (outcomes_bounds rare).0 in (h.1 0 lt, omega (arith, h.3, h.1 1 (omega (arith, n)), h.1 2 (omega (arith, n))))
share_bounds rare (a ∷ b ∷ c ∷ d ∷ []) (suc zero) h lt = let n = (outcomes_bounds rare).0 in (h.1 1 lt, omega (arith, h.3, h.1 0 (omega (arith, n)), h.1 2 (omega (arith, n))))
share_bounds rare (a ∷ b ∷ c ∷ d ∷ []) (suc (suc zero)) h lt = let n = (outcomes_bounds rare).0 in (h.1 2 lt, omega (arith, h.3, h.1 0 (omega (arith, n)), h.1 1 (omega (arith, n))))
share_bounds rare (a ∷ b ∷ c ∷ d ∷ []) (suc (suc (suc zero))) h lt = let n = (outcomes_bounds rare).0 in (h.1 3 lt, omega (arith, h.3, h.1 0 (omega (arith, n)), h.1 1 (omega (arith, n))))
share_bounds rare (a ∷ b ∷ c ∷ d ∷ []) (suc (suc (suc (suc k)))) h lt = absurd (omega (arith, lt, (outcomes_bounds rare).1))
share_bounds rare [] k h lt = absurd (omega (arith, h.0))
share_bounds rare (a ∷ []) k h lt = absurd (omega (arith, h.0))
share_bounds rare (a ∷ b ∷ []) k h lt = absurd (omega (arith, h.0))
share_bounds rare (a ∷ b ∷ c ∷ []) k h lt = absurd (omega (arith, h.0))
share_bounds rare (a ∷ b ∷ c ∷ d ∷ e ∷ xs) k h lt = absurd (omega (arith, h.0))

-- the digit of the first field, in range, and the share there
first_in : (field : FieldShares) (fields : List FieldShares) (pattern : ℕ) → pattern < pattern_count_of (field ∷ fields) → pattern / pattern_count_of fields < base_of field
first_in field fields pattern lt = div_below pattern (pattern_count_of fields) (base_of field) (pattern_count_pos fields) lt

later_in : (fields : List FieldShares) (pattern : ℕ) → pattern % pattern_count_of fields < pattern_count_of fields
later_in fields pattern = mod_below pattern (pattern_count_of fields) (pattern_count_pos fields)

-- the shares that a chance is made of
abbrev pub AreShares : (FieldShares → List ℕ) → Type 0
AreShares shares = (field : FieldShares) → IsShares (outcomes_of field.rare) (shares field)

chance_pos : (shares : FieldShares → List ℕ) → AreShares shares → (fields : List FieldShares) (pattern : ℕ) → pattern < pattern_count_of fields → 0 < chance_of shares fields pattern
chance_pos shares h [] pattern lt = omega arith
chance_pos shares h (field ∷ fields) pattern lt =
    let share : 1 ≤ get_or (shares field) (pattern / pattern_count_of fields) 0 = (h field).1 _ (first_in field fields pattern lt) in
    let rest : 1 ≤ chance_of shares fields (pattern % pattern_count_of fields) = omega (arith, chance_pos shares h fields (pattern % pattern_count_of fields) (later_in fields pattern)) in
    omega (arith, mul-le 1 1 _ _ share rest)

pub m_of_pos : (shares : List FieldShares) (pattern : ℕ) → pattern < pattern_count_of shares → 0 < m_of shares pattern
m_of_pos = chance_pos (λ field. field.m) (λ field. field.of_matched)

pub u_of_pos : (shares : List FieldShares) (pattern : ℕ) → pattern < pattern_count_of shares → 0 < u_of shares pattern
u_of_pos = chance_pos (λ field. field.u) (λ field. field.of_unmatched)

-- one field more
pub product_small : (share rest n : ℕ) → share ≤ 1022 → rest ≤ 1024 ^ n → share * rest ≤ 1024 ^ (n + 1)
product_small share rest n h k =
    let p : 1024 ^ (n + 1) ≡ 1024 ^ n * 1024 ^ 1 = pow-add 1024 n 1 in
    let most : share * rest ≤ 1024 * 1024 ^ n = mul-le share rest 1024 (1024 ^ n) (omega (arith, h)) k in
    rw p (omega (arith, most))

-- a chance is at most the whole
chance_small : (shares : FieldShares → List ℕ) → AreShares shares → (fields : List FieldShares) (pattern : ℕ) → pattern < pattern_count_of fields → chance_of shares fields pattern ≤ 1024 ^ length fields
chance_small shares h [] pattern lt = omega arith
chance_small shares h (field ∷ fields) pattern lt =
    let share = share_bounds field.rare (shares field) (pattern / pattern_count_of fields) (h field) (first_in field fields pattern lt) in
    let one : length (field ∷ fields) ≡ length fields + 1 = omega arith in
    rw one (product_small _ _ (length fields) share.1 (chance_small shares h fields (pattern % pattern_count_of fields) (later_in fields pattern)))

pub m_of_small : (shares : List FieldShares) (pattern : ℕ) → pattern < pattern_count_of shares → m_of shares pattern ≤ 1024 ^ length shares
m_of_small = chance_small (λ field. field.m) (λ field. field.of_matched)

pub u_of_small : (shares : List FieldShares) (pattern : ℕ) → pattern < pattern_count_of shares → u_of shares pattern ≤ 1024 ^ length shares
u_of_small = chance_small (λ field. field.u) (λ field. field.of_unmatched)

count_first : (p : ℕ → Bool) (n : ℕ) → p 0 ≡ true → 1 ≤ count_by p (range_with_len 0 (suc n))
count_first p n first =
    rw (sum_by-cons (λ x. cond (p x) 1 0) 0 (range_with_len 1 n), first) (omega arith)

count_most : (p : ℕ → Bool) (n : ℕ) → count_by p (range_with_len 0 n) ≤ n
count_most p n = omega (arith, count_by-le-length p (range_with_len 0 n), length-range_with_len 0 n)

between : (c : ℕ) → 1 ≤ c → c ≤ 160 → ((pos 0 -ℤ pos 80) ≤ℤ (pos c -ℤ pos 81)) × ((pos c -ℤ pos 81) ≤ℤ pos 79)
between c some most = (omega (arith, ints), omega (arith, ints))

eighth_range : (m u : ℕ) → 1 ≤ m → u ≤ 1022 → ((pos 0 -ℤ pos 80) ≤ℤ eighth_weight_of m u) × (eighth_weight_of m u ≤ℤ pos 79)
unfolding eighth_weight_of
eighth_range m u some small =
    let p : ℕ → Bool = λ n. leb (u ^ 8 * 2 ^ n) (m ^ 8 * 2 ^ 80) in
    let um : u ^ 8 ≤ 1022 ^ 8 = pow-le-pow_left small 8 in
    let mm : 1 ^ 8 ≤ m ^ 8 = pow-le-pow_left some 8 in
    let first : p 0 ≡ true = le-leb _ _ (omega (arith, um, mm)) in
    between (count_by p (range_with_len 0 160)) (count_first p 159 first) (count_most p 160)

-- a pattern's weight is within 80 eighths a field below, and 79 above
pub weight_range : (shares : List FieldShares) (pattern : ℕ) → pattern < pattern_count_of shares → ((pos 0 -ℤ pos (80 * length shares)) ≤ℤ weight_of shares pattern) × (weight_of shares pattern ≤ℤ pos (79 * length shares))
weight_range [] pattern lt = (omega (arith, ints), omega (arith, ints))
weight_range (field ∷ fields) pattern lt =
    let digit = first_in field fields pattern lt in
    let m = share_bounds field.rare field.m (pattern / pattern_count_of fields) field.of_matched digit in
    let u = share_bounds field.rare field.u (pattern / pattern_count_of fields) field.of_unmatched digit in
    let first = eighth_range _ _ m.0 u.1 in
    let rest = weight_range fields (pattern % pattern_count_of fields) (later_in fields pattern) in
    (omega (arith, ints, first.0, rest.0), omega (arith, ints, first.1, rest.1))

range_split : (a n k : ℕ) → range_with_len a (n + k) ≡ range_with_len a n ++ range_with_len (a + n) k
range_split a zero k =
    let none : 0 + k ≡ k = omega arith in
    let here : a + 0 ≡ a = omega arith in
    rw (none, here) refl
range_split a (suc n) k =
    let more : suc n + k ≡ suc (n + k) = omega arith in
    let there : a + suc n ≡ a + 1 + n = omega arith in
    rw (more, there) (ap (λ l. a ∷ l) (range_split (a + 1) n k))

block_sum : (h g : ℕ → ℕ) (c s t n : ℕ) → ((k : ℕ) → k < n → h (s + k) ≡ c * g (t + k)) → sum_by h (range_with_len s n) ≡ c * sum_by g (range_with_len t n)
block_sum h g c s t zero same = omega arith
block_sum h g c s t (suc n) same =
    let s_here : s + 0 ≡ s = omega arith in
    let t_here : t + 0 ≡ t = omega arith in
    let first : h s ≡ c * g t = rw (s_here, t_here) at (same 0 (omega arith)) in
    let rest = block_sum h g c (s + 1) (t + 1) n (λ k lt. let s_next : s + 1 + k ≡ s + suc k = omega arith in
    let t_next : t + 1 + k ≡ t + suc k = omega arith in
    rw (s_next, t_next) (same (suc k) (omega arith))) in
    omega (arith, sum_by-cons h s (range_with_len (s + 1) n), sum_by-cons g t (range_with_len (t + 1) n), ap (λ x. c * x) (sum_by-cons g t (range_with_len (t + 1) n)), first, rest)

-- a sum over numbers of two digits is the product of the sums over each
digits_sum : (f g : ℕ → ℕ) (d a n : ℕ) → sum_by (λ p. f (p / n) * g (p % n)) (range_with_len (d * n) (a * n)) ≡ sum_by f (range_with_len d a) * sum_by g (range_with_len 0 n)
digits_sum f g d zero n = let none : 0 * n ≡ 0 = omega arith in rw none (omega arith)
digits_sum f g d (suc a) n =
    let h : ℕ → ℕ = λ p. f (p / n) * g (p % n) in
    let more : suc a * n ≡ n + a * n = omega arith in
    let next : d * n + n ≡ (d + 1) * n = omega arith in
    let one : suc d ≡ d + 1 = omega arith in
    let first = block_sum h g (f d) (d * n) 0 n (λ k lt. let here : 0 + k ≡ k = omega arith in rw (div-mul-add d n k lt, mod-mul-add d n k lt, here) refl) in
    let rest = digits_sum f g (d + 1) a n in
    let parts = sum_by-append h (range_with_len (d * n) n) (range_with_len (d * n + n) (a * n)) in
    let whole = ap (sum_by h) (range_split (d * n) n (a * n)) in
    let placed = ap (λ x. sum_by h (range_with_len x (a * n))) next in
    let split = ap (λ x. x * sum_by g (range_with_len 0 n)) (sum_by-cons f d (range_with_len (d + 1) a)) in
    rw more (omega (arith, whole, parts, placed, first, rest, split))

-- the shares of a field add up to 1,024
shares_sum : (rare : Bool) (xs : List ℕ) → IsShares (outcomes_of rare) xs → sum_by (λ k. get_or xs k 0) (range_with_len 0 (outcomes_of rare)) ≡ 1024
shares_sum true (a ∷ b ∷ c ∷ d ∷ []) h = omega (arith, h.3)
shares_sum false (a ∷ b ∷ c ∷ d ∷ []) h = omega (arith, h.3, h.2 3 (omega arith))
shares_sum rare [] h = absurd (omega (arith, h.0))
shares_sum rare (a ∷ []) h = absurd (omega (arith, h.0))
shares_sum rare (a ∷ b ∷ []) h = absurd (omega (arith, h.0))
shares_sum rare (a ∷ b ∷ c ∷ []) h = absurd (omega (arith, h.0))
shares_sum rare (a ∷ b ∷ c ∷ d ∷ e ∷ xs) h = absurd (omega (arith, h.0))

whole_step : (fields : List FieldShares) (one rest : ℕ) → one ≡ 1024 → rest ≡ 1024 ^ length fields → one * rest ≡ 1024 ^ (length fields + 1)
whole_step fields one rest e f = let p : 1024 ^ (length fields + 1) ≡ 1024 ^ length fields * 1024 ^ 1 = pow-add 1024 (length fields) 1 in rw (e, f, p) (omega arith)

chance_whole : (shares : FieldShares → List ℕ) → AreShares shares → (fields : List FieldShares) → sum_by (chance_of shares fields) (range_with_len 0 (pattern_count_of fields)) ≡ 1024 ^ length fields
chance_whole shares h [] = omega arith
chance_whole shares h (field ∷ fields) =
    let n = pattern_count_of fields in
    let start : 0 * n ≡ 0 = omega arith in
    let longer : length (field ∷ fields) ≡ length fields + 1 = omega arith in
    let both = digits_sum (λ k. get_or (shares field) k 0) (chance_of shares fields) 0 (base_of field) n in
    rw longer (rw start at both ∙ whole_step fields _ _ (shares_sum field.rare (shares field) (h field)) (chance_whole shares h fields))

pub m_whole : (shares : List FieldShares) → sum_by (m_of shares) (range_with_len 0 (pattern_count_of shares)) ≡ 1024 ^ length shares
m_whole = chance_whole (λ field. field.m) (λ field. field.of_matched)

pub u_whole : (shares : List FieldShares) → sum_by (u_of shares) (range_with_len 0 (pattern_count_of shares)) ≡ 1024 ^ length shares
u_whole = chance_whole (λ field. field.u) (λ field. field.of_unmatched)
