-- Laws of counted pairs: each pair of a status has one outcome in a field, none is rare where the field may not be, and a sample with
-- pairs of both statuses has counted ones. Proofs of the crates above cite them for the counts that are defined.
use Rattle.std.proofs.Common.{◌≡◌, ◌<◌, ◌≤◌, ◌+◌, ◌/◌, ◌%◌, ◌∷◌, ◌∙◌, ◌==◌, ℕ, zero, suc, Bool, true, false, not, cond, List, [], length, map, get_or, Some, None, refl, ap, arith, if◌then◌else◌, ltb, eqb, ◌||◌, ◌&&◌, ◌*◌, sum, div-mul-le_self, le_of_mul-le-mul_right, lt_of_mul-lt-mul_right}
use Rattle.std.specs.List.{All, filter, list_any, sum_by}
use Rattle.std.proofs.lemmas.List.Sums.{length-filter, sum_by-cons}
use Rattle.std.proofs.lemmas.Nat.{div_below, mod_below, div-add-mod'}
use Rattle.link_base.specs.Words.{outcomes_of, IsShares}
use Rattle.link_base.specs.declared.rule.Outcome.{Outcome}
use Rattle.link_base.specs.declared.rule.Outcome.TheVariants.{Agree, Disagree, Missing, Rare}
use Rattle.patterns.specs.Patterns.{digit_of, outcome_at, outcome_with, pattern_count_by}
use Rattle.patterns.specs.PatternLaws.{count-pos}
use Rattle.sample_counts.specs.declared.counts.Judged.{Judged}
use Rattle.sample_counts.specs.declared.reviewed.Reviewed.{Reviewed}
use Rattle.sample_counts.specs.Counts.{digit_in, has_status, is_digit}
use Rattle.std.proofs.lemmas.Bool.Decides.{nat_tests}
use Rattle.std.proofs.lemmas.List.{get_or_past}
use Rattle.sample_counts.specs.Remainders.{ahead_of, left_of, quota_of, share_of, spread_of}

-- an element more of a count
pub filter-cons : {X : Type 0} (p : X → Bool) (x : X) (xs : List X) → length (filter p (x ∷ xs)) ≡ cond (p x) 1 0 + length (filter p xs)
filter-cons p x xs = omega (arith, length-filter p (x ∷ xs), length-filter p xs, sum_by-cons (λ y. cond (p y) 1 0) x xs)

one-digit : (o : Outcome) (s : Bool) → cond (is_digit 0 (if s then Some (digit_of o) else None)) 1 0 + cond (is_digit 1 (if s then Some (digit_of o) else None)) 1 0 + cond (is_digit 2 (if s then Some (digit_of o) else None)) 1 0 + cond (is_digit 3 (if s then Some (digit_of o) else None)) 1 0 ≡ cond s 1 0
one-digit o false = refl
one-digit Agree true = refl
one-digit Disagree true = refl
one-digit Missing true = refl
one-digit Rare true = refl

-- each pair of the status has one digit
module _ (rares : List Bool) (field : ℕ) (matched : Bool) where
  abbrev counted : ℕ → List Judged → ℕ
  counted k rows = length (filter (λ row. is_digit k (digit_in rares field matched row)) rows)

  pub all-digits : (rows : List Judged) → counted 0 rows + counted 1 rows + counted 2 rows + counted 3 rows ≡ length (filter (has_status matched) rows)
  all-digits [] = refl
  all-digits (row ∷ rows) =
      let head = λ (k : ℕ). filter-cons (λ (row : Judged). is_digit k (digit_in rares field matched row)) row rows in
      omega (arith, head 0, head 1, head 2, head 3, one-digit (outcome_at rares row.pattern field) (has_status matched row), filter-cons (has_status matched) row rows, all-digits rows)

-- the digit of a field that may not be rare is below three
small-digit : (n : ℕ) → n < 3 → (digit_of (outcome_with n) == 3) ≡ false
small-digit zero h = refl
small-digit (suc zero) h = refl
small-digit (suc (suc zero)) h = refl
small-digit (suc (suc (suc n))) h = absurd (omega arith)

never-rare : (rares : List Bool) (pattern field : ℕ) → pattern < pattern_count_by rares → field < length rares → get_or rares field false ≡ false → (digit_of (outcome_at rares pattern field) == 3) ≡ false
never-rare [] pattern field lt within e = absurd (omega arith)
never-rare (rare ∷ rares) pattern zero lt within e =
    let base : outcomes_of rare ≡ 3 = ap outcomes_of e in
    let digit = div_below pattern (pattern_count_by rares) (outcomes_of rare) (omega (arith, count-pos rares)) lt in
    small-digit (pattern / pattern_count_by rares) (omega (arith, digit, base))
never-rare (rare ∷ rares) pattern (suc field) lt within e = never-rare rares (pattern % pattern_count_by rares) field (mod_below pattern (pattern_count_by rares) (omega (arith, count-pos rares))) (omega arith) e

pub none-rare : (rares : List Bool) (field : ℕ) (matched : Bool) (rows : List Judged) → All (λ (row : Judged). row.pattern < pattern_count_by rares) rows → field < length rares → get_or rares field false ≡ false → length (filter (λ row. is_digit 3 (digit_in rares field matched row)) rows) ≡ 0
none-rare rares field matched [] fit within e = refl
none-rare rares field matched (row ∷ rows) fit within e =
    let rest = none-rare rares field matched rows (λ k d h. fit (suc k) d (omega arith)) within e in
    let here : is_digit 3 (digit_in rares field matched row) ≡ false = by_status (has_status matched row) (never-rare rares row.pattern field (fit 0 row (omega arith)) within e) in
    omega (arith, filter-cons (λ row. is_digit 3 (digit_in rares field matched row)) row rows, ap {B = ℕ} (λ b. cond b 1 0) here, rest)
  where
    by_status : (s : Bool) → (digit_of (outcome_at rares row.pattern field) == 3) ≡ false → is_digit 3 (if s then Some (digit_of (outcome_at rares row.pattern field)) else None) ≡ false
    by_status true h = h
    by_status false h = refl

-- some judged pairs of a status, where a reviewed pair has it
some-judged : (p : Judged → Bool) (q : Reviewed → Bool) (judged : Reviewed → Judged) → ((r : Reviewed) → p (judged r) ≡ q r) → (sample : List Reviewed) → list_any q sample ≡ true → 1 ≤ length (filter p (map judged sample))
some-judged p q judged same [] h = cc
some-judged p q judged same (r ∷ sample) h = by_test (q r) refl (some-judged p q judged same sample)
  where
    by_test : (t : Bool) → q r ≡ t → (list_any q sample ≡ true → 1 ≤ length (filter p (map judged sample))) → 1 ≤ length (filter p (map judged (r ∷ sample)))
    by_test true e rest = omega (arith, filter-cons p (judged r) (map judged sample), ap {B = ℕ} (λ b. cond b 1 0) (same r ∙ e))
    by_test false e rest = let more = rest (rw e at h) in omega (arith, filter-cons p (judged r) (map judged sample), more)

pub some-matched : (judged : Reviewed → Judged) (same : (r : Reviewed) → (judged r).matched ≡ r.matched) (sample : List Reviewed) → list_any (λ (r : Reviewed). r.matched) sample ≡ true → 1 ≤ length (filter (has_status true) (map judged sample))
some-matched judged same = some-judged (has_status true) (λ r. r.matched) judged same

pub some-unmatched : (judged : Reviewed → Judged) (same : (r : Reviewed) → (judged r).matched ≡ r.matched) (sample : List Reviewed) → list_any (λ (r : Reviewed). not r.matched) sample ≡ true → 1 ≤ length (filter (has_status false) (map judged sample))
some-unmatched judged same = some-judged (has_status false) (λ r. not r.matched) judged (λ r. ap not (same r))

-- Laws of shares by largest remainders: they add up to what is shared out, so that those of three or four counted outcomes are shares of
-- a field (`shares` and `shares4`, clause `valid`). Proofs of the crates above cite them for the shares that are defined.

-- the whole parts are no more than what is spread
quotas_within : (spread n : ℕ) (xs : List ℕ) → 0 < n → sum_by (λ c. spread * c / n) xs * n ≤ spread * sum xs
quotas_within spread n [] pos = omega arith
quotas_within spread n (x ∷ xs) pos =
    let e = sum_by-cons (λ c. spread * c / n) x xs in
    let f = sum_by-cons (λ (c : ℕ). c) x xs in
    let d = div-mul-le_self (spread * x) n in
    let ih = quotas_within spread n xs pos in
    rw (e, f) (omega (arith, d, ih))

pub quotas_le : (counts : List ℕ) → 1 ≤ sum counts → sum_by (quota_of counts) counts ≤ spread_of counts
quotas_le counts some =
    let w : sum_by (quota_of counts) counts * sum counts ≤ spread_of counts * sum counts = quotas_within (spread_of counts) (sum counts) counts (omega arith) in
    le_of_mul-le-mul_right w some

-- of outcomes in the order of their remainders, of equal ones the earlier first, as many are among the first l as l says
rank_three : (r0 r1 r2 l : ℕ) → l ≤ 2 →
    cond (ltb (cond (ltb r0 r1) 1 0 + cond (ltb r0 r2) 1 0) l) 1 0
    + cond (ltb (cond (ltb r0 r1) 0 1 + cond (ltb r1 r2) 1 0) l) 1 0
    + cond (ltb (cond (ltb r0 r2) 0 1 + cond (ltb r1 r2) 0 1) l) 1 0 ≡ l
rank_three r0 r1 r2 l h = grind (arith, nat_tests)

rank_four : (r0 r1 r2 r3 l : ℕ) → l ≤ 3 →
    cond (ltb (cond (ltb r0 r1) 1 0 + cond (ltb r0 r2) 1 0 + cond (ltb r0 r3) 1 0) l) 1 0
    + cond (ltb (cond (ltb r0 r1) 0 1 + cond (ltb r1 r2) 1 0 + cond (ltb r1 r3) 1 0) l) 1 0
    + cond (ltb (cond (ltb r0 r2) 0 1 + cond (ltb r1 r2) 0 1 + cond (ltb r2 r3) 1 0) l) 1 0
    + cond (ltb (cond (ltb r0 r3) 0 1 + cond (ltb r1 r3) 0 1 + cond (ltb r2 r3) 0 1) l) 1 0 ≡ l
rank_four r0 r1 r2 r3 l h = by_tests (ltb r0 r1) (ltb r0 r2) (ltb r1 r2) refl refl refl
  where
    by_tests : (b01 b02 b12 : Bool) → ltb r0 r1 ≡ b01 → ltb r0 r2 ≡ b02 → ltb r1 r2 ≡ b12 →
        cond (ltb (cond b01 1 0 + cond b02 1 0 + cond (ltb r0 r3) 1 0) l) 1 0
        + cond (ltb (cond b01 0 1 + cond b12 1 0 + cond (ltb r1 r3) 1 0) l) 1 0
        + cond (ltb (cond b02 0 1 + cond b12 0 1 + cond (ltb r2 r3) 1 0) l) 1 0
        + cond (ltb (cond (ltb r0 r3) 0 1 + cond (ltb r1 r3) 0 1 + cond (ltb r2 r3) 0 1) l) 1 0 ≡ l
    by_tests true true true e f g = grind (arith, nat_tests)
    by_tests true true false e f g = grind (arith, nat_tests)
    by_tests true false true e f g = absurd (grind (arith, nat_tests))
    by_tests true false false e f g = grind (arith, nat_tests)
    by_tests false true true e f g = grind (arith, nat_tests)
    by_tests false true false e f g = absurd (grind (arith, nat_tests))
    by_tests false false true e f g = grind (arith, nat_tests)
    by_tests false false false e f g = grind (arith, nat_tests)

later_ahead : (x y i k : ℕ) → i < k → (ltb x y || (eqb y x && ltb k i)) ≡ ltb x y
later_ahead x y i k h = grind (arith, nat_tests)

earlier_ahead : (x y i k : ℕ) → i < k → ◌≡◌ {A = ℕ} (cond (ltb y x || (eqb x y && ltb i k)) 1 0) (cond (ltb x y) 0 1)
earlier_ahead x y i k h = grind (arith, nat_tests)

never_ahead : (x i : ℕ) → (ltb x x || (eqb x x && ltb i i)) ≡ false
never_ahead x i = grind (arith, nat_tests)

-- the whole parts and one for each outcome are more than what is spread
quotas_over : (spread n : ℕ) (xs : List ℕ) → 0 < n → spread * sum xs + length xs ≤ (sum_by (λ c. spread * c / n) xs + length xs) * n
quotas_over spread n [] pos = omega arith
quotas_over spread n (x ∷ xs) pos =
    let e = sum_by-cons (λ c. spread * c / n) x xs in
    let f = sum_by-cons (λ (c : ℕ). c) x xs in
    rw (e, f) (omega (arith, div-add-mod' (spread * x) n, mod_below (spread * x) n pos, quotas_over spread n xs pos))

-- so fewer are left than there are outcomes
few_left : (counts : List ℕ) → 1 ≤ sum counts → 1 ≤ length counts → left_of counts < length counts
few_left counts some long =
    let less : spread_of counts < sum_by (quota_of counts) counts + length counts = lt_of_mul-lt-mul_right (sum counts) (omega (arith, quotas_over (spread_of counts) (sum counts) counts some)) in
    omega arith

-- three shares by largest remainders add up to 1,024
valid_three : (a b c s0 s1 s2 : ℕ) → 1 ≤ sum (a ∷ b ∷ c ∷ []) → s0 ≡ share_of (a ∷ b ∷ c ∷ []) 0 → s1 ≡ share_of (a ∷ b ∷ c ∷ []) 1 → s2 ≡ share_of (a ∷ b ∷ c ∷ []) 2 → s0 + s1 + s2 ≡ 1024
valid_three a b c s0 s1 s2 some e0 e1 e2 =
    let counts : List ℕ = a ∷ b ∷ c ∷ [] in
    let n = sum counts in
    let r0 = 1021 * a % n in
    let r1 = 1021 * b % n in
    let r2 = 1021 * c % n in
    let left = left_of counts in
    let few : left ≤ 2 = omega (arith, few_left counts some (omega arith)) in
    let whole : 1021 * a / n + 1021 * b / n + 1021 * c / n ≤ 1021 = omega (arith, quotas_le counts some) in
    let ranks = rank_three r0 r1 r2 left few in
    let a0 : ahead_of counts 0 ≡ cond (ltb r0 r1) 1 0 + cond (ltb r0 r2) 1 0 = rw (never_ahead r0 0, later_ahead r0 r1 0 1 (omega arith), later_ahead r0 r2 0 2 (omega arith)) (omega arith) in
    let a1 : ahead_of counts 1 ≡ cond (ltb r0 r1) 0 1 + cond (ltb r1 r2) 1 0 = rw (never_ahead r1 1, earlier_ahead r0 r1 0 1 (omega arith), later_ahead r1 r2 1 2 (omega arith)) (omega arith) in
    let a2 : ahead_of counts 2 ≡ cond (ltb r0 r2) 0 1 + cond (ltb r1 r2) 0 1 = rw (never_ahead r2 2, earlier_ahead r0 r2 0 2 (omega arith), earlier_ahead r1 r2 1 2 (omega arith)) (omega arith) in
    let given = rw (← a0, ← a1, ← a2) at ranks in
    omega (arith, e0, e1, e2, given, whole)

-- four shares by largest remainders add up to 1,024
valid_four : (a b c d s0 s1 s2 s3 : ℕ) → 1 ≤ sum (a ∷ b ∷ c ∷ d ∷ []) → s0 ≡ share_of (a ∷ b ∷ c ∷ d ∷ []) 0 → s1 ≡ share_of (a ∷ b ∷ c ∷ d ∷ []) 1 → s2 ≡ share_of (a ∷ b ∷ c ∷ d ∷ []) 2 → s3 ≡ share_of (a ∷ b ∷ c ∷ d ∷ []) 3 → s0 + s1 + s2 + s3 ≡ 1024
valid_four a b c d s0 s1 s2 s3 some e0 e1 e2 e3 =
    let counts : List ℕ = a ∷ b ∷ c ∷ d ∷ [] in
    let n = sum counts in
    let r0 = 1020 * a % n in
    let r1 = 1020 * b % n in
    let r2 = 1020 * c % n in
    let r3 = 1020 * d % n in
    let left = left_of counts in
    let few : left ≤ 3 = omega (arith, few_left counts some (omega arith)) in
    let whole : 1020 * a / n + 1020 * b / n + 1020 * c / n + 1020 * d / n ≤ 1020 = omega (arith, quotas_le counts some) in
    let ranks = rank_four r0 r1 r2 r3 left few in
    let a0 : ahead_of counts 0 ≡ cond (ltb r0 r1) 1 0 + cond (ltb r0 r2) 1 0 + cond (ltb r0 r3) 1 0 = rw (never_ahead r0 0, later_ahead r0 r1 0 1 (omega arith), later_ahead r0 r2 0 2 (omega arith), later_ahead r0 r3 0 3 (omega arith)) (omega arith) in
    let a1 : ahead_of counts 1 ≡ cond (ltb r0 r1) 0 1 + cond (ltb r1 r2) 1 0 + cond (ltb r1 r3) 1 0 = rw (never_ahead r1 1, earlier_ahead r0 r1 0 1 (omega arith), later_ahead r1 r2 1 2 (omega arith), later_ahead r1 r3 1 3 (omega arith)) (omega arith) in
    let a2 : ahead_of counts 2 ≡ cond (ltb r0 r2) 0 1 + cond (ltb r1 r2) 0 1 + cond (ltb r2 r3) 1 0 = rw (never_ahead r2 2, earlier_ahead r0 r2 0 2 (omega arith), earlier_ahead r1 r2 1 2 (omega arith), later_ahead r2 r3 2 3 (omega arith)) (omega arith) in
    let a3 : ahead_of counts 3 ≡ cond (ltb r0 r3) 0 1 + cond (ltb r1 r3) 0 1 + cond (ltb r2 r3) 0 1 = rw (never_ahead r3 3, earlier_ahead r0 r3 0 3 (omega arith), earlier_ahead r1 r3 1 3 (omega arith), earlier_ahead r2 r3 2 3 (omega arith)) (omega arith) in
    let given = rw (← a0, ← a1, ← a2, ← a3) at ranks in
    omega (arith, e0, e1, e2, e3, given, whole)

some_of_three : (s0 s1 s2 k : ℕ) → 1 ≤ s0 → 1 ≤ s1 → 1 ≤ s2 → k < 3 → 1 ≤ get_or (s0 ∷ s1 ∷ s2 ∷ 0 ∷ []) k 0
some_of_three s0 s1 s2 zero h0 h1 h2 lt = h0
some_of_three s0 s1 s2 (suc zero) h0 h1 h2 lt = h1
some_of_three s0 s1 s2 (suc (suc zero)) h0 h1 h2 lt = h2
some_of_three s0 s1 s2 (suc (suc (suc k))) h0 h1 h2 lt = absurd (omega (arith, lt))

none_after_three : (s0 s1 s2 k : ℕ) → 3 ≤ k → get_or (s0 ∷ s1 ∷ s2 ∷ 0 ∷ []) k 0 ≡ 0
none_after_three s0 s1 s2 zero le = absurd (omega (arith, le))
none_after_three s0 s1 s2 (suc zero) le = absurd (omega (arith, le))
none_after_three s0 s1 s2 (suc (suc zero)) le = absurd (omega (arith, le))
none_after_three s0 s1 s2 (suc (suc (suc zero))) le = refl
none_after_three s0 s1 s2 (suc (suc (suc (suc k)))) le = refl

pub valid_shares : (counts : List ℕ) (s0 s1 s2 : ℕ) → length counts ≡ 3 → 1 ≤ sum counts → s0 ≡ share_of counts 0 → s1 ≡ share_of counts 1 → s2 ≡ share_of counts 2 → IsShares 3 (s0 ∷ s1 ∷ s2 ∷ 0 ∷ [])
valid_shares (a ∷ b ∷ c ∷ []) s0 s1 s2 size some e0 e1 e2 =
    (refl, λ k. some_of_three s0 s1 s2 k (omega (arith, e0)) (omega (arith, e1)) (omega (arith, e2)), none_after_three s0 s1 s2, omega (arith, valid_three a b c s0 s1 s2 some e0 e1 e2))
valid_shares [] s0 s1 s2 size some e0 e1 e2 = absurd (omega (arith, size))
valid_shares (a ∷ []) s0 s1 s2 size some e0 e1 e2 = absurd (omega (arith, size))
valid_shares (a ∷ b ∷ []) s0 s1 s2 size some e0 e1 e2 = absurd (omega (arith, size))
valid_shares (a ∷ b ∷ c ∷ d ∷ xs) s0 s1 s2 size some e0 e1 e2 = absurd (omega (arith, size))

some_of_four : (s0 s1 s2 s3 k : ℕ) → 1 ≤ s0 → 1 ≤ s1 → 1 ≤ s2 → 1 ≤ s3 → k < 4 → 1 ≤ get_or (s0 ∷ s1 ∷ s2 ∷ s3 ∷ []) k 0
some_of_four s0 s1 s2 s3 zero h0 h1 h2 h3 lt = h0
some_of_four s0 s1 s2 s3 (suc zero) h0 h1 h2 h3 lt = h1
some_of_four s0 s1 s2 s3 (suc (suc zero)) h0 h1 h2 h3 lt = h2
some_of_four s0 s1 s2 s3 (suc (suc (suc zero))) h0 h1 h2 h3 lt = h3
some_of_four s0 s1 s2 s3 (suc (suc (suc (suc k)))) h0 h1 h2 h3 lt = absurd (omega (arith, lt))

pub valid_shares4 : (counts : List ℕ) (s0 s1 s2 s3 : ℕ) → length counts ≡ 4 → 1 ≤ sum counts → s0 ≡ share_of counts 0 → s1 ≡ share_of counts 1 → s2 ≡ share_of counts 2 → s3 ≡ share_of counts 3 → IsShares 4 (s0 ∷ s1 ∷ s2 ∷ s3 ∷ [])
valid_shares4 (a ∷ b ∷ c ∷ d ∷ []) s0 s1 s2 s3 size some e0 e1 e2 e3 =
    (refl, λ k. some_of_four s0 s1 s2 s3 k (omega (arith, e0)) (omega (arith, e1)) (omega (arith, e2)) (omega (arith, e3)), λ k past. get_or_past (s0 ∷ s1 ∷ s2 ∷ s3 ∷ []) k 0 past, omega (arith, valid_four a b c d s0 s1 s2 s3 some e0 e1 e2 e3))
valid_shares4 [] s0 s1 s2 s3 size some e0 e1 e2 e3 = absurd (omega (arith, size))
valid_shares4 (a ∷ []) s0 s1 s2 s3 size some e0 e1 e2 e3 = absurd (omega (arith, size))
valid_shares4 (a ∷ b ∷ []) s0 s1 s2 s3 size some e0 e1 e2 e3 = absurd (omega (arith, size))
valid_shares4 (a ∷ b ∷ c ∷ []) s0 s1 s2 s3 size some e0 e1 e2 e3 = absurd (omega (arith, size))
valid_shares4 (a ∷ b ∷ c ∷ d ∷ e ∷ xs) s0 s1 s2 s3 size some e0 e1 e2 e3 = absurd (omega (arith, size))
