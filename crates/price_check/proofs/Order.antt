-- Candidates found at links.
use Rattle.std.proofs.Common.{◌≡◌, ℕ, ◌+◌, ◌<◌, ◌≤◌, inl, inr, List, [], ◌∷◌, zero, suc, ℤ, ◌+ℤ◌, take, refl, sym, ◌∙◌, get_or, length, arith, AllPairs, Contains, All, ◌≢◌, ◌==◌, ◌↔◌, ◌-◌, ◌*◌, pos, negsuc, neg_ℤ, ◌*ℤ◌, ◌≤ℤ◌, take_all, Bool, true, false, cond, ap, set, mul-le-mul}
use Rattle.std.proofs.lemmas.Bool.{cases_lt, cases_eq}
use Rattle.std.proofs.lemmas.List.{get_or_default, get_or-set_other, get_or-set_same}
use Rattle.std.proofs.lemmas.List.Elements.{Contains-get_or, All-cons, All-head, All-tail, All-set, All-contains}
use Rattle.std.proofs.lemmas.Int.{ints}
use Rattle.link_base.specs.declared.rule.Candidate.{Candidate}
use Rattle.price_check.specs.Assignment.{IsBefore, total, worth, no_candidate, price_sum, price_of, SharesNoRecord, IsCovered, IsWithinCapacities, capacity_of, links_at, place_sum}
use Rattle.price_check.specs.PlaceLaws.{same_member, links_at-here, links_at-other, AllPairs-head, AllPairs-tail, IsFloored, IsTight, price_sum-without, without}
use Rattle.link_base.specs.declared.rule.PairAt.{PairAt}
use Rattle.link_base.specs.Words.{IsPairBefore}
use Rattle.price_check.specs.Search.{IsCandidateBefore, AreUsed}
use Rattle.price_check.specs.Verdict.{IsCandidate, HasPositions, AreLinks, IsCandidateAt, IsFirstNegative, AreCertifiedWithin, HasPlace, IsFirstReasonWithin, IsVerdictWithin, pairs_at}
use Rattle.std.proofs.lemmas.Bool.Decides.{nat_tests}
use Rattle.std.proofs.lemmas.List.Sums.{count_by_more_no, count_by_more_yes, sum_by-cons, sum_by-take-le}
use Rattle.std.proofs.Math.IntN.{pos-*ℤ-pos, pos-*ℤ-negsuc}
use Rattle.link_base.specs.declared.fault.FileRole.{FileRole}
use Rattle.link_base.specs.declared.fault.FileRole.TheVariants.{Settings, A, B, Sample, Journal, Verdicts, Rule, Links, Prices, Capacities}
use Rattle.price_check.specs.declared.verdict.Reason.{Reason}
use Rattle.price_check.specs.declared.verdict.Reason.TheVariants.{NotCandidate, Reused, Negative, Uncovered, Sum}
use Rattle.price_check.specs.declared.verdict.Verified.{Verified}
use Rattle.price_check.specs.declared.verdict.Verified.TheVariants.{Yes, No}

-- what stands before a candidate that stands before the link stands before it too
pub down : (x y : Candidate) (l : PairAt) → IsBefore x y → IsCandidateBefore y l → IsCandidateBefore x l
down x y l (inl p) (inl q) = inl (omega arith)
down x y l (inl p) (inr q) = inl (omega (arith, p, q.0))
down x y l (inr p) (inl q) = inl (omega (arith, q, p.0))
down x y l (inr p) (inr q) = inr (omega (arith, p.0, q.0), omega (arith, p.1, q.1))

pub down_at : (xs : List Candidate) (l : PairAt) (j k : ℕ) (d e : Candidate) → AllPairs IsBefore xs → j ≤ k → k < length xs → IsCandidateBefore (get_or xs k e) l → IsCandidateBefore (get_or xs j d) l
down_at xs l j k d e rising le lt h =
    let g : IsCandidateBefore (get_or xs k d) l = rw (get_or_default xs k d e lt) h in
    elim (cases_lt j k) [ inl p ↦ down (get_or xs j d) (get_or xs k d) l (rising j k d p lt) g | inr p ↦ (let q : j ≡ k = omega arith in rw q g) ]

pub not_before : (c : Candidate) (l : PairAt) → HasPositions l c → IsCandidateBefore c l → ⊥
not_before c l h (inl p) = omega (arith, h.0)
not_before c l h (inr p) = omega (arith, h.1, p.1)

-- the place from which on no candidate stands before the link is the only one that can have its positions
pub only_place : (xs : List Candidate) (l : PairAt) (at k : ℕ) (d : Candidate) → AllPairs IsBefore xs → ((j : ℕ) (e : Candidate) → j < at → IsCandidateBefore (get_or xs j e) l) → ((j : ℕ) (e : Candidate) → at ≤ j → j < length xs → IsCandidateBefore (get_or xs j e) l → ⊥) → k < length xs → HasPositions l (get_or xs k d) → k ≡ at
only_place xs l at k d rising below above lt h =
    elim (cases_lt k at) [
      | inl p ↦ absurd (not_before (get_or xs k d) l h (below k d p))
      | inr p ↦ elim (cases_lt at k) [
        | inl q ↦ absurd (above at d (omega arith) (omega arith) (before_from (get_or xs at d) (get_or xs k d) l (rising at k d q lt) h))
        | inr q ↦ omega arith
      ]
    ]
  where
    before_from : (x y : Candidate) (l : PairAt) → IsBefore x y → HasPositions l y → IsCandidateBefore x l
    before_from x y l (inl p) h = inl (omega (arith, h.0))
    before_from x y l (inr p) h = inr (omega (arith, p.0, h.0), omega (arith, p.1, h.1))

pub no_place : (xs : List Candidate) (l : PairAt) (at : ℕ) (e : Candidate) → AllPairs IsBefore xs → ((j : ℕ) (e : Candidate) → j < at → IsCandidateBefore (get_or xs j e) l) → ((j : ℕ) (e : Candidate) → at ≤ j → j < length xs → IsCandidateBefore (get_or xs j e) l → ⊥) → (at < length xs → HasPositions l (get_or xs at e) → ⊥) → IsCandidate xs l → ⊥
no_place xs l at e rising below above absent found =
    let same : found.0 ≡ at = only_place xs l at found.0 e rising below above found.1.0 (found.1.1 e) in
    absent (rw (← same) found.1.0) (rw (← same) (found.1.1 e))

-- what holds of each member below i, and of the one at i, holds of each below i + 1
pub each_more : {X : Type 0} (P : X → Type 0) (xs : List X) (i : ℕ) (e : X) → ((k : ℕ) (d : X) → k < i → P (get_or xs k d)) → i < length xs → P (get_or xs i e) → (k : ℕ) (d : X) → k < i + 1 → P (get_or xs k d)
each_more P xs i e below lt here k d le = elim (cases_lt k i) [ inl p ↦ below k d p | inr p ↦ (let q : k ≡ i = omega arith in rw (q, get_or_default xs i d e lt) here) ]

pub pair_le : (x y : PairAt) → IsPairBefore x y → x.a ≤ y.a
pair_le x y (inl p) = omega (arith, p)
pair_le x y (inr p) = omega (arith, p.0)

-- a sum, one member on
pub total_more : {X : Type 0} (f : X → ℤ) (xs : List X) (i : ℕ) (d : X) → i < length xs → total f (take (i + 1) xs) ≡ total f (take i xs) +ℤ f (get_or xs i d)
total_more f [] i d lt = absurd (omega arith)
total_more f (x ∷ xs) zero d lt = omega (arith, ints)
total_more f (x ∷ xs) (suc i) d lt =
    let e : suc i + 1 ≡ suc (i + 1) = omega arith in
    rw e (omega (arith, ints, total_more f xs i d (omega arith)))

-- the candidate found at a link is the one chosen there
pub worth_more : (cs : List Candidate) (ls : List PairAt) (chosen : List Candidate) (i k : ℕ) (d : PairAt) (e : Candidate) (sum : ℤ) → AllPairs IsBefore cs → AreLinks cs ls chosen → i < length ls → IsCandidateAt cs (get_or ls i d) k → sum ≡ worth (take i chosen) → (sum +ℤ (get_or cs k e).value) ≡ worth (take (i + 1) chosen)
worth_more cs ls chosen i k d e sum rising are lt at so_far =
    let within : i < length chosen = omega (arith, are.count) in
    let p = are.positions i d e lt in
    let q = at.1 e in
    let same : get_or cs k e ≡ get_or chosen i e = same_member cs (get_or cs k e) (get_or chosen i e) rising (Contains-get_or cs k e at.0) (are.among i e within) (q.0 ∙ sym p.0) (q.1 ∙ sym p.1) in
    rw same (omega (arith, ints, so_far, total_more (λ (c : Candidate). c.value) chosen i e within))

-- The candidates that links name.

pub choose : (cs : List Candidate) (ls : List PairAt) (e : Candidate) → All (IsCandidate cs) ls → (chosen : List Candidate) × AreLinks cs ls chosen
choose cs [] e h = ([], record { count = refl; among = λ k d lt. absurd (omega arith); positions = λ k d c lt. absurd (omega arith) })
choose cs (l ∷ ls) e h =
    let here = h zero l (omega arith) in
    let rest = choose cs ls e (λ k d lt. h (suc k) d (omega arith)) in
    let c : Candidate = get_or cs here.0 e in (
      c ∷ rest.0,
      record {
        count = omega (arith, rest.1.count);
        among = All-cons (Contains cs) c rest.0 (Contains-get_or cs here.0 e here.1.0) rest.1.among;
        positions = at_each cs l ls c rest.0 (here.1.1 e) rest.1.positions;
      },
    )
  where
    at_each : (cs : List Candidate) (l : PairAt) (ls : List PairAt) (c : Candidate) (rest : List Candidate) → HasPositions l c → ((k : ℕ) (d : PairAt) (e : Candidate) → k < length ls → HasPositions (get_or ls k d) (get_or rest k e)) → (k : ℕ) (d : PairAt) (e : Candidate) → k < length (l ∷ ls) → HasPositions (get_or (l ∷ ls) k d) (get_or (c ∷ rest) k e)
    at_each cs l ls c rest here more zero d e lt = here
    at_each cs l ls c rest here more (suc k) d e lt = more k d e (omega arith)

pub before_of : (x y : Candidate) (l m : PairAt) → HasPositions l x → HasPositions m y → IsPairBefore l m → IsBefore x y
before_of x y l m hx hy (inl p) = inl (omega (arith, hx.0, hy.0, p))
before_of x y l m hx hy (inr p) = inr (omega (arith, hx.0, hy.0, p.0), omega (arith, hx.1, hy.1, p.1))

-- Links that find a place within capacities, and what prices add up to there.

-- what is read past the end of a list of links
abbrev pub no_pair : PairAt
no_pair = record { a = 0; b = 0 }

abbrev tick : Bool → ℕ
tick b = cond b 1 0

-- how often a record stands in one link more
pub pairs_at-here : (links : List PairAt) (i : ℕ) (d : PairAt) (b : ℕ) → i < length links → (get_or links i d).b ≡ b → pairs_at b (take (i + 1) links) ≡ pairs_at b (take i links) + 1
pairs_at-here links i d b lt e = count_by_more_yes (λ (l : PairAt). l.b == b) links i d lt (grind (arith, nat_tests))

pub pairs_at-other : (links : List PairAt) (i : ℕ) (d : PairAt) (b : ℕ) → i < length links → (get_or links i d).b ≢ b → pairs_at b (take (i + 1) links) ≡ pairs_at b (take i links)
pairs_at-other links i d b lt n = count_by_more_no (λ (l : PairAt). l.b == b) links i d lt (grind (arith, nat_tests))

-- a link whose record of B has a place, and whose record of A the one before it has not
pub placed_last : (capacities used : List ℕ) (links : List PairAt) (i : ℕ) (e : PairAt) → AllPairs IsPairBefore links → i < length links → AreUsed used links i → get_or used (get_or links i e).b 0 < capacity_of capacities (get_or links i e).b → ((get_or links (i - 1) e).a ≡ (get_or links i e).a → ⊥) → 0 < i → HasPlace capacities links i
placed_last capacities used links i e rising lt counts room other some = (
  λ k d lk same.
      let di : get_or links i d ≡ get_or links i e = get_or_default links i d e lt in
      let dk : get_or links k d ≡ get_or links k e = get_or_default links k d e (omega arith) in
      let step = pair_le (get_or links (i - 1) e) (get_or links i e) (rising (i - 1) i e (omega arith) lt) in
      let upto : (get_or links k e).a ≤ (get_or links (i - 1) e).a = elim (cases_lt k (i - 1)) [
        | inl p ↦ pair_le (get_or links k e) (get_or links (i - 1) e) (rising k (i - 1) e p (omega arith))
        | inr p ↦ (let q : k ≡ i - 1 = omega arith in rw q (omega arith))
      ] in
      let here : (get_or links k e).a ≡ (get_or links i e).a = rw (di, dk) at same in
      other (omega (arith, here, step, upto)),
  λ d. rw (get_or_default links i d e lt) (omega (arith, counts (get_or links i e).b, room)),
)

pub used_more : (used : List ℕ) (links : List PairAt) (i : ℕ) (d : PairAt) (n : ℕ) → i < length links → (get_or links i d).b < length used → AreUsed used links i → n ≡ get_or used (get_or links i d).b 0 + 1 → AreUsed (set used (get_or links i d).b n) links (i + 1)
used_more used links i d n lt there counts is b = elim (cases_eq (get_or links i d).b b) [
  | inl e ↦ (let at : get_or (set used (get_or links i d).b n) b 0 ≡ n = rw (← e) (get_or-set_same used (get_or links i d).b n 0 there) in
      omega (arith, at, is, ap (λ r. get_or used r 0) e, counts b, pairs_at-here links i d b lt e))
  | inr ne ↦ get_or-set_other used (get_or links i d).b b n 0 (λ e. ne (sym e)) ∙ (counts b ∙ sym (pairs_at-other links i d b lt ne))
]

-- a link that has a place finds its record of B used less often than its capacity
pub room_used : (capacities used : List ℕ) (links : List PairAt) (i : ℕ) → HasPlace capacities links i → AreUsed used links i → get_or used (get_or links i no_pair).b 0 < capacity_of capacities (get_or links i no_pair).b
room_used capacities used links i here counts = omega (arith, here.1 no_pair, counts (get_or links i no_pair).b)

-- The sum of prices, one record of B more.

pub place_sum_more : (capacities : List ℕ) (prices : List ℤ) (i : ℕ) → i < length capacities → i < length prices → place_sum (take (i + 1) capacities) (take (i + 1) prices) ≡ place_sum (take i capacities) (take i prices) +ℤ (pos (get_or capacities i 0) *ℤ get_or prices i (pos 0))
place_sum_more [] prices i lt m = absurd (omega arith)
place_sum_more (n ∷ ns) [] i lt m = absurd (omega arith)
place_sum_more (n ∷ ns) (q ∷ qs) zero lt m = omega (arith, ints)
place_sum_more (n ∷ ns) (q ∷ qs) (suc i) lt m =
    let e : suc i + 1 ≡ suc (i + 1) = omega arith in
    rw e (omega (arith, ints, place_sum_more ns qs i (omega arith) (omega arith)))

-- so many times a price is within so many times its bound
pub multiple_bounded : (n m : ℕ) (p : ℤ) (most : ℕ) → n ≤ m → neg_ℤ (pos most) ≤ℤ p → p ≤ℤ pos most → (neg_ℤ (pos (m * most)) ≤ℤ (pos n *ℤ p)) × ((pos n *ℤ p) ≤ℤ pos (m * most))
multiple_bounded n m (pos v) most few low high =
    let small : v ≤ most = omega (arith, ints, high) in
    let le = mul-le-mul {n₁ = n} {m₁ = v} few small in
    rw (pos-*ℤ-pos n v) (omega (arith, ints, le), omega (arith, ints, le))
multiple_bounded n m (negsuc v) most few low high =
    let small : suc v ≤ most = omega (arith, ints, low) in
    let le = mul-le-mul {n₁ = n} {m₁ = suc v} few small in
    rw (pos-*ℤ-negsuc n v) (omega (arith, ints, le), omega (arith, ints, le))

-- The candidates that links name stand as often at a record of B as the links.

pub named_at : (cs : List Candidate) (links : List PairAt) (b : ℕ) → length cs ≡ length links → ((k : ℕ) (d : PairAt) (e : Candidate) → k < length links → HasPositions (get_or links k d) (get_or cs k e)) → links_at b cs ≡ pairs_at b links
named_at [] [] b len h = refl
named_at [] (l ∷ ls) b len h = absurd (omega (arith, len))
named_at (c ∷ cs) [] b len h = absurd (omega (arith, len))
named_at (c ∷ cs) (l ∷ ls) b len h =
    let here = h zero l c (omega arith) in
    let rest = named_at cs ls b (omega (arith, len)) (λ k d e lt. h (suc k) d e (omega arith)) in
    elim (cases_eq c.b b) [
      | inl e ↦ omega (arith, rest, links_at-here b c cs e, pairs_at-first b l ls (sym here.1 ∙ e))
      | inr n ↦ omega (arith, rest, links_at-other b c cs n, pairs_at-later b l ls (λ e. n (here.1 ∙ e)))
    ]
  where
    pairs_at-first : (b : ℕ) (l : PairAt) (ls : List PairAt) → l.b ≡ b → pairs_at b (l ∷ ls) ≡ pairs_at b ls + 1
    pairs_at-first b l ls e = (let t : (l.b == b) ≡ true = grind (arith, nat_tests) in omega (arith, sum_by-cons (λ (l : PairAt). cond (l.b == b) 1 0) l ls, ap tick t))

    pairs_at-later : (b : ℕ) (l : PairAt) (ls : List PairAt) → l.b ≢ b → pairs_at b (l ∷ ls) ≡ pairs_at b ls
    pairs_at-later b l ls n = (let t : (l.b == b) ≡ false = grind (arith, nat_tests) in omega (arith, sum_by-cons (λ (l : PairAt). cond (l.b == b) 1 0) l ls, ap tick t))

-- links each of which finds a place are within the capacities
pub placed_all : (capacities : List ℕ) (links : List PairAt) → ((i : ℕ) → i < length links → HasPlace capacities links i) → (b i : ℕ) → i ≤ length links → pairs_at b (take i links) ≤ capacity_of capacities b
placed_all capacities links placed b zero le = omega arith
placed_all capacities links placed b (suc i) le =
    let before = placed_all capacities links placed b i (omega arith) in
    let e : suc i ≡ i + 1 = omega arith in
    elim (cases_eq (get_or links i no_pair).b b) [
      | inl q ↦ (let here : pairs_at b (take i links) < capacity_of capacities b = rw q at ((placed i (omega arith)).1 no_pair) in rw e (omega (arith, here, pairs_at-here links i no_pair b (omega arith) q)))
      | inr n ↦ rw (e, pairs_at-other links i no_pair b (omega arith) n) before
    ]

pairs_at-le : (links : List PairAt) (b i : ℕ) → pairs_at b (take i links) ≤ pairs_at b links
pairs_at-le links b i = sum_by-take-le (λ (l : PairAt). cond (l.b == b) 1 0) links i

pub within_links : (cs : List Candidate) (capacities : List ℕ) (ls : List PairAt) (chosen : List Candidate) → AreLinks cs ls chosen → AllPairs IsPairBefore ls → ((i : ℕ) → i < length ls → HasPlace capacities ls i) → IsWithinCapacities cs capacities chosen
within_links cs capacities ls chosen are rising placed = record {
  among = are.among;
  rising = λ i j d lt m.
      let hi = are.positions i no_pair d (omega (arith, are.count)) in
      let hj = are.positions j no_pair d (omega (arith, are.count)) in
      before_of (get_or chosen i d) (get_or chosen j d) (get_or ls i no_pair) (get_or ls j no_pair) hi hj (rising i j no_pair lt (omega (arith, are.count)));
  apart = λ i j d lt m.
      let hi = are.positions i no_pair d (omega (arith, are.count)) in
      let hj = are.positions j no_pair d (omega (arith, are.count)) in
      λ e. (placed j (omega (arith, are.count))).0 i no_pair lt (sym hi.0 ∙ (e ∙ hj.0));
  fits = λ b.
      let all = placed_all capacities ls placed b (length ls) (omega arith) in
      let whole : take (length ls) ls ≡ ls = take_all (length ls) ls (omega arith) in
      rw (named_at chosen ls b are.count are.positions) (rw whole at all);
}

-- A certified list leaves no reason.

candidate_of : (cs : List Candidate) (ls : List PairAt) (chosen : List Candidate) (i : ℕ) → AreLinks cs ls chosen → i < length ls → IsCandidate cs (get_or ls i no_pair)
candidate_of cs ls chosen i are lt =
    let within : i < length chosen = omega (arith, are.count) in
    let c : Candidate = get_or chosen i no_candidate in
    let h = are.among i no_candidate within in
    let p = are.positions i no_pair no_candidate lt in
    (h.0, (h.1, λ d. (let same : get_or cs h.0 d ≡ c = get_or_default cs h.0 d c h.1 ∙ h.2 in (ap (λ (x : Candidate). x.a) same ∙ p.0, ap (λ (x : Candidate). x.b) same ∙ p.1))))

no_negative : (ps qs : List ℤ) (side : FileRole) (i : ℕ) → All (λ p. pos 0 ≤ℤ p) ps → All (λ p. pos 0 ≤ℤ p) qs → IsFirstNegative ps qs side i → ⊥
no_negative ps qs A i fa fb h = h.2 (pos 0) (fa i (pos 0) h.0)
no_negative ps qs B i fa fb h = h.1.2 (pos 0) (fb i (pos 0) h.1.0)
no_negative ps qs Settings i fa fb h = h
no_negative ps qs Sample i fa fb h = h
no_negative ps qs Journal i fa fb h = h
no_negative ps qs Verdicts i fa fb h = h
no_negative ps qs Rule i fa fb h = h
no_negative ps qs Links i fa fb h = h
no_negative ps qs Prices i fa fb h = h
no_negative ps qs Capacities i fa fb h = h

placed_of : (cs : List Candidate) (capacities : List ℕ) (ls : List PairAt) (chosen : List Candidate) (i : ℕ) → AreLinks cs ls chosen → IsWithinCapacities cs capacities chosen → i < length ls → HasPlace capacities ls i
placed_of cs capacities ls chosen i are within lt = (
  λ k d low.
      let apart = within.apart k i no_candidate low (omega (arith, are.count)) in
      let p = are.positions k d no_candidate (omega arith) in
      let q = are.positions i d no_candidate lt in
      λ e. apart (p.0 ∙ (e ∙ sym q.0)),
  λ d.
      let b = (get_or ls i d).b in
      let more = pairs_at-here ls i d b lt refl in
      let upto = pairs_at-le ls b (i + 1) in
      omega (arith, more, upto, named_at chosen ls b are.count are.positions, within.fits b),
)

no_reason : (cs : List Candidate) (ns : List ℕ) (ls : List PairAt) (ps qs : List ℤ) (r : Reason) → AreCertifiedWithin cs ns ls ps qs → IsFirstReasonWithin cs ns ls ps qs r → ⊥
no_reason cs ns ls ps qs (NotCandidate i) t h = h.2 no_pair (candidate_of cs ls t.0 i t.1.0 h.0)
no_reason cs ns ls ps qs (Reused i) t h = h.1.2 (placed_of cs ns ls t.0 i t.1.0 t.1.1 h.1.0)
no_reason cs ns ls ps qs (Negative side i) t h = no_negative ps qs side i t.1.2.floor_a t.1.2.floor_b h.2
no_reason cs ns ls ps qs (Uncovered i) t h = h.4.2 no_candidate (t.1.2.covered i no_candidate h.4.0)
no_reason cs ns ls ps qs (Sum l p) t h = h.7 (h.6 t.0 t.1.0 ∙ (sym t.1.2.balanced ∙ sym h.5))

pub verdict_exact_within : (cs : List Candidate) (ns : List ℕ) (ls : List PairAt) (ps qs : List ℤ) (v : Verified) → IsVerdictWithin cs ns ls ps qs v → (v ≡ Yes) ↔ AreCertifiedWithin cs ns ls ps qs
verdict_exact_within cs ns ls ps qs Yes h = (λ e. h, λ t. refl)
verdict_exact_within cs ns ls ps qs (No r) h = (λ e. absurd cc, λ t. absurd (no_reason cs ns ls ps qs r t h))

-- Weak duality: prices that cover a list without a shared record add up to at least its worth.

pub price_sum-floor : (prices : List ℤ) → IsFloored prices → pos 0 ≤ℤ price_sum prices
price_sum-floor [] h = omega (arith, ints)
price_sum-floor (p ∷ ps) h =
    let e = All-head (λ p. pos 0 ≤ℤ p) p ps h in
    let f = price_sum-floor ps (All-tail (λ p. pos 0 ≤ℤ p) p ps h) in
    omega (arith, ints, e, f)

pub IsFloored-without : (prices : List ℤ) (position : ℕ) → IsFloored prices → IsFloored (without prices position)
IsFloored-without prices position h = All-set (λ p. pos 0 ≤ℤ p) prices position (pos 0) (omega (arith, ints)) h

-- members that do not share the record keep their prices
pub IsCovered-without : (prices_a prices_b : List ℤ) (c : Candidate) (cs : List Candidate) → All (SharesNoRecord c) cs → All (IsCovered prices_a prices_b) cs → All (IsCovered (without prices_a c.a) (without prices_b c.b)) cs
IsCovered-without ps qs c cs apart covered = λ k d l.
    let x : Candidate = get_or cs k d in
    let na : x.a ≢ c.a = λ e. (apart k d l).0 (sym e) in
    let nb : x.b ≢ c.b = λ e. (apart k d l).1 (sym e) in
    let ea = get_or-set_other ps c.a x.a (pos 0) (pos 0) na in
    let eb = get_or-set_other qs c.b x.b (pos 0) (pos 0) nb in
    rw (ea, eb) (covered k d l)

pub worth-le-price_sum : (links : List Candidate) (prices_a prices_b : List ℤ) → IsFloored prices_a → IsFloored prices_b → AllPairs SharesNoRecord links → All (IsCovered prices_a prices_b) links → worth links ≤ℤ (price_sum prices_a +ℤ price_sum prices_b)
worth-le-price_sum [] ps qs fa fb apart covered = omega (arith, ints, price_sum-floor ps fa, price_sum-floor qs fb)
worth-le-price_sum (c ∷ cs) ps qs fa fb apart covered =
    let rest = worth-le-price_sum cs (without ps c.a) (without qs c.b) (IsFloored-without ps c.a fa) (IsFloored-without qs c.b fb) (AllPairs-tail SharesNoRecord c cs apart) (IsCovered-without ps qs c cs (AllPairs-head SharesNoRecord c cs apart) (All-tail (IsCovered ps qs) c cs covered)) in
    omega (arith, ints, rest, All-head (IsCovered ps qs) c cs covered, price_sum-without ps c.a, price_sum-without qs c.b)

pub IsTight-without : (prices_a prices_b : List ℤ) (c : Candidate) (cs : List Candidate) → All (SharesNoRecord c) cs → All (IsTight (without prices_a c.a) (without prices_b c.b)) cs → All (IsTight prices_a prices_b) cs
IsTight-without ps qs c cs apart tight = λ k d l.
    let x : Candidate = get_or cs k d in
    let na : x.a ≢ c.a = λ e. (apart k d l).0 (sym e) in
    let nb : x.b ≢ c.b = λ e. (apart k d l).1 (sym e) in
    let ea = get_or-set_other ps c.a x.a (pos 0) (pos 0) na in
    let eb = get_or-set_other qs c.b x.b (pos 0) (pos 0) nb in
    rw (ea, eb) at (tight k d l)

-- where the sums are equal, each member is tight
pub IsTight-from_sums : (links : List Candidate) (prices_a prices_b : List ℤ) → IsFloored prices_a → IsFloored prices_b → AllPairs SharesNoRecord links → All (IsCovered prices_a prices_b) links → (price_sum prices_a +ℤ price_sum prices_b) ≤ℤ worth links → All (IsTight prices_a prices_b) links
IsTight-from_sums [] ps qs fa fb apart covered sums = λ k d l. absurd (omega arith)
IsTight-from_sums (c ∷ cs) ps qs fa fb apart covered sums =
    let ga = IsFloored-without ps c.a fa in
    let gb = IsFloored-without qs c.b fb in
    let pairs = AllPairs-tail SharesNoRecord c cs apart in
    let head = All-head (IsCovered ps qs) c cs covered in
    let kept = IsCovered-without ps qs c cs (AllPairs-head SharesNoRecord c cs apart) (All-tail (IsCovered ps qs) c cs covered) in
    let rest = worth-le-price_sum cs (without ps c.a) (without qs c.b) ga gb pairs kept in
    let ea = price_sum-without ps c.a in
    let eb = price_sum-without qs c.b in
    let tight = IsTight-from_sums cs (without ps c.a) (without qs c.b) ga gb pairs kept (omega (arith, ints, head, ea, eb, sums)) in
    All-cons (IsTight ps qs) c cs (omega (arith, ints, head, rest, ea, eb, sums)) (IsTight-without ps qs c cs (AllPairs-head SharesNoRecord c cs apart) tight)

pub price_of-floor : (prices : List ℤ) (position : ℕ) → IsFloored prices → pos 0 ≤ℤ price_of prices position
price_of-floor [] position h = omega (arith, ints)
price_of-floor (p ∷ ps) zero h = All-head (λ p. pos 0 ≤ℤ p) p ps h
price_of-floor (p ∷ ps) (suc position) h = price_of-floor ps position (All-tail (λ p. pos 0 ≤ℤ p) p ps h)

-- what stands in no member has price 0
pub unlinked_a : (links : List Candidate) (ps qs : List ℤ) (position : ℕ) → IsFloored ps → IsFloored qs → AllPairs SharesNoRecord links → All (IsCovered ps qs) links → (price_sum ps +ℤ price_sum qs) ≤ℤ worth links → All (λ c. c.a ≢ position) links → price_of ps position ≡ pos 0
unlinked_a links ps qs position fa fb apart covered sums absent =
    let kept : All (IsCovered (without ps position) qs) links = λ k d l. rw (get_or-set_other ps position (get_or links k d).a (pos 0) (pos 0) (absent k d l)) (covered k d l) in
    let within = worth-le-price_sum links (without ps position) qs (IsFloored-without ps position fa) fb apart kept in
    omega (arith, ints, within, price_sum-without ps position, price_of-floor ps position fa, sums)

pub unlinked_b : (links : List Candidate) (ps qs : List ℤ) (position : ℕ) → IsFloored ps → IsFloored qs → AllPairs SharesNoRecord links → All (IsCovered ps qs) links → (price_sum ps +ℤ price_sum qs) ≤ℤ worth links → All (λ c. c.b ≢ position) links → price_of qs position ≡ pos 0
unlinked_b links ps qs position fa fb apart covered sums absent =
    let kept : All (IsCovered ps (without qs position)) links = λ k d l. rw (get_or-set_other qs position (get_or links k d).b (pos 0) (pos 0) (absent k d l)) (covered k d l) in
    let within = worth-le-price_sum links ps (without qs position) fa (IsFloored-without qs position fb) apart kept in
    omega (arith, ints, within, price_sum-without qs position, price_of-floor qs position fb, sums)

-- a one-to-one list is covered where the candidates are
pub covered_links : (candidates links : List Candidate) (ps qs : List ℤ) → All (Contains candidates) links → All (IsCovered ps qs) candidates → All (IsCovered ps qs) links
covered_links candidates links ps qs among covered = λ k d l. All-contains (IsCovered ps qs) candidates _ covered (among k d l)
