-- What a check of one-to-one links answers: clause `one_to_one` of `check_capacity`. The reasons are tried in the order in
-- which `IsFirstReasonBy` lists them.
use Rattle.std.specs.Prelude.{◌≡◌, ◌≢◌, ◌↔◌, ℕ, ◌<◌, ℤ, pos, ◌+ℤ◌, ◌≤ℤ◌, neg_ℤ, List, All, Contains, slice_index_or, length, Option, Some, None, MatchOption, ◌==◌, ◌≤◌, count_by, take}
use Rattle.link_limits.specs.declared.TheConstants.{MOST_VALUE, MOST_CAPACITY}
use Rattle.link_base.specs.declared.rule.Candidate.{Candidate}
use Rattle.price_check.specs.Assignment.{IsOneToOne, IsGreatest, Certifies, IsCovered, worth, price_sum, CertifiesWithin, IsGreatestWithin, IsWithinCapacities, capacity_of, place_sum}
use Rattle.link_base.specs.declared.rule.PairAt.{PairAt}
use Rattle.link_base.specs.declared.fault.FileRole.{FileRole}
use Rattle.link_base.specs.declared.fault.FileRole.TheVariants.{A, B}
use Rattle.price_check.specs.declared.verdict.Reason.TheVariants.{NotCandidate, Reused, Negative, Uncovered, Sum}
use Rattle.price_check.specs.declared.verdict.Reason.{Reason}
use Rattle.price_check.specs.declared.verdict.Verified.{Verified}
use Rattle.price_check.specs.declared.verdict.Verified.TheVariants.{Yes, No}

-- a price is at most the greatest allowed in size: clauses `small_a` and `small_b`
abbrev pub IsAllowedPrice : ℤ → Type 0
IsAllowedPrice p = (neg_ℤ (pos MOST_VALUE) ≤ℤ p) × (p ≤ℤ pos MOST_VALUE)

-- a candidate's value is at most the greatest allowed in size: clause `allowed`
abbrev pub HasAllowedValue : Candidate → Type 0
HasAllowedValue c = (neg_ℤ (pos MOST_VALUE) ≤ℤ c.value) × (c.value ≤ℤ pos MOST_VALUE)

-- the first place, if there is one, at which Good fails
abbrev pub IsFirstBad : {X : Type 0} → (X → Type 0) → List X → Option ℕ → Type 0
IsFirstBad {X} Good xs place = MatchOption place (All Good xs) (λ i. (i < length xs) × ((k : ℕ) (d : X) → k < i → Good (slice_index_or xs k d)) × ((d : X) → Good (slice_index_or xs i d) → ⊥))

-- the candidate is of the link's records
abbrev pub HasPositions : PairAt → Candidate → Type 0
HasPositions l c = (c.a ≡ l.a) × (c.b ≡ l.b)

-- the candidate at place k has these positions
abbrev pub IsCandidateAt : List Candidate → PairAt → ℕ → Type 0
IsCandidateAt candidates l k = (k < length candidates) × ((d : Candidate) → HasPositions l (slice_index_or candidates k d))

-- some candidate has these positions
abbrev pub IsCandidate : List Candidate → PairAt → Type 0
IsCandidate candidates l = (k : ℕ) × IsCandidateAt candidates l k

-- no earlier link has a position of the one at i
abbrev pub IsFresh : List PairAt → ℕ → Type 0
IsFresh links i = (k : ℕ) (d : PairAt) → k < i → ((slice_index_or links k d).a ≢ (slice_index_or links i d).a) × ((slice_index_or links k d).b ≢ (slice_index_or links i d).b)

-- the first of so many places, if there is one, at which what stands there does not fit what stands before it
abbrev pub IsFirstUnfit : (ℕ → Type 0) → ℕ → Option ℕ → Type 0
IsFirstUnfit Fits count place = MatchOption place ((i : ℕ) → i < count → Fits i) (λ i. (i < count) × ((k : ℕ) → k < i → Fits k) × (Fits i → ⊥))

-- the first link that is not fresh, if there is one
abbrev pub IsFirstReused : List PairAt → Option ℕ → Type 0
IsFirstReused links place = IsFirstUnfit (IsFresh links) (length links) place

-- the candidates that the links name
pub record AreLinks (candidates : List Candidate) (links : List PairAt) (chosen : List Candidate) : Type 0 where
  pub count : length chosen ≡ length links
  pub among : All (Contains candidates) chosen
  pub positions : (k : ℕ) (d : PairAt) (e : Candidate) → k < length links → HasPositions (slice_index_or links k d) (slice_index_or chosen k e)

-- the links are a one-to-one list of candidates that the prices certify
abbrev pub AreCertified : List Candidate → List PairAt → List ℤ → List ℤ → Type 0
AreCertified cs ls ps qs = (chosen : List Candidate) × (AreLinks cs ls chosen × IsOneToOne cs chosen × Certifies cs chosen ps qs)

-- the links are a one-to-one list of candidates, and no such list is worth more
abbrev pub AreGreatest : List Candidate → List PairAt → Type 0
AreGreatest cs ls = (chosen : List Candidate) × (AreLinks cs ls chosen × IsGreatest cs chosen)

-- the first price below 0, those of A before those of B
abbrev pub IsFirstNegative : List ℤ → List ℤ → FileRole → ℕ → Type 0
IsFirstNegative ps qs A i = IsFirstBad (λ p. pos 0 ≤ℤ p) ps (Some i)
IsFirstNegative ps qs B i = All (λ p. pos 0 ≤ℤ p) ps × IsFirstBad (λ p. pos 0 ≤ℤ p) qs (Some i)
IsFirstNegative ps qs _ i = ⊥

-- the reason holds, and none before it in the order of the reasons, where a link fits those before it by `Fits`, and all prices add up to `sum`
abbrev pub IsFirstReasonBy : (ℕ → Type 0) → ℤ → List Candidate → List PairAt → List ℤ → List ℤ → Reason → Type 0
IsFirstReasonBy Fits sum cs ls ps qs (NotCandidate i) = IsFirstBad (IsCandidate cs) ls (Some i)
IsFirstReasonBy Fits sum cs ls ps qs (Reused i) = All (IsCandidate cs) ls × IsFirstUnfit Fits (length ls) (Some i)
IsFirstReasonBy Fits sum cs ls ps qs (Negative side i) = All (IsCandidate cs) ls × IsFirstUnfit Fits (length ls) None × IsFirstNegative ps qs side i
IsFirstReasonBy Fits sum cs ls ps qs (Uncovered i) =
    All (IsCandidate cs) ls × IsFirstUnfit Fits (length ls) None × All (λ p. pos 0 ≤ℤ p) ps × All (λ p. pos 0 ≤ℤ p) qs × IsFirstBad (IsCovered ps qs) cs (Some i)
IsFirstReasonBy Fits sum cs ls ps qs (Sum l p) = All (IsCandidate cs) ls × IsFirstUnfit Fits (length ls) None × All (λ p. pos 0 ≤ℤ p) ps
    × All (λ p. pos 0 ≤ℤ p) qs × All (IsCovered ps qs) cs × (p ≡ sum) × ((chosen : List Candidate) → AreLinks cs ls chosen → l ≡ worth chosen) × (l ≢ p)

-- the first reason against one-to-one links
abbrev pub IsFirstReason : List Candidate → List PairAt → List ℤ → List ℤ → Reason → Type 0
IsFirstReason cs ls ps qs reason = IsFirstReasonBy (IsFresh ls) (price_sum ps +ℤ price_sum qs) cs ls ps qs reason

-- the answer of a check
abbrev pub IsVerdict : List Candidate → List PairAt → List ℤ → List ℤ → Verified → Type 0
IsVerdict cs ls ps qs Yes = AreCertified cs ls ps qs
IsVerdict cs ls ps qs (No reason) = IsFirstReason cs ls ps qs reason

-- yes exactly where the links are one-to-one candidates that the prices certify, which are then greatest, and else the first reason
pub record IsChecked (cs : List Candidate) (ls : List PairAt) (ps qs : List ℤ) (v : Verified) : Type 0 where
  pub first_reason : IsVerdict cs ls ps qs v
  pub certified : (v ≡ Yes) ↔ AreCertified cs ls ps qs
  pub greatest : v ≡ Yes → AreGreatest cs ls

-- What a check with capacities needs and what it answers: clauses `first_reason`, `certified` and `greatest` of
-- `check_capacity`. The reasons are those of a check of one-to-one links, in the same order.

-- a capacity is at most the greatest allowed: clause `allowed_capacities`
abbrev pub IsAllowedCapacity : ℕ → Type 0
IsAllowedCapacity n = n ≤ MOST_CAPACITY

-- in how many links a record of B stands
abbrev pub pairs_at : ℕ → List PairAt → ℕ
pairs_at b links = count_by (λ l. l.b == b) links

-- no earlier link has the record of A of the link at i, and fewer than its capacity have its record of B
abbrev pub HasPlace : List ℕ → List PairAt → ℕ → Type 0
HasPlace capacities links i =
    ((k : ℕ) (d : PairAt) → k < i → (slice_index_or links k d).a ≢ (slice_index_or links i d).a)
    × ((d : PairAt) → pairs_at (slice_index_or links i d).b (take i links) < capacity_of capacities (slice_index_or links i d).b)

-- the first link that has no place, if there is one
abbrev pub IsFirstUnplaced : List ℕ → List PairAt → Option ℕ → Type 0
IsFirstUnplaced capacities links place = IsFirstUnfit (HasPlace capacities links) (length links) place

-- the links are a list of candidates within the capacities that the prices certify
abbrev pub AreCertifiedWithin : List Candidate → List ℕ → List PairAt → List ℤ → List ℤ → Type 0
AreCertifiedWithin cs ns ls ps qs = (chosen : List Candidate) × (AreLinks cs ls chosen × IsWithinCapacities cs ns chosen × CertifiesWithin cs ns chosen ps qs)

-- the links are a list of candidates within the capacities, and no such list is worth more
abbrev pub AreGreatestWithin : List Candidate → List ℕ → List PairAt → Type 0
AreGreatestWithin cs ns ls = (chosen : List Candidate) × (AreLinks cs ls chosen × IsGreatestWithin cs ns chosen)

-- the first reason against links within capacities
abbrev pub IsFirstReasonWithin : List Candidate → List ℕ → List PairAt → List ℤ → List ℤ → Reason → Type 0
IsFirstReasonWithin cs ns ls ps qs reason = IsFirstReasonBy (HasPlace ns ls) (price_sum ps +ℤ place_sum ns qs) cs ls ps qs reason

-- the answer of a check with capacities
abbrev pub IsVerdictWithin : List Candidate → List ℕ → List PairAt → List ℤ → List ℤ → Verified → Type 0
IsVerdictWithin cs ns ls ps qs Yes = AreCertifiedWithin cs ns ls ps qs
IsVerdictWithin cs ns ls ps qs (No reason) = IsFirstReasonWithin cs ns ls ps qs reason
