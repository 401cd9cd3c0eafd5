-- Machinery of `candidate_at` and `first_unplaced`: a search by halves, and counts at the records of B.
use Rattle.std.specs.Prelude.{◌≡◌, ◌⊎◌, ℕ, ◌<◌, List, slice_index, take}
use Rattle.link_base.specs.declared.rule.Candidate.{Candidate}
use Rattle.link_base.specs.declared.rule.PairAt.{PairAt}
use Rattle.price_check.specs.Verdict.{pairs_at}

-- the link's record of B is there
abbrev pub IsPairWithin : ℕ → PairAt → Type 0
IsPairWithin rows_b l = l.b < rows_b

-- the candidate stands before the link's records
abbrev pub IsCandidateBefore : Candidate → PairAt → Type 0
IsCandidateBefore c l = (c.a < l.a) ⊎ ((c.a ≡ l.a) × (c.b < l.b))

-- how often each record of B stands in the links below i
abbrev pub AreUsed : List ℕ → List PairAt → ℕ → Type 0
AreUsed used links i = (b : ℕ) → slice_index used b ≡ pairs_at b (take i links)
