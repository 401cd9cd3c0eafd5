-- The parts of candidates, with their numbers: the clause of `part_numbers`, and of `parts` and `part_of` (clause
-- `numbered`) of `Assigner` in `assignment`.
use Rattle.std.specs.Prelude.{◌≡◌, ◌≢◌, ◌⊎◌, ◌↔◌, ℕ, zero, suc, ◌<◌, List, length, slice_index_or, slice_index}
use Rattle.link_base.specs.declared.rule.Candidate.{Candidate}
use Rattle.price_check.specs.Assignment.{no_candidate}

-- the candidate at a place
abbrev pub candidate : List Candidate → ℕ → Candidate
candidate cs k = slice_index_or cs k no_candidate

-- the candidates at two places share their record of A or their record of B
abbrev pub ShareRecord : List Candidate → ℕ → ℕ → Type 0
ShareRecord cs j k = ((candidate cs j).a ≡ (candidate cs k).a) ⊎ ((candidate cs j).b ≡ (candidate cs k).b)

-- a chain of so many candidates leads from one place to the other, each of which shares a record with the next
abbrev pub RecordChain : List Candidate → ℕ → ℕ → ℕ → Type 0
RecordChain cs zero j k = j ≡ k
RecordChain cs (suc n) j k = (i : ℕ) × ((i < length cs) × ShareRecord cs j i × RecordChain cs n i k)

-- some chain does
abbrev pub AreInOnePart : List Candidate → ℕ → ℕ → Type 0
AreInOnePart cs j k = (n : ℕ) × RecordChain cs n j k

-- no earlier place has the number of this one
abbrev pub IsFirstOf : List ℕ → ℕ → Type 0
IsFirstOf numbers k = (i : ℕ) → i < k → slice_index numbers i ≢ slice_index numbers k

-- the numbers of the parts, from 0 in the order of their first candidates
pub record ArePartNumbers (cs : List Candidate) (numbers : List ℕ) (parts : ℕ) : Type 0 where
  pub count : length numbers ≡ length cs
  pub joined : (j k : ℕ) → j < length cs → k < length cs → (slice_index numbers j ≡ slice_index numbers k) ↔ AreInOnePart cs j k
  pub below : (k : ℕ) → k < length cs → slice_index numbers k < parts
  pub used : (p : ℕ) → p < parts → (k : ℕ) × ((k < length cs) × (slice_index numbers k ≡ p))
  pub in_order : (j k : ℕ) → j < k → k < length cs → IsFirstOf numbers j → IsFirstOf numbers k → slice_index numbers j < slice_index numbers k
