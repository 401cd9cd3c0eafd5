-- Machinery of `part_numbers`: sets of places as trees, each place below an earlier one (Tarjan 1975), and the
-- numbers that the tops take.
use Rattle.std.proofs.Common.{min, ◌≡◌, ◌≢◌, ℕ, zero, suc, ◌<◌, ◌≤◌, ◌||◌, ◌==◌, if◌then◌else◌, List, length, slice_index, slice_index_or, Option, None, MatchOption}
use Rattle.link_base.specs.declared.rule.Candidate.{Candidate}
use Rattle.price_check.specs.PartNumbers.{ShareRecord, AreInOnePart, candidate}

-- each place points to itself or to an earlier one
abbrev pub PointsUp : List ℕ → Type 0
PointsUp up = (x : ℕ) → slice_index up x ≤ x

-- the place that so many steps lead to
abbrev pub climbed : List ℕ → ℕ → ℕ → ℕ
climbed up zero x = x
climbed up (suc n) x = climbed up n (slice_index up x)

-- the place at the top
abbrev pub top : List ℕ → ℕ → ℕ
top up x = climbed up x x

-- the top of what had the top r, once the tops s and t are one
abbrev pub merged : ℕ → ℕ → ℕ → ℕ
merged s t r = if (r == s) || (r == t) then min s t else r

-- the last place before k whose candidate has this record of B, or none
abbrev pub IsLast : List Candidate → ℕ → ℕ → Option ℕ → Type 0
IsLast cs k b place = MatchOption place ((i : ℕ) → i < k → (candidate cs i).b ≢ b) (λ p. (p < k) × ((candidate cs p).b ≡ b) × ((i : ℕ) → i < k → (candidate cs i).b ≡ b → i ≤ p))

-- the last place of each record of B, before k
abbrev pub AreLast : List Candidate → List (Option ℕ) → ℕ → Type 0
AreLast cs last k = (b : ℕ) → b < length last → IsLast cs k b (slice_index_or last b None)

-- the candidates before k that share a record have one top, and none has the top of a part of others
pub record AreUnited (cs : List Candidate) (up : List ℕ) (k : ℕ) : Type 0 where
  pub count : length up ≡ length cs
  pub earlier : PointsUp up
  pub joined : (x : ℕ) → x < length cs → AreInOnePart cs x (top up x)
  pub shared : (i j : ℕ) → i < j → j < k → ShareRecord cs i j → top up i ≡ top up j

-- numbers by the tops, each new one the next
pub record AreByTop (up numbers : List ℕ) (i parts : ℕ) : Type 0 where
  pub same : (x : ℕ) → x < i → slice_index numbers x ≡ slice_index numbers (top up x)
  pub below : (x : ℕ) → x < i → slice_index numbers x < parts
  pub used : (p : ℕ) → p < parts → (x : ℕ) × ((x < i) × (slice_index numbers x ≡ p))
  pub tops : (x y : ℕ) → x < y → y < i → slice_index up x ≡ x → slice_index up y ≡ y → slice_index numbers x < slice_index numbers y
