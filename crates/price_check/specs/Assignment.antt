-- One-to-one lists of candidates, greatest lists, and certificates by dual prices (Kuhn 1955).
-- Promised by `Assigner::solve` of `assignment` (clauses `greatest` and `certified`) and decided by `check_capacity`
-- of `price_check` (clause `one_to_one`).
use Rattle.std.specs.Prelude.{◌≡◌, ◌≢◌, ◌⊎◌, ℕ, ◌<◌, ℤ, pos, ◌+ℤ◌, ◌≤ℤ◌, false, List, [], ◌∷◌, All, AllPairs, Contains, fold, map, slice_index_or, ◌==◌, ◌≤◌, ◌*ℤ◌, count_by, slice_index, zip}
use Rattle.std.specs.Int.{int_max}
use Rattle.link_base.specs.declared.rule.Candidate.{Candidate}

-- what is read past the end of a list of candidates
abbrev pub no_candidate : Candidate
no_candidate = record { a = 0; b = 0; weight = pos 0; value = pos 0; reviewed = false }

-- the sum of what the members are worth
abbrev pub total : {X : Type 0} → (X → ℤ) → List X → ℤ
total f [] = pos 0
total f (x ∷ xs) = f x +ℤ total f xs

-- the sum of a list of prices
abbrev pub price_sum : List ℤ → ℤ
price_sum prices = total (λ p. p) prices

-- the price of a record, 0 for a record that is not there
abbrev pub price_of : List ℤ → ℕ → ℤ
price_of prices position = slice_index_or prices position (pos 0)

-- what a list of candidates is worth
abbrev pub worth : List Candidate → ℤ
worth links = total (λ c. c.value) links

-- the greatest of 0 and the candidates' values
abbrev pub greatest_value : List Candidate → ℤ
greatest_value candidates = fold int_max (pos 0) (map (λ c. c.value) candidates)

-- x stands before y by (a, b)
abbrev pub IsBefore : Candidate → Candidate → Type 0
IsBefore x y = (x.a < y.a) ⊎ ((x.a ≡ y.a) × (x.b < y.b))

-- the candidate is of two records that are there
abbrev pub IsWithin : ℕ → ℕ → Candidate → Type 0
IsWithin rows_a rows_b c = (c.a < rows_a) × (c.b < rows_b)

-- no record stands in both
abbrev pub SharesNoRecord : Candidate → Candidate → Type 0
SharesNoRecord x y = (x.a ≢ y.a) × (x.b ≢ y.b)

-- a one-to-one list of candidates
pub record IsOneToOne (candidates links : List Candidate) : Type 0 where
  pub among : All (Contains candidates) links
  pub rising : AllPairs IsBefore links
  pub apart : AllPairs SharesNoRecord links

-- no one-to-one list of candidates is worth more
pub record IsGreatest (candidates links : List Candidate) : Type 0 where
  pub one_to_one : IsOneToOne candidates links
  pub most : (others : List Candidate) → IsOneToOne candidates others → worth others ≤ℤ worth links

-- the prices of the two records reach the candidate's value
abbrev pub IsCovered : List ℤ → List ℤ → Candidate → Type 0
IsCovered prices_a prices_b c = c.value ≤ℤ (price_of prices_a c.a +ℤ price_of prices_b c.b)

-- prices that show that no one-to-one list is worth more than this one
pub record Certifies (candidates links : List Candidate) (prices_a prices_b : List ℤ) : Type 0 where
  pub floor_a : All (λ p. pos 0 ≤ℤ p) prices_a
  pub floor_b : All (λ p. pos 0 ≤ℤ p) prices_b
  pub covered : All (IsCovered prices_a prices_b) candidates
  pub balanced : (price_sum prices_a +ℤ price_sum prices_b) ≡ worth links

-- Lists of candidates in which a record of B may stand as often as its capacity, greatest ones, and certificates by
-- dual prices (the transportation problem: Hitchcock 1941). Promised by `CapacityAssigner::solve` of
-- `capacity_assign` (clauses `greatest` and `certified`) and decided by `check_capacity` of `price_check` (clauses
-- `certified` and `greatest`).

-- in how many links a record of B may stand, 0 for a record that is not there
abbrev pub capacity_of : List ℕ → ℕ → ℕ
capacity_of capacities b = slice_index capacities b

-- in how many members a record of B stands
abbrev pub links_at : ℕ → List Candidate → ℕ
links_at b links = count_by (λ c. c.b == b) links

-- a list of candidates within capacities
pub record IsWithinCapacities (candidates : List Candidate) (capacities : List ℕ) (links : List Candidate) : Type 0 where
  pub among : All (Contains candidates) links
  pub rising : AllPairs IsBefore links
  pub apart : AllPairs (λ x y. x.a ≢ y.a) links
  pub fits : (b : ℕ) → links_at b links ≤ capacity_of capacities b

-- no list of candidates within the capacities is worth more
pub record IsGreatestWithin (candidates : List Candidate) (capacities : List ℕ) (links : List Candidate) : Type 0 where
  pub within : IsWithinCapacities candidates capacities links
  pub most : (others : List Candidate) → IsWithinCapacities candidates capacities others → worth others ≤ℤ worth links

-- what the prices of B add up to, each as often as the record's capacity
abbrev pub place_sum : List ℕ → List ℤ → ℤ
place_sum capacities prices = total (λ x. pos x.0 *ℤ x.1) (zip capacities prices)

-- prices that show that no list within the capacities is worth more than this one
pub record CertifiesWithin (candidates : List Candidate) (capacities : List ℕ) (links : List Candidate) (prices_a prices_b : List ℤ) : Type 0 where
  pub floor_a : All (λ p. pos 0 ≤ℤ p) prices_a
  pub floor_b : All (λ p. pos 0 ≤ℤ p) prices_b
  pub covered : All (IsCovered prices_a prices_b) candidates
  pub balanced : (price_sum prices_a +ℤ place_sum capacities prices_b) ≡ worth links
