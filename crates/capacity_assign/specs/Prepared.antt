-- Machinery of `CapacityAssigner`: what holds of its parts from `new` to `solve`, and of those of
-- `CapacityAssignment`.
use Rattle.std.specs.Prelude.{◌≡◌, ℕ, ◌+◌, ◌≤◌, List, length, All, AllPairs, ◌<◌, None, replicate}
use Rattle.link_limits.specs.declared.TheConstants.{MOST_VALUE}
use Rattle.price_check.specs.Assignment.{IsBefore, capacity_of}
use Rattle.capacity_assign.specs.declared.assigner.CapacityAssigner.TheInside.{Inside}
use Rattle.capacity_assign.specs.Seating.{AreAlike, linked_at, seating, Seating}
use Rattle.assignment_steps.specs.Words.{number, AreListed, edge, IsAtRest, edges_of, ReachAll}
use Rattle.capacity_assign.specs.Round.{IsBetweenRounds}
use Rattle.assignment_steps.specs.declared.market.Edge.{Edge}
use Rattle.capacity_assign.specs.declared.start.Start.{Start}

-- all is ready for the first round
pub record IsPrepared (s : Inside) : Type 0 where
  pub order : AllPairs IsBefore s.candidates.items
  pub edges : s.edges.items ≡ edges_of s.candidates.items
  pub listed : AreListed s.edges.items (length s.price_a.items) s.starts.items
  pub alike : AreAlike s.edges.items (length s.price_a.items) s.like.items
  pub between : IsBetweenRounds s.edges.items s.price_a.items s.price_b.items s.link_a.items (seating s.seats) 0
  pub places : (b : ℕ) → number s.seats.left.items b + linked_at s.edges.items s.link_a.items b ≡ capacity_of s.capacity.items b
  pub rows_a : length s.price_a.items ≡ s.rows_a
  pub rows_b : length s.price_b.items ≡ length s.capacity.items
  pub tree : IsAtRest (length s.price_a.items) (length s.price_b.items) (length s.edges.items) s.tree.reached

-- no price is above the greatest size of a value
abbrev pub AreSmallPrices : List ℕ → Type 0
AreSmallPrices prices = All (λ p. p ≤ MOST_VALUE) prices

-- Machinery of `new` and `solve`: candidates as edges, and links and prices as they are handed out.

-- prices of B that reach each edge's value where the record of B has no place, and are 0 elsewhere
pub record AreClosed (es : List Edge) (capacities pb : List ℕ) : Type 0 where
  pub records : length pb ≡ length capacities
  pub covered : (k : ℕ) → k < length es → capacity_of capacities (edge es k).b ≡ 0 → (edge es k).value ≤ number pb (edge es k).b
  pub vacant : (b : ℕ) → 0 < capacity_of capacities b → number pb b ≡ 0
  pub small : (b : ℕ) → number pb b ≤ MOST_VALUE

-- the price of an edge's record of B reaches its value where the record has no place, and no other price changes
pub record Closes (capacities : List ℕ) (e : Edge) (old new : List ℕ) : Type 0 where
  pub here : capacity_of capacities e.b ≡ 0 → e.value ≤ number new e.b
  pub kept : (r : ℕ) → number old r ≤ number new r
  pub vacant : (r : ℕ) → 0 < capacity_of capacities r → number new r ≡ number old r
  pub small : e.value ≤ MOST_VALUE → ((r : ℕ) → number old r ≤ MOST_VALUE) → (r : ℕ) → number new r ≤ MOST_VALUE

-- seats before any is taken
pub record AreEmpty (rows_a : ℕ) (capacities : List ℕ) (s : Seating) : Type 0 where
  pub seats : length s.seat ≡ rows_a
  pub sitters : length s.sitter ≡ rows_a
  pub owners : length s.owner ≡ rows_a
  pub earliers : length s.earlier ≡ rows_a
  pub lasts : s.last ≡ replicate (length capacities) None
  pub left : s.left ≡ capacities
  pub count : s.count ≡ 0

-- Machinery of `CapacityAssigner::new`: what is there before any record of A is taken up.

-- prices that cover the edges, no links, no seats, and a clean tree
pub record IsAtStart (es : List Edge) (rows_a : ℕ) (capacities : List ℕ) (s : Start) : Type 0 where
  pub closed : AreClosed es capacities s.price_b.items
  pub reach : ReachAll es rows_a s.price_a.items s.price_b.items
  pub links : s.link_a.items ≡ replicate rows_a None
  pub seats : AreEmpty rows_a capacities (seating s.seats)
  pub rest : IsAtRest rows_a (length capacities) (length es) s.tree.reached
