-- Edges with prices and links, of which every step of an assignment speaks; `adopt_all` and `adopt_proposal` keep prices
-- covering and links tight by their clause `between`.
use Rattle.std.specs.Prelude.{◌≡◌, ℕ, ◌+◌, ◌^◌, ◌<◌, ◌≤◌, List, length, slice_index_or, Option, Some, None, ◌==◌, count_by}
use Rattle.link_limits.specs.declared.TheConstants.{MOST_PAIRS, MOST_VALUE}
use Rattle.assignment_steps.specs.declared.market.Edge.{Edge}
use Rattle.assignment_steps.specs.declared.queue.TheConstants.{FARTHEST}

abbrev pub no_edge : Edge
no_edge = record { a = 0; b = 0; value = 0 }

-- the edge at a place
abbrev pub edge : List Edge → ℕ → Edge
edge es k = slice_index_or es k no_edge

-- the edge that links a record, if one does
abbrev pub link : List (Option ℕ) → ℕ → Option ℕ
link links position = slice_index_or links position None

abbrev pub number : List ℕ → ℕ → ℕ
number xs position = slice_index_or xs position 0

-- links of the two sides that agree, each by an edge of its record
pub record IsMatched (es : List Edge) (la lb : List (Option ℕ)) : Type 0 where
  pub of_a : (a k : ℕ) → link la a ≡ Some k → (k < length es) × ((edge es k).a ≡ a) × (link lb (edge es k).b ≡ Some k)
  pub of_b : (b k : ℕ) → link lb b ≡ Some k → (k < length es) × ((edge es k).b ≡ b) × (link la (edge es k).a ≡ Some k)

-- each link of a record of A is by an edge of it
abbrev pub AreLinked : List Edge → List (Option ℕ) → Type 0
AreLinked es la = (a k : ℕ) → link la a ≡ Some k → (k < length es) × ((edge es k).a ≡ a)

-- each edge stands within the records, and the places of both and of edges fit into four bytes
pub record IsInRange (es : List Edge) (rows_a rows_b : ℕ) : Type 0 where
  pub few : length es ≤ MOST_PAIRS
  pub few_a : rows_a < 2 ^ 32
  pub few_b : rows_b < 2 ^ 32
  pub record_a : (k : ℕ) → k < length es → (edge es k).a < rows_a
  pub record_b : (k : ℕ) → k < length es → (edge es k).b < rows_b

-- the two prices of each edge reach its value
abbrev pub AreCovered : List Edge → List ℕ → List ℕ → Type 0
AreCovered es pa pb = (k : ℕ) → k < length es → (edge es k).value ≤ number pa (edge es k).a + number pb (edge es k).b

-- the two prices of an edge are its value
abbrev pub IsTight : List Edge → List ℕ → List ℕ → ℕ → Type 0
IsTight es pa pb k = number pa (edge es k).a + number pb (edge es k).b ≡ (edge es k).value

-- each link is tight
abbrev pub AreTight : List Edge → List ℕ → List ℕ → List (Option ℕ) → Type 0
AreTight es pa pb la = (k : ℕ) → link la (edge es k).a ≡ Some k → IsTight es pa pb k

-- no value is large
abbrev pub AreSmall : List Edge → Type 0
AreSmall es = (k : ℕ) → (edge es k).value ≤ MOST_VALUE

-- the edges stand by their records of A
abbrev pub IsRising : List Edge → Type 0
IsRising es = (i j : ℕ) → i ≤ j → j < length es → (edge es i).a ≤ (edge es j).a

-- the place of the first edge of a record of A, or of one above it
pub record IsStart (es : List Edge) (a start : ℕ) : Type 0 where
  pub within : start ≤ length es
  pub below : (k : ℕ) → k < start → (edge es k).a < a
  pub above : (k : ℕ) → start ≤ k → k < length es → a ≤ (edge es k).a

-- the first places of all records of A, and of one past the last
pub record AreStarts (es : List Edge) (rows : ℕ) (starts : List ℕ) : Type 0 where
  pub count : length starts ≡ rows + 1
  pub starts_at : (a : ℕ) → a ≤ rows → IsStart es a (number starts a)

-- edges that stand by their records of A, none with a large value, and the first places of all records
pub record AreListed (es : List Edge) (rows : ℕ) (starts : List ℕ) : Type 0 where
  pub rising : IsRising es
  pub small : AreSmall es
  pub begins : AreStarts es rows starts

-- Distances of the records of a side from a root: `raise` and `lower`.

-- a distance, far where there is none
abbrev pub far : ℕ
far = FARTHEST

abbrev pub distance : List ℕ → ℕ → ℕ
distance xs position = slice_index_or xs position far

-- how many records are not reached yet
abbrev pub unreached : List ℕ → ℕ
unreached ds = count_by (λ d. d == far) ds
