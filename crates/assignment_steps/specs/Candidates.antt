-- Candidates as edges, and links and prices as they are handed out: `edges_of`, `linked`, and the calls of both assigners.
use Rattle.std.specs.Prelude.{ℕ, zero, suc, ℤ, pos, negsuc, ◌≤ℤ◌, List, Option, Some, None, Bool, true, false, ◌&&◌, ◌==◌, filter_map, map, IsPermutation}
use Rattle.link_limits.specs.declared.TheConstants.{MOST_VALUE}
use Rattle.link_base.specs.declared.rule.Candidate.{Candidate}
use Rattle.assignment_steps.specs.declared.market.Edge.{Edge}
use Rattle.assignment_steps.specs.Market.{link, edge, IsRising}

-- a value that is not too great
abbrev pub HasSmallValue : Candidate → Type 0
HasSmallValue c = c.value ≤ℤ pos MOST_VALUE

-- the natural number above 0 that a value is, if it is one
abbrev pub positive : ℤ → Option ℕ
positive (pos zero) = None
positive (pos (suc n)) = Some (suc n)
positive (negsuc n) = None

-- a candidate as an edge, where its value is positive
abbrev pub valued_edge : Candidate → Option ℕ → Option Edge
valued_edge c None = None
valued_edge c (Some v) = Some (record { a = c.a; b = c.b; value = v })

abbrev pub edge_from : Candidate → Option Edge
edge_from c = valued_edge c (positive c.value)

-- the candidates with positive values
abbrev pub edges_of : List Candidate → List Edge
edges_of cs = filter_map edge_from cs

-- the value is positive
abbrev pub is_positive : ℤ → Bool
is_positive (pos zero) = false
is_positive (pos (suc n)) = true
is_positive (negsuc n) = false

-- the candidate is the one that its record of A is linked by
abbrev pub links_to : List Edge → Candidate → Option ℕ → Bool
links_to es c None = false
links_to es c (Some k) = is_positive c.value && ((edge es k).b == c.b)

abbrev pub is_linked : List Edge → List (Option ℕ) → Candidate → Bool
is_linked es la c = links_to es c (link la c.a)

-- prices as integers
abbrev pub prices_of : List ℕ → List ℤ
prices_of ps = map pos ps

-- a list of links with prices
pub record Solution : Type 0 where
  pub links : List Candidate
  pub prices_a : List ℤ
  pub prices_b : List ℤ

-- Edges as the other side sees them: `turned_edges`.

-- an edge with its records changed over
abbrev pub turned_edge : Edge → Edge
turned_edge e = record { a = e.b; b = e.a; value = e.value }

-- the edges as the other side sees them, in whichever order
abbrev pub AreTurned : List Edge → List Edge → Type 0
AreTurned es turned = IsPermutation (map turned_edge es) turned

-- and by their records there
pub record AreTurnedInOrder (es other : List Edge) : Type 0 where
  pub turned : AreTurned es other
  pub rising : IsRising other
