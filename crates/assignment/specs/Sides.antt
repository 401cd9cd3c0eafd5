-- Machinery of `Assigner`: the side that searches, and the other side over the turned edges.
use Rattle.std.specs.Prelude.{◌≡◌, ℕ, List, length, Option, None, MatchOption, ◌≤◌, pos, ◌≤ℤ◌, All, AllPairs}
use Rattle.assignment_steps.specs.declared.market.Edge.{Edge}
use Rattle.assignment_steps.specs.declared.market.Board.{Board}
use Rattle.assignment_steps.specs.Words.{link, IsInRange, AreListed, IsBetween, AreJoinedAs, IsAtRest, edges_of}
use Rattle.assignment.specs.declared.side.Side.{Side}
use Rattle.assignment.specs.declared.side.Other.{Other}
use Rattle.assignment.specs.declared.graph.Graph.{Graph}
use Rattle.assignment.specs.declared.graph.Sides.{Sides}
use Rattle.link_limits.specs.declared.TheConstants.{MOST_VALUE}
use Rattle.link_base.specs.declared.rule.Candidate.{Candidate}
use Rattle.price_check.specs.Assignment.{IsBefore, greatest_value}
use Rattle.price_check.specs.PartNumbers.{ArePartNumbers}
use Rattle.assignment.specs.declared.assigner.Assigner.TheInside.{Inside}

-- prices and links between two steps, with room
pub record IsSide (es : List Edge) (s : Side) : Type 0 where
  pub between : IsBetween es s.price_a.items s.price_b.items s.link_a.items s.link_b.items 0
  pub rest : IsAtRest (length s.price_a.items) (length s.price_b.items) (length es) s.tree.reached

-- of so many records
pub record IsSideOf (es : List Edge) (rows_a rows_b : ℕ) (s : Side) : Type 0 where
  pub side : IsSide es s
  pub count_a : length s.price_a.items ≡ rows_a
  pub count_b : length s.price_b.items ≡ rows_b

-- the records of A of a side were settled
pub record HasRun (es : List Edge) (old new : Side) : Type 0 where
  pub between : IsBetween es new.price_a.items new.price_b.items new.link_a.items new.link_b.items (length new.price_a.items)
  pub rows_a : length new.price_a.items ≡ length old.price_a.items
  pub rows_b : length new.price_b.items ≡ length old.price_b.items

-- the other side of so many records, and no link yet as a link of the edges
pub record IsOther (turned : List Edge) (rows_a rows_b : ℕ) (o : Other) : Type 0 where
  pub side : IsSideOf turned rows_b rows_a o.side
  pub links_a : length o.link_a.items ≡ rows_a
  pub links_b : length o.link_b.items ≡ rows_b
  pub none_a : (a : ℕ) → link o.link_a.items a ≡ None
  pub none_b : (b : ℕ) → link o.link_b.items b ≡ None

-- the other side came to its end over the turned edges, and its prices and links were taken over where they serve
pub record IsTakenOver (board : Board) (s : Side) : Type 0 where
  pub price_a : List ℕ
  pub price_b : List ℕ
  pub link_a : List (Option ℕ)
  pub link_b : List (Option ℕ)
  pub new_a : List (Option ℕ)
  pub new_b : List (Option ℕ)
  pub solved : IsBetween board.turned.now price_b price_a link_b link_a (length price_b)
  pub joined : AreJoinedAs board new_a new_b link_b (length link_b)
  pub adopted : IsBetween board.edges.now price_a price_b new_a new_b 0 → (s.price_a.items ≡ price_a) × (s.price_b.items ≡ price_b) × (s.link_a.items ≡ new_a) × (s.link_b.items ≡ new_b)

-- Machinery of `Assigner`: the edges of candidates from both sides, and the sides that search over them.

-- the edges and the turned edges are in range, and their starts are told
pub record IsGraph (rows_a rows_b : ℕ) (g : Graph) : Type 0 where
  pub in_range : IsInRange g.edges.items rows_a rows_b
  pub listed : AreListed g.edges.items rows_a g.starts.items
  pub turned : IsInRange g.turned.items rows_b rows_a
  pub turned_listed : AreListed g.turned.items rows_b g.turned_starts.items

-- the sides stand over the edges and the turned edges, for so many records
pub record AreTwoSides (rows_a rows_b : ℕ) (g : Graph) (s : Sides) : Type 0 where
  pub own : IsSideOf g.edges.items rows_a rows_b s.own
  pub other : MatchOption s.other (Unit {0}) (IsOther g.turned.items rows_a rows_b)

-- Machinery of `Assigner`: what holds of its parts from `new` to `solve`, and of those of `Assignment`.

-- all is ready for the first step
pub record IsPrepared (s : Inside) : Type 0 where
  pub order : AllPairs IsBefore s.candidates.items
  pub edges : s.graph.edges.items ≡ edges_of s.candidates.items
  pub graph : IsGraph s.rows_a s.rows_b s.graph
  pub sides : AreTwoSides s.rows_a s.rows_b s.graph s.sides
  pub parts : ArePartNumbers s.candidates.items s.part_numbers.numbers.items s.part_numbers.parts

-- no price is above the greatest of 0 and the links' values, nor above the greatest size of a value
abbrev pub AreBounded : List Candidate → List ℕ → Type 0
AreBounded links prices = All (λ p. (pos p ≤ℤ greatest_value links) × (p ≤ MOST_VALUE)) prices
