-- What holds between two steps of an assignment: kept by `link_tight`, `adopt_all` and `adopt_proposal` (clause
-- `between` of each).
use Rattle.std.specs.Prelude.{◌≡◌, ◌≢◌, ◌⊎◌, ℕ, ◌<◌, ◌≤◌, List, length, Option, None, ◌+◌, Some}
use Rattle.link_limits.specs.declared.TheConstants.{MOST_VALUE}
use Rattle.assignment_steps.specs.declared.market.Edge.{Edge}
use Rattle.assignment_steps.specs.Market.{link, number, AreCovered, AreLinked, AreTight, IsInRange, IsMatched, edge, IsTight}
use Rattle.assignment_steps.specs.declared.market.Board.{Board}

-- a record of A has a link, or no price
abbrev pub IsDone : List ℕ → List (Option ℕ) → ℕ → Type 0
IsDone pa la a = link la a ≡ None → number pa a ≡ 0

-- prices that cover each edge, none of them large, and links by tight edges: no record of B that is free has a price, and
-- each record of A below `done` is done
pub record IsPriced (es : List Edge) (pa pb : List ℕ) (la : List (Option ℕ)) (IsFree : ℕ → Type 0) (done : ℕ) : Type 0 where
  pub rows_a : length la ≡ length pa
  pub in_range : IsInRange es (length pa) (length pb)
  pub covered : AreCovered es pa pb
  pub small_a : (a : ℕ) → number pa a ≤ MOST_VALUE
  pub small_b : (b : ℕ) → number pb b ≤ MOST_VALUE
  pub linked : AreLinked es la
  pub tight : AreTight es pa pb la
  pub free_a : (a : ℕ) → a < done → IsDone pa la a
  pub free_b : (b : ℕ) → IsFree b → number pb b ≡ 0

-- a record of B has no link
abbrev pub HasNoLink : List (Option ℕ) → ℕ → Type 0
HasNoLink lb b = link lb b ≡ None

-- prices and links one to one between two steps: the records of A below `done` are settled
pub record IsBetween (es : List Edge) (pa pb : List ℕ) (la lb : List (Option ℕ)) (done : ℕ) : Type 0 where
  pub priced : IsPriced es pa pb la (HasNoLink lb) done
  pub rows_b : length lb ≡ length pb
  pub matched : IsMatched es la lb

-- prices of A, none of them large, that reach each edge's value with those of B
pub record ReachAll (es : List Edge) (rows_a : ℕ) (pa pb : List ℕ) : Type 0 where
  pub records : length pa ≡ rows_a
  pub covered : AreCovered es pa pb
  pub small : (a : ℕ) → number pa a ≤ MOST_VALUE

-- one price is at least a value, and no other changes
pub record RaisesTo (old new : List ℕ) (position value : ℕ) : Type 0 where
  pub here : value ≤ number new position
  pub kept : (r : ℕ) → number old r ≤ number new r
  pub only : (number new position ≡ value) ⊎ (new ≡ old)
  pub others : (r : ℕ) → r ≢ position → number new r ≡ number old r
  pub small : value ≤ MOST_VALUE → ((r : ℕ) → number old r ≤ MOST_VALUE) → (r : ℕ) → number new r ≤ MOST_VALUE

-- Tight edges that join records without links: clause `settled` of `link_tight`.

-- a record of B has a link
abbrev pub HasLink : List (Option ℕ) → ℕ → Type 0
HasLink lb b = link lb b ≢ None

-- an edge is not tight, or its record of A has a link, or its record of B is taken
abbrev pub IsSettled : List Edge → List ℕ → List ℕ → List (Option ℕ) → (ℕ → Type 0) → ℕ → Type 0
IsSettled es pa pb la IsTaken k = IsTight es pa pb k → link la (edge es k).a ≡ None → IsTaken (edge es k).b

-- so are the first `count` edges
abbrev pub AreSettled : List Edge → List ℕ → List ℕ → List (Option ℕ) → (ℕ → Type 0) → ℕ → Type 0
AreSettled es pa pb la IsTaken count = (k : ℕ) → k < count → IsSettled es pa pb la IsTaken k

-- edge k was tried: it is settled, and what was linked stays so
pub record TriesEdge (es : List Edge) (pa pb : List ℕ) (k : ℕ) (la lb la' lb' : List (Option ℕ)) : Type 0 where
  pub between : IsBetween es pa pb la' lb' 0
  pub settled : IsSettled es pa pb la' (HasLink lb') k
  pub kept_a : (a : ℕ) → link la' a ≡ None → link la a ≡ None
  pub kept_b : (b : ℕ) → link lb' b ≡ None → link lb b ≡ None

-- Links that are sought for pairs of records: clause `joined` of `join_as_turned` and of `adopt_proposal`.

-- the edges of a record of A, as its starts tell
pub record IsOf (board : Board) (a k : ℕ) : Type 0 where
  pub from : number board.starts.now a ≤ k
  pub to : k < number board.starts.now (a + 1)
  pub within : k < length board.edges.now

-- an edge of which one record has a link
abbrev pub IsTakenUp : List Edge → List (Option ℕ) → List (Option ℕ) → ℕ → Type 0
IsTakenUp es la lb k = link la (edge es k).a ≡ None → link lb (edge es k).b ≢ None

-- two records have no edge, or one of which a record has a link
abbrev pub AreJoined : Board → List (Option ℕ) → List (Option ℕ) → ℕ → ℕ → Type 0
AreJoined board la lb a b = ((k : ℕ) → IsOf board a k → (edge board.edges.now k).b ≢ b) ⊎ ((k : ℕ) × (IsOf board a k × ((edge board.edges.now k).b ≡ b) × IsTakenUp board.edges.now la lb k))

-- so are the records of the first `count` links of turned edges
abbrev pub AreJoinedAs : Board → List (Option ℕ) → List (Option ℕ) → List (Option ℕ) → ℕ → Type 0
AreJoinedAs board la lb links count = (i : ℕ) → i < count → (j : ℕ) → link links i ≡ Some j → j < length board.turned.now → AreJoined board la lb (edge board.turned.now j).b (edge board.turned.now j).a

-- and the first `count` records of A, each with the record of B beside it
abbrev pub AreJoinedWith : Board → List (Option ℕ) → List (Option ℕ) → List ℕ → ℕ → Type 0
AreJoinedWith board la lb mates count = (a : ℕ) → a < count → AreJoined board la lb a (number mates a)

-- links agree still, and none was taken away
pub record KeepsLinks (es : List Edge) (la lb la' lb' : List (Option ℕ)) : Type 0 where
  pub matched : IsMatched es la' lb'
  pub kept_a : (a : ℕ) → link la' a ≡ None → link la a ≡ None
  pub kept_b : (b : ℕ) → link lb' b ≡ None → link lb b ≡ None

-- proposed prices, and room for the proposed links, of so many records
pub record IsFor (rows_a rows_b : ℕ) (pa pb : List ℕ) (room_a room_b : List (Option ℕ)) : Type 0 where
  pub prices_a : length pa ≡ rows_a
  pub prices_b : length pb ≡ rows_b
  pub links_a : length room_a ≡ rows_a
  pub links_b : length room_b ≡ rows_b
