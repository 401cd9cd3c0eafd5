-- Machinery of `round` and `link_tight`: what holds of prices and links between two rounds, and what a step leaves.
use Rattle.std.specs.Prelude.{◌≡◌, ℕ, ◌+◌, ◌<◌, ◌≤◌, List, length, Option, None}
use Rattle.assignment_steps.specs.declared.market.Edge.{Edge}
use Rattle.assignment_steps.specs.Words.{edge, link, number, IsPriced, AreSettled, IsSettled}
use Rattle.capacity_assign.specs.Seating.{KeepsCapacities, linked_at, AreSeats, HasPlace, IsFull, Seating}

-- prices, links and seats between two rounds: the records of A below `done` were taken up
pub record IsBetweenRounds (es : List Edge) (pa pb : List ℕ) (la : List (Option ℕ)) (s : Seating) (done : ℕ) : Type 0 where
  pub priced : IsPriced es pa pb la (HasPlace s.left) done
  pub rows_b : length s.left ≡ length pb
  pub seated : AreSeats es la s
  pub closed : (b k : ℕ) → number s.left b + linked_at es la b ≡ 0 → k < length es → (edge es k).b ≡ b → (edge es k).value ≤ number pb b

-- and the capacities are as they were
pub record Advances (es : List Edge) (la : List (Option ℕ)) (left : List ℕ) (pa' pb' : List ℕ) (la' : List (Option ℕ)) (s' : Seating) (done : ℕ) : Type 0 where
  pub between : IsBetweenRounds es pa' pb' la' s' done
  pub places : KeepsCapacities es la left la' s'.left

-- edge k was tried: it is settled, and what was linked or full stays so
pub record TriesEdge (es : List Edge) (pa pb : List ℕ) (k : ℕ) (la : List (Option ℕ)) (left : List ℕ) (la' : List (Option ℕ)) (s' : Seating) : Type 0 where
  pub between : IsBetweenRounds es pa pb la' s' 0
  pub places : KeepsCapacities es la left la' s'.left
  pub settled : IsSettled es pa pb la' (IsFull s'.left) k
  pub kept : (a : ℕ) → link la' a ≡ None → link la a ≡ None
  pub fewer : (b : ℕ) → IsFull left b → IsFull s'.left b

-- the first `count` edges were tried
pub record AreTried (es : List Edge) (pa pb : List ℕ) (count : ℕ) (la : List (Option ℕ)) (left : List ℕ) (la' : List (Option ℕ)) (s' : Seating) : Type 0 where
  pub between : IsBetweenRounds es pa pb la' s' 0
  pub places : KeepsCapacities es la left la' s'.left
  pub settled : AreSettled es pa pb la' (IsFull s'.left) count
