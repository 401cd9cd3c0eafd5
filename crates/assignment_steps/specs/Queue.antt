-- A queue by distance: what `put`, `take` and `clear` of `DistanceQueue` say that they change and leave.
use Rattle.std.specs.Prelude.{◌≡◌, ◌+◌, ◌*◌, ◌/◌, ◌≤◌, ◌⊎◌, ℕ, List, [], Bool, Contains, All, Option, MatchOption, nat_lt, if◌then◌else◌}
use Rattle.assignment_steps.specs.declared.queue.Near.{Near}
use Rattle.assignment_steps.specs.declared.queue.TheConstants.{TURNS}

-- records that wait, each as its distance and its position and as its rank and its position, the turn of the next that is
-- put, how many wait, and how many may
pub record Queue : Type 0 where
  pub waiting : List (ℕ × ℕ)
  pub ranked : List (ℕ × ℕ)
  pub turn : ℕ
  pub count : ℕ
  pub room : ℕ

-- records leave by their ranks: by their distances, of equal distances those that go first before others, and of these by
-- their turns
abbrev pub rank_of : ℕ → Bool → ℕ → ℕ
rank_of distance first turn = (2 * distance + (if first then 0 else 1)) * TURNS + turn

-- each put has a turn of its own, but that the last is not left
abbrev pub turn_after : ℕ → ℕ
turn_after turn = if nat_lt (turn + 1) TURNS then turn + 1 else turn

-- a record joins those that wait
pub record Enters (old new : List (ℕ × ℕ)) (rank position : ℕ) : Type 0 where
  pub added : Contains new (rank, position)
  pub stays : (x : ℕ × ℕ) → Contains old x → Contains new x
  pub only : (x : ℕ × ℕ) → Contains new x → Contains old x ⊎ (x ≡ (rank, position))

-- a record at a distance leaves, and no rank of those that stay is less
pub record Leaves (old new : List (ℕ × ℕ)) (distance position : ℕ) : Type 0 where
  pub rank : ℕ
  pub at : rank / (2 * TURNS) ≡ distance
  pub inside : Contains old (rank, position)
  pub least : All (λ (x : ℕ × ℕ). rank ≤ x.0) new
  pub stays : (x : ℕ × ℕ) → Contains old x → Contains new x ⊎ (x ≡ (rank, position))
  pub only : (x : ℕ × ℕ) → Contains new x → Contains old x

-- nothing waits, and there is room for so many
pub record IsEmptyQueue (entries : ℕ) (q : Queue) : Type 0 where
  pub waiting : q.waiting ≡ []
  pub ranked : q.ranked ≡ []
  pub turn : q.turn ≡ 0
  pub count : q.count ≡ 0
  pub room : entries ≤ q.room

-- a record is put at a distance
pub record Puts (old new : Queue) (distance : ℕ) (first : Bool) (position : ℕ) : Type 0 where
  pub count : new.count ≡ old.count + 1
  pub room : old.room ≤ new.room
  pub stays : (x : ℕ × ℕ) → Contains old.waiting x → Contains new.waiting x
  pub added : Contains new.waiting (distance, position)
  pub only : (x : ℕ × ℕ) → Contains new.waiting x → Contains old.waiting x ⊎ (x ≡ (distance, position))
  pub ranked : Enters old.ranked new.ranked (rank_of distance first old.turn) position
  pub turn : new.turn ≡ turn_after old.turn

-- a record of the least rank is taken, and so of the least distance, and none where the queue is empty
pub record Takes (old new : Queue) (taken : Option Near) : Type 0 where
  pub room : new.room ≡ old.room
  pub count : MatchOption taken (old.count ≡ 0) (λ n. new.count + 1 ≡ old.count)
  pub inside : MatchOption taken ((x : ℕ × ℕ) → Contains old.waiting x → ⊥) (λ n. Contains old.waiting (n.distance, n.position))
  pub least : MatchOption taken (old.count ≡ 0) (λ n. All (λ x. n.distance ≤ x.0) new.waiting)
  pub stays : MatchOption taken (old.count ≡ 0) (λ n. (x : ℕ × ℕ) → Contains old.waiting x → Contains new.waiting x ⊎ (x ≡ (n.distance, n.position)))
  pub only : (x : ℕ × ℕ) → Contains new.waiting x → Contains old.waiting x
  pub ranked : MatchOption taken (old.count ≡ 0) (λ n. Leaves old.ranked new.ranked n.distance n.position)
  pub turn : new.turn ≡ old.turn
