-- What a search has reached: what the calls of `Reached` need, change and leave.
use Rattle.std.specs.Prelude.{◌≡◌, ◌⊎◌, ◌==◌, ℕ, ◌+◌, ◌^◌, ◌<◌, ◌≤◌, List, [], ◌∷◌, ◌++◌, if◌then◌else◌, Contains, All, vec_len, vec_capacity}
use Rattle.assignment_steps.specs.declared.market.Edge.{Edge}
use Rattle.assignment_steps.specs.declared.reaching.Reached.{Reached}
use Rattle.assignment_steps.specs.Market.{distance, far, unreached}
use Rattle.assignment_steps.specs.Ways.{left}

-- room for each record that may still come
pub record HasRoomForRecords (rows_a rows_b : ℕ) (r : Reached) : Type 0 where
  pub few_a : rows_a < 2 ^ 32
  pub few_b : rows_b < 2 ^ 32
  pub of_a : vec_len r.dist_a ≡ rows_a
  pub of_rank : vec_len r.rank ≡ rows_a
  pub of_b : vec_len r.dist_b ≡ rows_b
  pub of_from : vec_len r.from ≡ rows_b
  pub touched : vec_len r.touched + unreached r.dist_b.items ≤ rows_b
  pub touched_room : rows_b ≤ vec_capacity r.touched
  pub top : (b : ℕ) → distance r.dist_b.items b ≤ far
  pub records : vec_len r.records + unreached r.dist_a.items ≤ rows_a
  pub records_room : rows_a ≤ vec_capacity r.records
  pub top_a : (a : ℕ) → distance r.dist_a.items a ≤ far
  pub records_in : All (λ x. x < rows_a) r.records.items
  pub touched_in : All (λ x. x < rows_b) r.touched.items

-- nothing is reached, and there is room
pub record IsClean (rows_a rows_b : ℕ) (r : Reached) : Type 0 where
  pub room : HasRoomForRecords rows_a rows_b r
  pub da : (a : ℕ) → distance r.dist_a.items a ≡ far
  pub db : (b : ℕ) → distance r.dist_b.items b ≡ far
  pub frontier : r.frontier.waiting ≡ []
  pub empty : r.frontier.count ≡ 0
  pub records : r.records.items ≡ []
  pub touched : r.touched.items ≡ []

-- nothing is reached, and there is room for so many entries
pub record IsAtRest (rows_a rows_b entries : ℕ) (r : Reached) : Type 0 where
  pub clean : IsClean rows_a rows_b r
  pub queue : entries ≤ r.frontier.room

-- the noted records of B once one is reached: it is noted where it was not reached before
abbrev pub noted : List ℕ → List ℕ → ℕ → List ℕ
noted dist touched b = if distance dist b == far then touched ++ b ∷ [] else touched

-- an entry joins those that wait
pub record Waits (old new : List (ℕ × ℕ)) (e : ℕ × ℕ) : Type 0 where
  pub stays : (x : ℕ × ℕ) → Contains old x → Contains new x
  pub added : Contains new e
  pub only : (x : ℕ × ℕ) → Contains new x → Contains old x ⊎ (x ≡ e)

-- the work that is left: entries that wait, and edges that are not relaxed
abbrev pub work : List Edge → ℕ → ℕ → Reached → ℕ
work es position next r = r.frontier.count + left es r.dist_a.items position next

-- room for an entry of each edge that is not relaxed
abbrev pub FitsQueue : List Edge → ℕ → ℕ → Reached → Type 0
FitsQueue es position next r = work es position next r ≤ r.frontier.room
