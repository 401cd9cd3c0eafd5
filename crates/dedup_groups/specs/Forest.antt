-- What `Groups` keeps of its lists, and tells by the clauses `low` of `leader` and `within` of `via`.
use Rattle.std.specs.Prelude.{ℕ, ◌<◌, ◌≤◌, ◌^◌, length, IfSome, ◌≡◌, ◌+◌, List, [], Contains, count_by, nat_lt, slice_index, slice_index_or, slice_set, None, Some}
use Rattle.dedup_groups.specs.Groups.{GroupLists, HaveRows, leader_of, via_of, group_lists, IsRooted, ShareALink, depth_of}
use Rattle.dedup_groups.specs.declared.search.Trees.{Trees}
use Rattle.link_base.specs.declared.rule.PairAt.{PairAt}

-- so many rows as a file may have, with leaders and the positions reached from among them
pub record KeepsRows (lists : GroupLists) : Type 0 where
  pub rows : HaveRows (length lists.leaders) lists
  pub few : length lists.leaders < 2 ^ 32
  pub low : (x : ℕ) → x < length lists.leaders → leader_of lists x ≤ x
  pub within : (x : ℕ) → x < length lists.leaders → IfSome (via_of lists x) (λ from. from < length lists.leaders)

-- Machinery of the search: its lists, as its functions see them.

abbrev pub lists_of : Trees → GroupLists
lists_of trees = group_lists trees.leaders.items trees.vias.items trees.depths.items

-- Machinery of `groups`: what holds at each moment of a search in breadth (Moore 1959) from each leader in turn.

-- a record is among the neighbours of another
abbrev pub IsNear : List (List ℕ) → ℕ → ℕ → Type 0
IsNear near x y = Contains (slice_index_or near x []) y

-- neighbours of so many records, those that links join with each
pub record AreLinked (rows : ℕ) (links : List PairAt) (near : List (List ℕ)) : Type 0 where
  pub many : length near ≡ rows
  pub linked : (x y : ℕ) → IsNear near x y → ShareALink links x y
  pub all : (x y : ℕ) → x < rows → ShareALink links x y → IsNear near x y

-- neighbours are records, and neighbours of each other
pub record AreNeighbours (near : List (List ℕ)) : Type 0 where
  pub within : (x y : ℕ) → IsNear near x y → y < length near
  pub turned : (x y : ℕ) → IsNear near x y → IsNear near y x

-- the neighbours of a record that has a leader before this one have that leader
abbrev pub AreGrouped : List (List ℕ) → GroupLists → ℕ → Type 0
AreGrouped near lists leader =
    (x y : ℕ) → x < length near → leader_of lists x < leader → IsNear near x y → leader_of lists y ≡ leader_of lists x

-- a record with this leader or a later one stands alone
abbrev pub StandAlone : List (List ℕ) → GroupLists → ℕ → Type 0
StandAlone near lists leader =
    (x : ℕ) → x < length near → leader ≤ leader_of lists x → (leader_of lists x ≡ x) × (depth_of lists x ≡ 0)

-- each of so many records stands alone, before the first search
pub record AreAlone (rows : ℕ) (lists : GroupLists) : Type 0 where
  pub complete : HaveRows rows lists
  pub leaders : (x : ℕ) → x < rows → leader_of lists x ≡ x
  pub vias : (x : ℕ) → x < rows → via_of lists x ≡ None
  pub depths : (x : ℕ) → x < rows → depth_of lists x ≡ 0

-- the searches from the leaders before this one are done
pub record AreFound (near : List (List ℕ)) (lists : GroupLists) (leader : ℕ) : Type 0 where
  pub rows : HaveRows (length near) lists
  pub rooted : (x : ℕ) → x < length near → IsRooted (IsNear near) lists x
  pub settled : AreGrouped near lists leader
  pub alone : StandAlone near lists leader

-- a record in the queue was reached from the leader, and no deeper than its place
abbrev pub IsGathered : List (List ℕ) → GroupLists → ℕ → ℕ → ℕ → Type 0
IsGathered near lists leader x place = (x < length near) × (leader_of lists x ≡ leader) × (depth_of lists x ≤ place)

-- a search from a leader: the queue has what it reached, and the neighbours of the first so many in it have the leader
pub record IsSearch (near : List (List ℕ)) (lists : GroupLists) (queue : List ℕ) (done leader : ℕ) : Type 0 where
  pub rows : HaveRows (length near) lists
  pub rooted : (x : ℕ) → x < length near → IsRooted (IsNear near) lists x
  pub settled : AreGrouped near lists leader
  pub alone : StandAlone near lists (leader + 1)
  pub reached : (k : ℕ) → k < length queue → IsGathered near lists leader (slice_index queue k) k
  pub queued : (x : ℕ) → x < length near → leader_of lists x ≡ leader → Contains queue x
  pub finished : (k y : ℕ) → k < done → IsNear near (slice_index queue k) y → leader_of lists y ≡ leader

-- how many records have a later leader, and how many wait or have waited in the queue: a search keeps the sum
abbrev pub waiting_room : GroupLists → List ℕ → ℕ → ℕ
waiting_room lists queue leader = count_by (nat_lt leader) lists.leaders + length queue

-- the lists once a record is reached from another one
abbrev pub reached_lists : GroupLists → ℕ → ℕ → ℕ → GroupLists
reached_lists lists at from leader =
    group_lists (slice_set lists.leaders at leader) (slice_set lists.vias at (Some from)) (slice_set lists.depths at (depth_of lists from + 1))
