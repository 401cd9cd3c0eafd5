-- Groups of records that chains of links join, their leaders, and forests that show them: the clauses of `groups` and of
-- `check_groups`. Connected components and the forests that span them are those of graphs (Tarjan 1975).
use Rattle.std.specs.Prelude.{◌≡◌, ◌⊎◌, ℕ, zero, suc, ◌+◌, ◌<◌, ◌≤◌, List, All, Contains, length, slice_index, slice_index_or, Option, Some, None, ◌↔◌}
use Rattle.link_base.specs.declared.rule.PairAt.{PairAt}

-- a link names two positions, the lesser first
abbrev pub IsLinkWithin : ℕ → PairAt → Type 0
IsLinkWithin rows link = (link.a < link.b) × (link.b < rows)

-- two positions are a link, in one order or the other
abbrev pub ShareALink : List PairAt → ℕ → ℕ → Type 0
ShareALink links x y = Contains links (record { a = x; b = y }) ⊎ Contains links (record { a = y; b = x })

-- a chain of so many links leads from one position to the other
abbrev pub LinkChain : List PairAt → ℕ → ℕ → ℕ → Type 0
LinkChain links zero x y = x ≡ y
LinkChain links (suc n) x y = (z : ℕ) × (ShareALink links x z × LinkChain links n z y)

-- two positions are in one group where some chain does; a position is in a group with itself
abbrev pub AreChained : List PairAt → ℕ → ℕ → Type 0
AreChained links x y = (n : ℕ) × LinkChain links n x y

-- the leader of a position is the least position of its group
pub record IsLeader (links : List PairAt) (x leader : ℕ) : Type 0 where
  pub joined : AreChained links x leader
  pub least : (y : ℕ) → AreChained links x y → leader ≤ y

-- the leader of each of so many positions
pub record AreLeaders (rows : ℕ) (links : List PairAt) (leaders : List ℕ) : Type 0 where
  pub count : length leaders ≡ rows
  pub each : (x : ℕ) → x < rows → IsLeader links x (slice_index leaders x)

-- for each position its leader, the position that it was reached from, and how many links that is from the leader
pub record GroupLists : Type 0 where
  pub leaders : List ℕ
  pub vias : List (Option ℕ)
  pub depths : List ℕ

abbrev pub group_lists : List ℕ → List (Option ℕ) → List ℕ → GroupLists
group_lists leaders vias depths = record { leaders = leaders; vias = vias; depths = depths }

abbrev pub leader_of : GroupLists → ℕ → ℕ
leader_of lists x = slice_index lists.leaders x

abbrev pub via_of : GroupLists → ℕ → Option ℕ
via_of lists x = slice_index_or lists.vias x None

abbrev pub depth_of : GroupLists → ℕ → ℕ
depth_of lists x = slice_index lists.depths x

-- a position was reached from another one, which it is linked with
pub record IsReachedFrom (linked : ℕ → ℕ → Type 0) (lists : GroupLists) (x from : ℕ) : Type 0 where
  pub via : via_of lists x ≡ Some from
  pub along : linked x from
  pub leader : leader_of lists from ≡ leader_of lists x
  pub depth : depth_of lists x ≡ depth_of lists from + 1

-- a position is at depth 0 and its own leader, or it was reached from one that is less deep
pub record IsRooted (linked : ℕ → ℕ → Type 0) (lists : GroupLists) (x : ℕ) : Type 0 where
  pub low : leader_of lists x ≤ x
  pub top : depth_of lists x ≡ 0 → (leader_of lists x ≡ x) × (via_of lists x ≡ None)
  pub below : 0 < depth_of lists x → (from : ℕ) × IsReachedFrom linked lists x from

-- the three lists have an entry for each position
pub record HaveRows (rows : ℕ) (lists : GroupLists) : Type 0 where
  pub leaders : length lists.leaders ≡ rows
  pub vias : length lists.vias ≡ rows
  pub depths : length lists.depths ≡ rows

-- the two ends of a link have one leader
abbrev pub HasOneLeader : List ℕ → PairAt → Type 0
HasOneLeader leaders link = slice_index leaders link.a ≡ slice_index leaders link.b

-- a forest for links: each position is rooted, and no link leads from one leader's positions to another's
pub record IsForest (rows : ℕ) (links : List PairAt) (lists : GroupLists) : Type 0 where
  pub complete : HaveRows rows lists
  pub ends : All (HasOneLeader lists.leaders) links
  pub rooted : (x : ℕ) → x < rows → IsRooted (ShareALink links) lists x

-- The laws of leaders, each the contract of a function that does nothing: `forest_leaders` and `leaders_tell_groups`.

-- the leaders of a forest are those of the groups, whatever the forest: `forest_leaders`
abbrev pub ForestHasLeaders : Type 0
ForestHasLeaders =
    (rows : ℕ) (links : List PairAt) (lists : GroupLists) → All (IsLinkWithin rows) links → IsForest rows links lists → AreLeaders rows links lists.leaders

-- two positions have one leader exactly where a chain of links joins them: `leaders_tell_groups`
abbrev pub LeadersTellGroups : Type 0
LeadersTellGroups =
    (rows : ℕ) (links : List PairAt) (leaders : List ℕ) → AreLeaders rows links leaders → (x y : ℕ) → x < rows → y < rows → (slice_index leaders x ≡ slice_index leaders y) ↔ AreChained links x y
