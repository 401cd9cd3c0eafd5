-- Distinct ids: what is kept (`IdSet::keep`, clause `keeps`), what is found (`IdSet::find`), and what no set breaks
-- (`IdSet::distinct`).
use Rattle.std.specs.Prelude.{◌≡◌, ◌≢◌, ◌++◌, ◌∷◌, ℕ, List, [], All, AllPairs, bytes_eq, if◌then◌else◌, is_some, Option, position, ◌<◌, ◌^◌, ◌==◌, Bool, false, IsTrue, Some, None, length, nat_lt}
use Rattle.link_limits.specs.declared.TheConstants.{MOST_POOL_LIMIT}
use Rattle.value_pool.specs.Pool.{PoolState}

-- the place of an id among others
abbrev pub position_among : List ℕ → List (List ℕ) → Option ℕ
position_among id ids = position (bytes_eq id) ids

-- no one of them is this id
abbrev pub IsNewId : List ℕ → List (List ℕ) → Type 0
IsNewId id ids = All (λ held. held ≢ id) ids

-- no id stands twice
abbrev pub AreDistinct : List (List ℕ) → Type 0
AreDistinct ids = AllPairs (λ (x y : List ℕ). x ≢ y) ids

-- an id that is new is kept, and the place of one that is held is found
abbrev pub Keeps : List ℕ → List (List ℕ) → List (List ℕ) → Option ℕ → Type 0
Keeps id old new found = (found ≡ position_among id old) × (new ≡ (if is_some found then old else old ++ id ∷ []))

-- Ids that rise, of which each comes after the one before it: how an `IdSet` keeps ids as long as they do (the machinery of
-- `IdSet`, whose contracts speak of the list of ids alone).

-- of two texts of one length, whether the first has the lesser byte where they first differ
abbrev pub is_lesser : List ℕ → List ℕ → Bool
is_lesser [] ys = false
is_lesser (x ∷ xs) [] = false
is_lesser (x ∷ xs) (y ∷ ys) = if x == y then is_lesser xs ys else nat_lt x y

-- whether a text comes before another: a shorter one before a longer one, and of one length by their bytes
abbrev pub comes_before : List ℕ → List ℕ → Bool
comes_before x y = if length x == length y then is_lesser x y else nat_lt (length x) (length y)

-- each comes before all later ones
abbrev pub AreRising : List (List ℕ) → Type 0
AreRising ids = AllPairs (λ (x y : List ℕ). IsTrue (comes_before x y)) ids

-- the ids of a set: those that rise, or all that are pooled
abbrev pub ids_in : List (List ℕ) → Option PoolState → List (List ℕ)
ids_in rising None = rising
ids_in rising (Some pool) = pool.texts

-- what a set keeps of them
abbrev pub KeepsIds : List (List ℕ) → Option PoolState → Type 0
KeepsIds rising None = AreRising rising × (length rising < 2 ^ 32)
KeepsIds rising (Some pool) = pool.limit ≡ MOST_POOL_LIMIT
