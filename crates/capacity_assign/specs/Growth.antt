-- Machinery of `search` in `grow`: an alternating tree as it grows, and what it may end at: a record of B with a place
-- left, or a record of A that gives its link up.
use Rattle.std.specs.Prelude.{◌≡◌, ◌≢◌, ◌⊎◌, ℕ, ◌+◌, ◌<◌, ◌≤◌, List, length, Bool, Option, Some, None, MatchBool, Contains, vec_len}
use Rattle.assignment_steps.specs.declared.market.Grown.{Grown}
use Rattle.capacity_assign.specs.declared.market.Tree.{Tree}
use Rattle.capacity_assign.specs.declared.market.Ground.{Ground}
use Rattle.assignment_steps.specs.Words.{link, number, IsRising, distance, far, FitsQueue, HasRoomForRecords, work, Spread, EndsAt, HasStopped, IsSearchable, IsSpread, edge_of, spread, waits_for}
use Rattle.capacity_assign.specs.Seating.{AreAlike, HasCopies, AreSeats, HasPlace, seating}
use Rattle.assignment_steps.specs.Spread.{Joins as JoinsSpread}

-- what a tree has reached, and the record of B that is held
pub record Growth : Type 0 where
  pub spread : Spread
  pub held : Option ℕ

abbrev pub growth : Tree → Growth
growth t = record { spread = spread t.reached; held = t.held }

-- what a tree may be grown over: a field that may be searched, its edges by their records of A, and seats of its links
pub record IsReady (f : Ground) : Type 0 where
  pub field : IsSearchable f.field
  pub rising : IsRising f.field.edges.now
  pub rows_b : vec_len f.seats.now.left ≡ length f.field.price_b.now
  pub lasts : vec_len f.seats.now.last ≡ length f.field.price_b.now
  pub seats : vec_len f.seats.now.sitter ≡ length f.field.price_a.now
  pub earliers : vec_len f.seats.now.earlier ≡ length f.field.price_a.now
  pub seated : AreSeats f.field.edges.now f.field.link_a.now (seating f.seats.now)
  pub alike : AreAlike f.field.edges.now (length f.field.price_a.now) f.like.now

-- how many places a record of B has left
abbrev pub places_left : Ground → ℕ → ℕ
places_left f b = number f.seats.now.left.items b

-- a record of B has no place left, and each record of A that is linked to it stands in the tree
pub record IsExhausted (f : Ground) (da : List ℕ) (b : ℕ) : Type 0 where
  pub full : places_left f b ≡ 0
  pub joined : (k : ℕ) → link f.field.link_a.now (edge_of f.field k).a ≡ Some k → (edge_of f.field k).b ≡ b → distance da (edge_of f.field k).a < far

-- a record of B waits at its distance, or is exhausted, or is held
abbrev pub IsPending : Ground → Spread → Option ℕ → ℕ → Type 0
IsPending f s held b = Contains s.frontier (distance s.db b, b) ⊎ (IsExhausted f s.da b ⊎ (held ≡ Some b))

-- a record of B that is held has no place left, and is at the distance of the newest record
abbrev pub IsHeldAt : Ground → Spread → ℕ → Type 0
IsHeldAt f s b = (places_left f b ≡ 0) × (distance s.db b ≡ s.current)

-- a tree in which the edges of `position` from place `next` on are not relaxed yet
pub record IsTree (f : Ground) (position next : ℕ) (g : Growth) : Type 0 where
  pub spread : IsSpread f.field position next g.spread
  pub ends : EndsAt f.field g.spread g.spread.best g.spread.best_record
  pub pending : (b : ℕ) → distance g.spread.db b < far → IsPending f g.spread g.held b
  pub held_at : (b : ℕ) → g.held ≡ Some b → IsHeldAt f g.spread b

-- a tree as it grows, with room for what may come
pub record Grows (f : Ground) (position next : ℕ) (t : Tree) : Type 0 where
  pub ready : IsReady f
  pub tree : IsTree f position next (growth t)
  pub room : HasRoomForRecords (length f.field.price_a.now) (length f.field.price_b.now) t.reached
  pub queue : FitsQueue f.field.edges.now position next t.reached

-- a tree grows on with the record of B that is held: no more work is left than before, and no less room
pub record GrowsOn (f : Ground) (position next position' next' : ℕ) (old new : Tree) : Type 0 where
  pub tree : IsTree f position' next' (growth new)
  pub room : HasRoomForRecords (length f.field.price_a.now) (length f.field.price_b.now) new.reached
  pub work : work f.field.edges.now position' next' new.reached ≤ work f.field.edges.now position next old.reached
  pub queue : old.reached.frontier.room ≤ new.reached.frontier.room
  pub held : new.held ≡ old.held

-- the edges of the newest record from `next` to `next'` are relaxed
pub record Relaxes (f : Ground) (position next next' : ℕ) (old new : Tree) : Type 0 where
  pub grows : GrowsOn f position next position next' old new
  pub current : new.reached.current ≡ old.reached.current
  pub dist_a : new.reached.dist_a.items ≡ old.reached.dist_a.items

-- the record of A at seat n has joined
pub record JoinsSeat (f : Ground) (n : ℕ) (old new : Tree) : Type 0 where
  pub grows : GrowsOn f 0 (length f.field.edges.now) 0 (length f.field.edges.now) old new
  pub current : new.reached.current ≡ old.reached.current
  pub stays : (a : ℕ) → distance old.reached.dist_a.items a < far → distance new.reached.dist_a.items a < far
  pub joined : distance new.reached.dist_a.items (number f.seats.now.sitter.items n) < far

-- another record of A with the edges and the price of one that joined last is at its distance
pub record IsTwin (f : Ground) (s : Spread) (position twin : ℕ) : Type 0 where
  pub apart : twin ≢ position
  pub near : distance s.da twin ≡ distance s.da position
  pub price : number f.field.price_a.now twin ≡ number f.field.price_a.now position
  pub copies : HasCopies f.field.edges.now position twin

-- the growth with other entries waiting
abbrev pub with_waiting : List (ℕ × ℕ) → Growth → Growth
with_waiting waiting g = record g { spread = waits_for waiting g.spread }

-- a record of A joins the tree
pub record Joins (f : Ground) (old new : Growth) (position dist : ℕ) : Type 0 where
  pub nearer : Bool
  pub spread : JoinsSpread old.spread new.spread position dist (dist + number f.field.price_a.now position) nearer
  pub held : new.held ≡ old.held

-- and nothing enters the queue or leaves it
pub record JoinsTree (f : Ground) (old new : Tree) (position dist : ℕ) : Type 0 where
  pub joins : Joins f (growth old) (growth new) position dist
  pub room : HasRoomForRecords (length f.field.price_a.now) (length f.field.price_b.now) new.reached
  pub queue : new.reached.frontier ≡ old.reached.frontier

-- a tree that is grown to an end: at a record of B with a place left, or at a record of A that stands in it
pub record IsGrown (f : Ground) (g : Growth) (end : ℕ) (free : Option ℕ) (last : ℕ) : Type 0 where
  pub tree : IsTree f 0 (length f.field.edges.now) g
  pub stopped : HasStopped f.field g.spread (HasPlace f.seats.now.left.items) end free last
  pub held : (b : ℕ) → g.held ≡ Some b → end ≤ distance g.spread.db b

-- a tree that is grown to an end, over the entries that waited when it ended
abbrev pub HasGrown : Ground → Growth → ℕ → Option ℕ → ℕ → Type 0
HasGrown f g end free last = (waiting : List (ℕ × ℕ)) × IsGrown f (with_waiting waiting g) end free last

-- all records of A at the nearest record of B have joined, or an end that is as near came first
pub record Settles (f : Ground) (all : Bool) (old new : Tree) : Type 0 where
  pub tree : MatchBool all (IsTree f 0 (length f.field.edges.now) (growth new)) (IsGrown f (growth new) new.reached.best None new.reached.best_record)
  pub held : MatchBool all (new.held ≡ None) (Unit {0})
  pub room : HasRoomForRecords (length f.field.price_a.now) (length f.field.price_b.now) new.reached
  pub work : work f.field.edges.now 0 (length f.field.edges.now) new.reached ≤ work f.field.edges.now 0 (length f.field.edges.now) old.reached
  pub queue : old.reached.frontier.room ≤ new.reached.frontier.room

-- a search has ended
pub record HasSearched (f : Ground) (old new : Tree) (found : Grown) : Type 0 where
  pub ready : IsReady f
  pub grown : HasGrown f (growth new) found.end found.free found.last
  pub room : HasRoomForRecords (length f.field.price_a.now) (length f.field.price_b.now) new.reached
  pub queue : old.reached.frontier.room ≤ new.reached.frontier.room
