-- An alternating tree as it grows from a record of A without a link, over candidates with positive values as edges
-- (Edmonds and Karp 1972): what holds of all that the search has reached, whatever it may end at.
-- `Reached::join`, `Reached::reach` and `Reached::shift` carry it.
use Rattle.std.proofs.Common.{min, ◌≡◌, ◌⊎◌, ℕ, ◌+◌, ◌-◌, ◌<◌, ◌≤◌, Bool, true, false, List, [], ◌∷◌, ◌++◌, length, slice_set, Option, Some, None, MatchOption, IsNone, Contains, vec_len, vec_capacity}
use Rattle.link_limits.specs.declared.TheConstants.{MOST_VALUE}
use Rattle.assignment_steps.specs.declared.market.Edge.{Edge}
use Rattle.assignment_steps.specs.declared.market.Field.{Field}
use Rattle.assignment_steps.specs.declared.queue.Near.{Near}
use Rattle.assignment_steps.specs.declared.reaching.Reached.{Reached}
use Rattle.assignment_steps.specs.Market.{link, edge, number, AreLinked, AreStarts, IsInRange, distance, far}
use Rattle.assignment_steps.specs.Queue.{Enters, rank_of, turn_after}
use Rattle.assignment_steps.specs.Reached.{HasRoomForRecords, Waits, noted}

-- the lists of what a search has reached
pub record Spread : Type 0 where
  pub da : List ℕ
  pub rank : List ℕ
  pub db : List ℕ
  pub from : List ℕ
  pub records : List ℕ
  pub touched : List ℕ
  pub frontier : List (ℕ × ℕ)
  pub current : ℕ
  pub best : ℕ
  pub best_record : ℕ

abbrev pub spread : Reached → Spread
spread r = record {
  da = r.dist_a.items;
  rank = r.rank.items;
  db = r.dist_b.items;
  from = r.from.items;
  records = r.records.items;
  touched = r.touched.items;
  frontier = r.frontier.waiting;
  current = r.current;
  best = r.best;
  best_record = r.best_record;
}

-- with other entries waiting
abbrev pub waits_for : List (ℕ × ℕ) → Spread → Spread
waits_for waiting s = record s { frontier = waiting }

-- the edge at a place, and what its two prices add up to
abbrev pub edge_of : Field → ℕ → Edge
edge_of f k = edge f.edges.now k

abbrev pub paid : Field → ℕ → ℕ
paid f k = number f.price_a.now (edge_of f k).a + number f.price_b.now (edge_of f k).b

-- what a search may go over: prices that cover each edge, none of them large, links by edges, and a root without a link
pub record IsSearchable (f : Field) : Type 0 where
  pub rows_a : length f.link_a.now ≡ length f.price_a.now
  pub starts : AreStarts f.edges.now (length f.price_a.now) f.starts.now
  pub root_in : f.root < length f.price_a.now
  pub root_free : link f.link_a.now f.root ≡ None
  pub in_range : IsInRange f.edges.now (length f.price_a.now) (length f.price_b.now)
  pub covered : (k : ℕ) → k < length f.edges.now → (edge_of f k).value ≤ paid f k
  pub small_a : (a : ℕ) → number f.price_a.now a ≤ MOST_VALUE
  pub small_b : (b : ℕ) → number f.price_b.now b ≤ MOST_VALUE
  pub linked : AreLinked f.edges.now f.link_a.now

-- the record of B of edge k is known to be as near as over this edge, or that is of no use
abbrev pub IsRelaxed : Field → Spread → ℕ → Type 0
IsRelaxed f s k = min (distance s.db (edge_of f k).b) s.best + (edge_of f k).value ≤ distance s.da (edge_of f k).a + paid f k

-- over edge k the record of B is at this distance, nearer than it was reached and than the nearest end
pub record IsNearer (f : Field) (s : Spread) (k dist : ℕ) : Type 0 where
  pub exact : dist + (edge_of f k).value ≡ distance s.da (edge_of f k).a + paid f k
  pub near : dist < distance s.db (edge_of f k).b
  pub useful : dist < s.best

-- how a record of B was reached
pub record IsReached (f : Field) (s : Spread) (b : ℕ) : Type 0 where
  pub within : b < length s.from
  pub place : number s.from b < length f.edges.now
  pub ends : (edge_of f (number s.from b)).b ≡ b
  pub joined : distance s.da (edge_of f (number s.from b)).a < far
  pub exact : distance s.db b + (edge_of f (number s.from b)).value ≡ distance s.da (edge_of f (number s.from b)).a + paid f (number s.from b)

-- when the record joined from which a record of B was reached
abbrev pub rank_above : Field → Spread → ℕ → ℕ
rank_above f s b = number s.rank (edge_of f (number s.from b)).a

-- all that a search has reached, where the edges of `position` from place `next` on are not relaxed yet
pub record IsSpread (f : Field) (position next : ℕ) (s : Spread) : Type 0 where
  pub root_here : distance s.da f.root ≡ 0
  pub now : s.current ≤ s.best
  pub best_small : s.best ≤ MOST_VALUE
  pub low : (a : ℕ) → distance s.da a < far → distance s.da a ≤ s.current
  pub best_of : (a : ℕ) → distance s.da a < far → s.best ≤ distance s.da a + number f.price_a.now a
  pub relaxed : (k : ℕ) → k < length f.edges.now → distance s.da (edge_of f k).a < far → ((edge_of f k).a ≡ position → k < next) → IsRelaxed f s k
  pub same : (k : ℕ) → link f.link_a.now (edge_of f k).a ≡ Some k → distance s.da (edge_of f k).a < far → distance s.da (edge_of f k).a ≡ distance s.db (edge_of f k).b
  pub late : (e : ℕ × ℕ) → Contains s.frontier e → (s.current ≤ e.0) × (distance s.db e.1 ≤ e.0) × (e.1 < length s.db)
  pub reached : (b : ℕ) → distance s.db b < far → IsReached f s b
  pub climbs : (k : ℕ) → link f.link_a.now (edge_of f k).a ≡ Some k → distance s.da (edge_of f k).a < far → rank_above f s (edge_of f k).b < number s.rank (edge_of f k).a
  pub in_tree : (a : ℕ) → distance s.da a < far → (a ≡ f.root) ⊎ ((k : ℕ) × (link f.link_a.now a ≡ Some k))
  pub ranks : (a : ℕ) → distance s.da a < far → number s.rank a < length s.records
  pub noted_a : (a : ℕ) → distance s.da a < far → Contains s.records a
  pub noted_b : (b : ℕ) → distance s.db b < far → Contains s.touched b

-- a record of B is put at a shorter distance, by edge k
pub record Shortens (old new : Spread) (b k dist : ℕ) : Type 0 where
  pub da : new.da ≡ old.da
  pub rank : new.rank ≡ old.rank
  pub db : new.db ≡ slice_set old.db b dist
  pub from : new.from ≡ slice_set old.from b k
  pub records : new.records ≡ old.records
  pub touched : new.touched ≡ noted old.db old.touched b
  pub waits : Waits old.frontier new.frontier (dist, b)
  pub current : new.current ≡ old.current

-- a record of B is put at a shorter distance and into the queue, where nothing else of what is reached changes
pub record Reaches (old new : Reached) (b k dist : ℕ) (first : Bool) : Type 0 where
  pub shortens : Shortens (spread old) (spread new) b k dist
  pub ranked : Enters old.frontier.ranked new.frontier.ranked (rank_of dist first old.frontier.turn) b
  pub turn : new.frontier.turn ≡ turn_after old.frontier.turn
  pub count : new.frontier.count ≡ old.frontier.count + 1
  pub queue : old.frontier.room ≤ new.frontier.room
  pub rest : new ≡ record old { dist_b = new.dist_b; from = new.from; touched = new.touched; frontier = new.frontier }
  pub room : HasRoomForRecords (vec_len old.dist_a) (vec_len old.dist_b) new

-- a record of B is noted, where it is reached for the first time
pub record Notes (old new : Reached) (b : ℕ) : Type 0 where
  pub touched : new.touched.items ≡ noted old.dist_b.items old.touched.items b
  pub rest : new ≡ record old { touched = new.touched }
  pub room : vec_capacity old.touched ≤ vec_capacity new.touched

-- the nearest end is at this record of A where it is nearer than each before, and else where it was
abbrev pub EndsAgain : Spread → Spread → ℕ → ℕ → Bool → Type 0
EndsAgain old new position end nearer =
    ((nearer ≡ true) × (new.best ≡ end) × (new.best_record ≡ position)) ⊎ ((nearer ≡ false) × (new.best ≡ old.best) × (new.best_record ≡ old.best_record))

-- a record of A joins, and is the newest, and the nearest end where it is nearer than each before
pub record Joins (old new : Spread) (position dist end : ℕ) (nearer : Bool) : Type 0 where
  pub da : new.da ≡ slice_set old.da position dist
  pub rank : new.rank ≡ slice_set old.rank position (length old.records)
  pub db : new.db ≡ old.db
  pub from : new.from ≡ old.from
  pub records : new.records ≡ old.records ++ position ∷ []
  pub touched : new.touched ≡ old.touched
  pub frontier : new.frontier ≡ old.frontier
  pub current : new.current ≡ dist
  pub best : new.best ≡ min old.best end
  pub ends : EndsAgain old new position end nearer

-- a record of A joins, where nothing else of what is reached changes
pub record JoinsReached (old new : Reached) (position dist price : ℕ) (nearer : Bool) : Type 0 where
  pub joins : Joins (spread old) (spread new) position dist (dist + price) nearer
  pub rest : new ≡ record old { dist_a = new.dist_a; rank = new.rank; records = new.records; current = new.current; best = new.best; best_record = new.best_record }
  pub room : HasRoomForRecords (vec_len old.dist_a) (vec_len old.dist_b) new

-- prices change by what the distances lack to an end
pub record Shifts (pa pb pa' pb' : List ℕ) (end : ℕ) (old new : Reached) : Type 0 where
  pub price_a : (a : ℕ) → number pa' a + (end - distance old.dist_a.items a) ≡ number pa a
  pub price_b : (b : ℕ) → number pb' b ≡ number pb b + (end - distance old.dist_b.items b)
  pub queue : new.frontier.room ≡ old.frontier.room
  pub from : new.from.items ≡ old.from.items
  pub rank : new.rank.items ≡ old.rank.items
  pub current : new.current ≡ old.current

-- an entry that waits, before which none comes
pub record IsNearest (waiting : List (ℕ × ℕ)) (n : Near) : Type 0 where
  pub inside : Contains waiting (n.distance, n.position)
  pub least : (x : ℕ × ℕ) → Contains waiting x → n.distance ≤ x.0

-- a record of A that was reached is an end, at which it gives its link up
abbrev pub EndsAt : Field → Spread → ℕ → ℕ → Type 0
EndsAt f s end a = (distance s.da a < far) × (end ≡ distance s.da a + number f.price_a.now a)

-- where a search stops: at a record of B that is free, or else at a record of A that was reached
abbrev pub StopsAt : Spread → (ℕ → Type 0) → ℕ → Option ℕ → ℕ → Type 0
StopsAt s IsFree end free last = MatchOption free (distance s.da last < far) (λ b. IsFree b × (distance s.db b ≡ end))

-- a search has stopped: no farther than the nearest end and than what waits, and at a record of A by its price
pub record HasStopped (f : Field) (s : Spread) (IsFree : ℕ → Type 0) (end : ℕ) (free : Option ℕ) (last : ℕ) : Type 0 where
  pub before_best : end ≤ s.best
  pub after : s.current ≤ end
  pub least : (x : ℕ × ℕ) → Contains s.frontier x → end ≤ x.0
  pub stop : StopsAt s IsFree end free last
  pub paid : IsNone free → EndsAt f s end last
