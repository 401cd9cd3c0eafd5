-- Machinery of the assigners above (`turn` of each): the ways along which links are turned round, from a record that a search has reached
-- back to the record that it began at.
use Rattle.std.specs.Prelude.{◌≡◌, ◌⊎◌, ℕ, zero, suc, ◌<◌, List, length, Option, Some, None, MatchOption, IsNone, ◌+◌, Bool, ◌||◌, ◌&&◌, ◌==◌, nat_le, if◌then◌else◌, [], ◌∷◌}
use Rattle.assignment_steps.specs.declared.market.Edge.{Edge}
use Rattle.assignment_steps.specs.declared.market.Net.{Net}
use Rattle.assignment_steps.specs.declared.market.Ways.{Ways}
use Rattle.assignment_steps.specs.Market.{edge, link, number, IsTight, distance, far}

-- the edge by which a record of B was reached is tight
pub record IsHop (es : List Edge) (pa pb from : List ℕ) (b : ℕ) : Type 0 where
  pub reached : b < length from
  pub place : number from b < length es
  pub ends : (edge es (number from b)).b ≡ b
  pub tight : IsTight es pa pb (number from b)

-- the record of A from which a record of B was reached
abbrev pub above : List Edge → List ℕ → ℕ → ℕ
above es from b = (edge es (number from b)).a

-- a way of at most n hops from a record of B to the root, along links and the edges by which records were reached
abbrev pub Leads : List Edge → List ℕ → List ℕ → List (Option ℕ) → List ℕ → List ℕ → ℕ → ℕ → ℕ → Type 0
Leads es pa pb la from rank root zero b = ⊥
Leads es pa pb la from rank root (suc n) b =
    IsHop es pa pb from b × (((above es from b ≡ root) × (link la (above es from b) ≡ None))
    ⊎ ((k : ℕ) × ((link la (above es from b) ≡ Some k) × (number rank (above es from (edge es k).b) < number rank (above es from b))
    × Leads es pa pb la from rank root n (edge es k).b)))

-- a way from a record of B to the root
abbrev pub LeadsBy : Net → Ways → List (Option ℕ) → ℕ → ℕ → Type 0
LeadsBy net ways la n b = Leads net.edges.now net.price_a.now net.price_b.now la ways.from.now ways.rank.now ways.root n b

-- a record of A is the root without a link, or a way leads from the record of B that it is linked to
abbrev pub LeadsFrom : List Edge → List ℕ → List ℕ → List (Option ℕ) → List ℕ → List ℕ → ℕ → ℕ → Type 0
LeadsFrom es pa pb la from rank root a =
    ((a ≡ root) × (link la a ≡ None))
    ⊎ ((k : ℕ) × ((link la a ≡ Some k) × (number rank (above es from (edge es k).b) < number rank a) × ((n : ℕ) × Leads es pa pb la from rank root n (edge es k).b)))

abbrev pub LeadsFromRecord : Net → Ways → List (Option ℕ) → ℕ → Type 0
LeadsFromRecord net ways la a = LeadsFrom net.edges.now net.price_a.now net.price_b.now la ways.from.now ways.rank.now ways.root a

-- ways to the root from where a search ended: from a record of B, or else from a record of A
abbrev pub LeadsFromEnd : Net → Ways → List (Option ℕ) → Option ℕ → ℕ → Type 0
LeadsFromEnd net ways la free last = MatchOption free (LeadsFromRecord net ways la last) (λ b. (n : ℕ) × LeadsBy net ways la n b)

-- the links of the records of A after a way was turned round: the root has one, and who has none had none before, but
-- for the record of A at which the way ends
pub record AreTurnedFrom (la la' : List (Option ℕ)) (root : ℕ) (free : Option ℕ) (last : ℕ) : Type 0 where
  pub count : length la' ≡ length la
  pub of_root : link la' root ≡ None → IsNone free × (root ≡ last)
  pub still : (a : ℕ) → link la' a ≡ None → (link la a ≡ None) ⊎ (IsNone free × (a ≡ last))

-- Machinery of a search, a measure by which it ends: the edges that are not relaxed yet in the growth of a tree.

-- how many edges pass a test of the edge and its place
abbrev pub count_at : (Edge → ℕ → Bool) → List Edge → ℕ → ℕ
count_at t [] i = 0
count_at t (e ∷ es) i = (if t e i then 1 else 0) + count_at t es (suc i)

-- an edge at place i is not relaxed yet
abbrev pub is_left : List ℕ → ℕ → ℕ → Edge → ℕ → Bool
is_left da position next e i = (distance da e.a == far) || ((e.a == position) && nat_le next i)

-- how many edges are not relaxed yet, those of `position` from place `next` on among them
abbrev pub left : List Edge → List ℕ → ℕ → ℕ → ℕ
left es da position next = count_at (is_left da position next) es 0
