-- Machinery of `add_seat`, `reseat` and `settle`: the seats at records of B, at which linked records of A sit.
use Rattle.std.specs.Prelude.{◌≡◌, ◌≢◌, ℕ, ◌+◌, ◌-◌, ◌<◌, ◌≤◌, List, length, count_by, slice_set, Option, Some, MatchOption, is_none, ◌==◌, Bool, false, None, if◌then◌else◌}
use Rattle.assignment_steps.specs.declared.market.Edge.{Edge}
use Rattle.capacity_assign.specs.declared.market.Seats.{Seats}
use Rattle.assignment_steps.specs.Words.{edge, link, number, AreLinked, AreTight, AreTurnedFrom}
use Rattle.capacity_assign.specs.declared.market.Hole.{Hole}

-- the lists of seats
pub record Seating : Type 0 where
  pub seat : List ℕ
  pub sitter : List ℕ
  pub owner : List ℕ
  pub earlier : List (Option ℕ)
  pub last : List (Option ℕ)
  pub left : List ℕ
  pub count : ℕ

abbrev pub seating : Seats → Seating
seating s = record { seat = s.seat.items; sitter = s.sitter.items; owner = s.owner.items; earlier = s.earlier.items; last = s.last.items; left = s.left.items; count = s.count }

-- the last of the first n seats that belongs to a record of B, if one does
abbrev pub IsLastSeat : List ℕ → ℕ → ℕ → Option ℕ → Type 0
IsLastSeat owner n b place = MatchOption place ((m : ℕ) → m < n → number owner m ≢ b) (λ p. (p < n) × (number owner p ≡ b) × ((m : ℕ) → m < n → number owner m ≡ b → m ≤ p))

-- a record of B has a place left, or none
abbrev pub HasPlace : List ℕ → ℕ → Type 0
HasPlace left b = 0 < number left b

abbrev pub IsFull : List ℕ → ℕ → Type 0
IsFull left b = number left b ≡ 0

-- how many records of A have no link
abbrev pub free_records : List (Option ℕ) → ℕ
free_records la = count_by is_none la

-- a record of A that is linked by edge k sits at a seat of its record of B
pub record IsSeated (es : List Edge) (seat sitter owner : List ℕ) (count a k : ℕ) : Type 0 where
  pub there : number seat a < count
  pub sits : number sitter (number seat a) ≡ a
  pub owned : number owner (number seat a) ≡ (edge es k).b

-- each linked record of A does
abbrev pub AreSeated : List Edge → List (Option ℕ) → List ℕ → List ℕ → List ℕ → ℕ → Type 0
AreSeated es la seat sitter owner count = (a k : ℕ) → link la a ≡ Some k → IsSeated es seat sitter owner count a k

-- a seat is that of a record of A, linked to the seat's record of B
pub record HasSitters (es : List Edge) (la : List (Option ℕ)) (seat sitter owner : List ℕ) (n : ℕ) : Type 0 where
  pub edge_there : ℕ
  pub on : link la (number sitter n) ≡ Some edge_there
  pub owned : (edge es edge_there).b ≡ number owner n
  pub back : number seat (number sitter n) ≡ n

-- the seat `free`, of the record of B b, is nobody's, and each other is filled
pub record HasHole (es : List Edge) (la : List (Option ℕ)) (seat sitter owner : List ℕ) (count b free : ℕ) : Type 0 where
  pub seated : AreSeated es la seat sitter owner count
  pub there : free < count
  pub owned : number owner free ≡ b
  pub unused : (a k : ℕ) → link la a ≡ Some k → number seat a ≢ free
  pub filled : (n : ℕ) → n < count → n ≢ free → HasSitters es la seat sitter owner n

-- each linked record of A sits, and each seat is filled
pub record AreAllSeated (es : List Edge) (la : List (Option ℕ)) (seat sitter owner : List ℕ) (count : ℕ) : Type 0 where
  pub seated : AreSeated es la seat sitter owner count
  pub filled : (n : ℕ) → n < count → HasSitters es la seat sitter owner n

-- the seats of each record of B hang together
pub record HangTogether (s : Seating) : Type 0 where
  pub last : (b : ℕ) → IsLastSeat s.owner s.count b (link s.last b)
  pub earlier : (n : ℕ) → n < s.count → IsLastSeat s.owner n (number s.owner n) (link s.earlier n)

-- seats of the linked records of A, with room for one of each that is not linked
pub record AreSeats (es : List Edge) (la : List (Option ℕ)) (s : Seating) : Type 0 where
  pub seats : length s.seat ≡ length la
  pub sitters : length s.sitter ≡ length la
  pub owners : length s.owner ≡ length la
  pub earliers : length s.earlier ≡ length la
  pub lasts : length s.last ≡ length s.left
  pub room : s.count + free_records la ≤ length la
  pub seated : AreSeated es la s.seat s.sitter s.owner s.count
  pub filled : (n : ℕ) → n < s.count → HasSitters es la s.seat s.sitter s.owner n
  pub chains : HangTogether s

-- a record of B has one seat more, and one place less is left
pub record AddsSeat (old new : Seating) (b : ℕ) : Type 0 where
  pub seat : new.seat ≡ old.seat
  pub sitter : new.sitter ≡ old.sitter
  pub owner : new.owner ≡ slice_set old.owner old.count b
  pub earlier : new.earlier ≡ slice_set old.earlier old.count (link old.last b)
  pub last : new.last ≡ slice_set old.last b (Some old.count)
  pub left : new.left ≡ slice_set old.left b (number old.left b - 1)
  pub count : new.count ≡ old.count + 1

-- Machinery of `walk` and `turn`: links of records of A, counted at the records of B, and links that are turned round along a way.

-- whether a link leads to a record of B
abbrev pub leads_to : List Edge → ℕ → Option ℕ → Bool
leads_to es b None = false
leads_to es b (Some k) = (edge es k).b == b

-- how many links a record of B has
abbrev pub linked_at : List Edge → List (Option ℕ) → ℕ → ℕ
linked_at es la b = count_by (leads_to es b) la

-- the record of A of edge k takes the seat `free`, and leaves its own where it was linked
pub record Reseats (es : List Edge) (la : List (Option ℕ)) (seat sitter : List ℕ) (la' : List (Option ℕ)) (seat' sitter' : List ℕ) (k free : ℕ) (hole : Option Hole) : Type 0 where
  pub links : la' ≡ slice_set la (edge es k).a (Some k)
  pub seats : seat' ≡ slice_set seat (edge es k).a free
  pub sitters : sitter' ≡ slice_set sitter free (edge es k).a
  pub leaves : MatchOption (link la (edge es k).a) (hole ≡ None) (λ j. hole ≡ Some (record { b = (edge es j).b; seat = number seat (edge es k).a }))

-- a place that is missing at a record of B
abbrev pub one_at : ℕ → ℕ → ℕ
one_at missing b = if missing == b then 1 else 0

-- links were turned round along the way from a record of B, at which a seat was nobody's, to the root
pub record WalksBack (es : List Edge) (pa pb : List ℕ) (root : ℕ) (hole : Hole) (la0 : List (Option ℕ)) (seat0 sitter0 : List ℕ) (la : List (Option ℕ)) (seat sitter : List ℕ) : Type 0 where
  pub rows_a : length la ≡ length la0
  pub linked : AreLinked es la
  pub tight : AreTight es pa pb la
  pub root_linked : link la root ≡ None → ⊥
  pub still_a : (a : ℕ) → link la a ≡ None → link la0 a ≡ None
  pub places : (b : ℕ) → linked_at es la b ≡ linked_at es la0 b + one_at hole.b b
  pub room : free_records la + 1 ≡ free_records la0
  pub seated : (owner : List ℕ) (count : ℕ) → HasHole es la0 seat0 sitter0 owner count hole.b hole.seat → AreAllSeated es la seat sitter owner count

-- each record of B has as many places as before, linked or left
abbrev pub KeepsCapacities : List Edge → List (Option ℕ) → List ℕ → List (Option ℕ) → List ℕ → Type 0
KeepsCapacities es la left la' left' = (b : ℕ) → number left' b + linked_at es la' b ≡ number left b + linked_at es la b

-- links were turned round from where a tree ended
pub record TurnsRound (es : List Edge) (pa pb : List ℕ) (root : ℕ) (free : Option ℕ) (last : ℕ) (la : List (Option ℕ)) (left : List ℕ) (la' : List (Option ℕ)) (s' : Seating) : Type 0 where
  pub rows_b : length s'.left ≡ length left
  pub linked : AreLinked es la'
  pub tight : AreTight es pa pb la'
  pub seats : AreSeats es la' s'
  pub turned : AreTurnedFrom la la' root free last
  pub vacant : (b : ℕ) → HasPlace s'.left b → HasPlace left b
  pub places : KeepsCapacities es la left la' s'.left

-- Machinery of `search`: records of A of equal edges.

-- as many edges from two places on are to the same records of B, and of the same values
abbrev pub AreEqual : List Edge → ℕ → ℕ → ℕ → Type 0
AreEqual es one other count = (i : ℕ) → i < count → ((edge es (other + i)).b ≡ (edge es (one + i)).b) × ((edge es (other + i)).value ≡ (edge es (one + i)).value)

-- an edge of a record of A to the same record of B as another, and of its value
pub record IsCopy (es : List Edge) (a k j : ℕ) : Type 0 where
  pub place : j < length es
  pub record_a : (edge es j).a ≡ a
  pub record_b : (edge es j).b ≡ (edge es k).b
  pub value : (edge es j).value ≡ (edge es k).value

-- each edge of a record of A has a copy of another
abbrev pub HasCopies : List Edge → ℕ → ℕ → Type 0
HasCopies es a r = (k : ℕ) → k < length es → (edge es k).a ≡ a → (j : ℕ) × IsCopy es r k j

-- the record of A beside each record of A has its edges, and no others
pub record AreAlike (es : List Edge) (rows : ℕ) (like : List ℕ) : Type 0 where
  pub records : length like ≡ rows
  pub there : (a : ℕ) → a < rows → HasCopies es a (number like a)
  pub back : (a : ℕ) → a < rows → HasCopies es (number like a) a
