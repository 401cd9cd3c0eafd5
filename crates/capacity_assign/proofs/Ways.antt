-- Ways to a root, and what turning one link round leaves of them.
use Rattle.std.proofs.Common.{◌≡◌, ℕ, ◌+◌, ◌<◌, List, length, set, Option, Some, None, MatchOption, refl, sym, ◌∙◌, inl, inr, arith, get_or-set_other, get_or-set_same, length-set}
use Rattle.assignment_steps.specs.declared.market.Edge.{Edge}
use Rattle.capacity_assign.specs.declared.market.Hole.{Hole}
use Rattle.capacity_assign.specs.Seating.{Reseats, WalksBack, linked_at, one_at, AreAllSeated, HasHole, free_records}
use Rattle.assignment_steps.specs.Words.{IsHop, above, Leads, AreLinked, AreTight, link, edge, number, link-set, linked_joined, tight_joined, leads_below, reached_by, goes_on, ends_at}
use Rattle.capacity_assign.proofs.Links.{linked_at-set, free_records-set, all_taken, seat_left}

-- What the walk keeps, from the links and seats as they were when it began.
pub record IsWalking (es : List Edge) (pa pb : List ℕ) (from rank : List ℕ) (root : ℕ) (hole : Hole) (la0 : List (Option ℕ)) (seat0 sitter0 : List ℕ) (la : List (Option ℕ)) (seat sitter : List ℕ) (free : Hole) : Type 0 where
  pub rows_a : length la ≡ length la0
  pub records : length seat ≡ length la
  pub seats : length sitter ≡ length sitter0
  pub linked : AreLinked es la
  pub tight : AreTight es pa pb la
  pub within : (a k : ℕ) → link la a ≡ Some k → number seat a < length sitter
  pub there : free.seat < length sitter
  pub leads : (n : ℕ) × Leads es pa pb la from rank root n free.b
  pub still_a : (a : ℕ) → link la a ≡ None → link la0 a ≡ None
  pub places : (b : ℕ) → linked_at es la b + one_at free.b b ≡ linked_at es la0 b + one_at hole.b b
  pub room : free_records la ≡ free_records la0
  pub holes : (owner : List ℕ) (count : ℕ) → HasHole es la0 seat0 sitter0 owner count hole.b hole.seat → HasHole es la seat sitter owner count free.b free.seat

module _ (es : List Edge) (pa pb : List ℕ) (from rank : List ℕ) (root : ℕ) (hole : Hole) (la0 : List (Option ℕ)) (seat0 sitter0 : List ℕ) (la : List (Option ℕ)) (seat sitter : List ℕ) (free : Hole) (range : (k : ℕ) → k < length es → (edge es k).a < length la0) (w : IsWalking es pa pb from rank root hole la0 seat0 sitter0 la seat sitter free) where
  abbrev k : ℕ
  k = number from free.b

  pub hop : IsHop es pa pb from free.b
  hop = reached_by es pa pb la from rank root w.leads.0 free.b w.leads.1

  pub ra : (edge es k).a < length la
  ra = omega (arith, range k hop.place, w.rows_a)

  within_set : (a j : ℕ) → link (set la (edge es k).a (Some k)) a ≡ Some j → number (set seat (edge es k).a free.seat) a < length (set sitter free.seat (edge es k).a)
  within_set a j on = rw length-set (elim (link-set la (edge es k).a a (Some k) ra) [
    | inl p ↦ rw (p.0, get_or-set_same seat (edge es k).a free.seat 0 (omega (arith, ra, w.records))) w.there
    | inr p ↦ rw (get_or-set_other seat (edge es k).a a free.seat 0 p.0) (w.within a j (sym p.1 ∙ on))
  ])

  still_set : (a : ℕ) → link (set la (edge es k).a (Some k)) a ≡ None → link la0 a ≡ None
  still_set a none = elim (link-set la (edge es k).a a (Some k) ra) [ inl p ↦ absurd (let clash : Some k ≡ None = sym p.1 ∙ none in cc) | inr p ↦ w.still_a a (sym p.1 ∙ none) ]

  -- the record above leaves its link j
  pub walking_turned : (j : ℕ) → link la (edge es k).a ≡ Some j → IsWalking es pa pb from rank root hole la0 seat0 sitter0 (set la (edge es k).a (Some k)) (set seat (edge es k).a free.seat) (set sitter free.seat (edge es k).a) (record { b = (edge es j).b; seat = number seat (edge es k).a })
  walking_turned j linked =
      let on = goes_on es pa pb la from rank root w.leads.0 free.b j linked w.leads.1 in
      record {
        rows_a = rw length-set w.rows_a;
        records = rw (length-set, length-set) w.records;
        seats = rw length-set w.seats;
        linked = linked_joined es la k w.linked hop.place ra;
        tight = tight_joined es pa pb la k ra w.tight hop.tight;
        within = within_set;
        there = rw length-set (w.within (edge es k).a j linked);
        leads = (on.1.0, leads_below es pa pb la from rank root (edge es k).a (Some k) on.1.0 (edge es j).b on.0 on.1.1);
        still_a = still_set;
        places = λ b. (let e : linked_at es (set la (edge es k).a (Some k)) b + one_at (edge es j).b b ≡ linked_at es la b + one_at free.b b = rw (linked, hop.ends) at (linked_at-set es la (edge es k).a (Some k) b ra) in
            omega (arith, e, w.places b));
        room = (let e : free_records (set la (edge es k).a (Some k)) + 0 ≡ free_records la + 0 = rw linked at (free_records-set la (edge es k).a (Some k) ra) in omega (arith, e, w.room));
        holes = λ owner count h. seat_left es la seat sitter owner count free.b free.seat k j (w.holes owner count h) hop.ends ra w.records w.there linked;
      }

  -- the record above has no link
  pub places_ended : link la (edge es k).a ≡ None → (b : ℕ) → linked_at es (set la (edge es k).a (Some k)) b ≡ linked_at es la0 b + one_at hole.b b
  places_ended none b =
      let e : linked_at es (set la (edge es k).a (Some k)) b + 0 ≡ linked_at es la b + one_at free.b b = rw (none, hop.ends) at (linked_at-set es la (edge es k).a (Some k) b ra) in
      omega (arith, e, w.places b)

  pub room_ended : link la (edge es k).a ≡ None → free_records (set la (edge es k).a (Some k)) + 1 ≡ free_records la0
  room_ended none = (let e : free_records (set la (edge es k).a (Some k)) + 1 ≡ free_records la + 0 = rw none at (free_records-set la (edge es k).a (Some k) ra) in omega (arith, e, w.room))

  pub seated_ended : link la (edge es k).a ≡ None → (owner : List ℕ) (count : ℕ) → HasHole es la0 seat0 sitter0 owner count hole.b hole.seat → AreAllSeated es (set la (edge es k).a (Some k)) (set seat (edge es k).a free.seat) (set sitter free.seat (edge es k).a) owner count
  seated_ended none owner count h = all_taken es la seat sitter owner count free.b free.seat k (w.holes owner count h) hop.ends ra w.records w.there none

  pub linked_ended : AreLinked es (set la (edge es k).a (Some k))
  linked_ended = linked_joined es la k w.linked hop.place ra

  pub tight_ended : AreTight es pa pb (set la (edge es k).a (Some k))
  tight_ended = tight_joined es pa pb la k ra w.tight hop.tight

  pub root_ended : link la (edge es k).a ≡ None → link (set la (edge es k).a (Some k)) root ≡ None → ⊥
  root_ended none h =
      let is : (edge es k).a ≡ root = ends_at es pa pb la from rank root w.leads.0 free.b none w.leads.1 in
      let at : link (set la (edge es k).a (Some k)) root ≡ Some k = rw (← is) (get_or-set_same la (edge es k).a (Some k) None ra) in
      let clash : Some k ≡ None = sym at ∙ h in
      cc

  pub still_ended : (a : ℕ) → link (set la (edge es k).a (Some k)) a ≡ None → link la0 a ≡ None
  still_ended = still_set

-- what `reseat` did, by whether its record of A had a link
leaves_at : (es : List Edge) (seat : List ℕ) (k : ℕ) (x : Option ℕ) (left : Hole) → MatchOption x (Some left ≡ None) (λ j. Some left ≡ Some (record { b = (edge es j).b; seat = number seat (edge es k).a })) → (j : ℕ) × ((x ≡ Some j) × (left ≡ record { b = (edge es j).b; seat = number seat (edge es k).a }))
leaves_at es seat k None left h = absurd cc
leaves_at es seat k (Some j) left h = (j, (refl, cc))

pub walking_more : (es : List Edge) (pa pb : List ℕ) (from rank : List ℕ) (root : ℕ) (hole : Hole) (la0 : List (Option ℕ)) (seat0 sitter0 : List ℕ) (la la' : List (Option ℕ)) (seat seat' sitter sitter' : List ℕ) (free left : Hole) → ((k : ℕ) → k < length es → (edge es k).a < length la0) → IsWalking es pa pb from rank root hole la0 seat0 sitter0 la seat sitter free → Reseats es la seat sitter la' seat' sitter' (number from free.b) free.seat (Some left) → IsWalking es pa pb from rank root hole la0 seat0 sitter0 la' seat' sitter' left
walking_more es pa pb from rank root hole la0 seat0 sitter0 la la' seat seat' sitter sitter' free left range w h =
    let p = leaves_at es seat (number from free.b) (link la (edge es (number from free.b)).a) left h.leaves in
    rw (h.links, h.seats, h.sitters, p.1.1) (walking_turned es pa pb from rank root hole la0 seat0 sitter0 la seat sitter free range w p.0 p.1.0)

pub walking_smaller : (es : List Edge) (pa pb : List ℕ) (from rank : List ℕ) (root : ℕ) (hole : Hole) (la0 : List (Option ℕ)) (seat0 sitter0 : List ℕ) (la la' : List (Option ℕ)) (seat seat' sitter sitter' : List ℕ) (free left : Hole) → ((k : ℕ) → k < length es → (edge es k).a < length la0) → IsWalking es pa pb from rank root hole la0 seat0 sitter0 la seat sitter free → Reseats es la seat sitter la' seat' sitter' (number from free.b) free.seat (Some left) → number rank (above es from left.b) < number rank (above es from free.b)
walking_smaller es pa pb from rank root hole la0 seat0 sitter0 la la' seat seat' sitter sitter' free left range w h =
    let p = leaves_at es seat (number from free.b) (link la (edge es (number from free.b)).a) left h.leaves in
    rw p.1.1 (goes_on es pa pb la from rank root w.leads.0 free.b p.0 p.1.0 w.leads.1).0

ends_none : (es : List Edge) (seat : List ℕ) (k : ℕ) (x y : Option ℕ) (hole : Option Hole) → x ≡ y → hole ≡ None → MatchOption x (hole ≡ None) (λ j. hole ≡ Some (record { b = (edge es j).b; seat = number seat (edge es k).a })) → y ≡ None
ends_none es seat k x None hole e n h = refl
ends_none es seat k x (Some j) hole e n h = absurd (let g : hole ≡ Some (record { b = (edge es j).b; seat = number seat (edge es k).a }) = rw e at h in let clash = sym n ∙ g in cc)

pub not_left : (es : List Edge) (la : List (Option ℕ)) (seat sitter : List ℕ) (la' : List (Option ℕ)) (seat' sitter' : List ℕ) (k free : ℕ) → Reseats es la seat sitter la' seat' sitter' k free None → link la (edge es k).a ≡ None
not_left es la seat sitter la' seat' sitter' k free h = ends_none es seat k (link la (edge es k).a) (link la (edge es k).a) None refl refl h.leaves

pub walked : (es : List Edge) (pa pb : List ℕ) (from rank : List ℕ) (root : ℕ) (hole : Hole) (la0 : List (Option ℕ)) (seat0 sitter0 : List ℕ) (la la' : List (Option ℕ)) (seat seat' sitter sitter' : List ℕ) (free : Hole) → ((k : ℕ) → k < length es → (edge es k).a < length la0) → IsWalking es pa pb from rank root hole la0 seat0 sitter0 la seat sitter free → Reseats es la seat sitter la' seat' sitter' (number from free.b) free.seat None → WalksBack es pa pb root hole la0 seat0 sitter0 la' seat' sitter'
walked es pa pb from rank root hole la0 seat0 sitter0 la la' seat seat' sitter sitter' free range w h =
    let none = not_left es la seat sitter la' seat' sitter' (number from free.b) free.seat h in
    let made : WalksBack es pa pb root hole la0 seat0 sitter0 (set la (edge es (number from free.b)).a (Some (number from free.b))) (set seat (edge es (number from free.b)).a free.seat) (set sitter free.seat (edge es (number from free.b)).a) = record {
      rows_a = rw length-set w.rows_a;
      linked = linked_ended es pa pb from rank root hole la0 seat0 sitter0 la seat sitter free range w;
      tight = tight_ended es pa pb from rank root hole la0 seat0 sitter0 la seat sitter free range w;
      root_linked = root_ended es pa pb from rank root hole la0 seat0 sitter0 la seat sitter free range w none;
      still_a = still_ended es pa pb from rank root hole la0 seat0 sitter0 la seat sitter free range w;
      places = places_ended es pa pb from rank root hole la0 seat0 sitter0 la seat sitter free range w none;
      room = room_ended es pa pb from rank root hole la0 seat0 sitter0 la seat sitter free range w none;
      seated = seated_ended es pa pb from rank root hole la0 seat0 sitter0 la seat sitter free range w none;
    } in
    rw (h.links, h.seats, h.sitters) made
