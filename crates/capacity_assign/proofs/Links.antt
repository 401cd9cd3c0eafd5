-- What one write of a link does to the links, and to how many there are.
use Rattle.std.proofs.Common.{◌≡◌, ◌==◌, ℕ, zero, suc, ◌+◌, ◌<◌, List, [], ◌∷◌, length, set, Bool, false, cond, Option, Some, None, refl, sym, ◌∙◌, inl, inr, arith, is_none, ◌≢◌, ◌-◌, ◌≤◌, true, ap, get_or-set_other, get_or-set_same, length-set}
use Rattle.std.proofs.lemmas.Bool.{cases_eq, cases_lt}
use Rattle.std.proofs.lemmas.Bool.Decides.{nat_tests}
use Rattle.std.proofs.lemmas.List.Sums.{sum_by-cons, sum_by-set}
use Rattle.assignment_steps.specs.declared.market.Edge.{Edge}
use Rattle.capacity_assign.specs.Seating.{leads_to, linked_at, KeepsCapacities, free_records, AddsSeat, AreAllSeated, AreSeated, AreSeats, HasSitters, HangTogether, HasHole, IsLastSeat, Seating, HasPlace}
use Rattle.assignment_steps.specs.Words.{AreLinked, edge, link, number, IsTight, link-set, link_there, priced_joined}
use Rattle.price_check.specs.PlaceLaws.{place_there}
use Rattle.capacity_assign.specs.Round.{IsBetweenRounds}

-- a record of A gives its link up
pub linked_parted : (es : List Edge) (la : List (Option ℕ)) (r : ℕ) → AreLinked es la → r < length la → AreLinked es (set la r None)
linked_parted es la r h lt a j on = elim (link-set la r a None lt) [
  | inl p ↦ absurd (let clash : None ≡ Some j = sym p.1 ∙ on in cc)
  | inr p ↦ h a j (sym p.1 ∙ on)
]

abbrev pub tick : Bool → ℕ
tick b = cond b 1 0

pub linked_at-set : (es : List Edge) (la : List (Option ℕ)) (a : ℕ) (x : Option ℕ) (b : ℕ) → a < length la → linked_at es (set la a x) b + tick (leads_to es b (link la a)) ≡ linked_at es la b + tick (leads_to es b x)
linked_at-set es la a x b lt = sum_by-set (λ (o : Option ℕ). cond (leads_to es b o) 1 0) la a x None lt

pub free_records-set : (la : List (Option ℕ)) (a : ℕ) (x : Option ℕ) → a < length la → free_records (set la a x) + tick (is_none (link la a)) ≡ free_records la + tick (is_none x)
free_records-set la a x lt = sum_by-set (λ (o : Option ℕ). cond (is_none o) 1 0) la a x None lt

-- a record of A without a link is counted
pub free_record_counts : (la : List (Option ℕ)) (a : ℕ) → a < length la → link la a ≡ None → 0 < free_records la
free_record_counts la a lt none =
    let some : Option ℕ = Some 0 in
    let e = free_records-set la a some lt in
    let t : tick (is_none (link la a)) ≡ 1 = rw none refl in
    let u : tick (is_none some) ≡ 0 = refl in
    omega (arith, e, t, u)

-- where some are counted there is one
pub counted_link : (es : List Edge) (la : List (Option ℕ)) (b : ℕ) → 0 < linked_at es la b → (a : ℕ) × ((k : ℕ) × ((link la a ≡ Some k) × ((edge es k).b ≡ b)))
counted_link es [] b some = absurd (omega arith)
counted_link es (None ∷ la) b some =
    let e = sum_by-cons (λ (o : Option ℕ). cond (leads_to es b o) 1 0) None la in
    let r = counted_link es la b (omega (arith, e)) in
    (suc r.0, r.1)
counted_link es (Some k ∷ la) b some = elim (cases_eq (edge es k).b b) [
  | inl same ↦ (zero, (k, (refl, same)))
  | inr n ↦
      (let t : tick ((edge es k).b == b) ≡ 0 = (let off : ((edge es k).b == b) ≡ false = grind (arith, nat_tests) in rw off refl) in
      let e = sum_by-cons (λ (o : Option ℕ). cond (leads_to es b o) 1 0) (Some k) la in
      let r = counted_link es la b (omega (arith, e, t)) in
      (suc r.0, r.1))
]

-- Seats: one more, and a record of A that takes one.

-- the record of A of edge k takes the seat that is nobody's
pub seat_taken : (es : List Edge) (la : List (Option ℕ)) (seat sitter owner : List ℕ) (count b free k : ℕ) → HasHole es la seat sitter owner count b free → (edge es k).b ≡ b → (edge es k).a < length la → length seat ≡ length la → free < length sitter → AreSeated es (set la (edge es k).a (Some k)) (set seat (edge es k).a free) (set sitter free (edge es k).a) owner count
seat_taken es la seat sitter owner count b free k h ends ra records there a j on = elim (link-set la (edge es k).a a (Some k) ra) [
  | inl p ↦
      (let same : k ≡ j = cc in
      let at : number (set seat (edge es k).a free) a ≡ free = rw p.0 (get_or-set_same seat (edge es k).a free 0 (omega (arith, ra, records))) in
      record {
        there = rw at h.there;
        sits = rw (at, get_or-set_same sitter free (edge es k).a 0 there) (sym p.0);
        owned = rw at (h.owned ∙ (sym ends ∙ ap (λ n. (edge es n).b) same));
      })
  | inr p ↦
      (let on' : link la a ≡ Some j = sym p.1 ∙ on in
      let old = h.seated a j on' in
      let at : number (set seat (edge es k).a free) a ≡ number seat a = get_or-set_other seat (edge es k).a a free 0 p.0 in
      record {
        there = rw at old.there;
        sits = rw (at, get_or-set_other sitter free (number seat a) (edge es k).a 0 (h.unused a j on')) old.sits;
        owned = rw at old.owned;
      })
]

-- a seat that it did not have before is filled still, and the one that it took
pub filled_taken : (es : List Edge) (la : List (Option ℕ)) (seat sitter owner : List ℕ) (count b free k : ℕ) → HasHole es la seat sitter owner count b free → (edge es k).b ≡ b → (edge es k).a < length la → length seat ≡ length la → free < length sitter → (n : ℕ) → n < count → (n ≢ free → number sitter n ≢ (edge es k).a) → HasSitters es (set la (edge es k).a (Some k)) (set seat (edge es k).a free) (set sitter free (edge es k).a) owner n
filled_taken es la seat sitter owner count b free k h ends ra records there n lt other = elim (cases_eq n free) [
  | inl e ↦
      (let sitter_is : number (set sitter free (edge es k).a) n ≡ (edge es k).a = rw e (get_or-set_same sitter free (edge es k).a 0 there) in
      record {
        edge_there = k;
        on = rw sitter_is (get_or-set_same la (edge es k).a (Some k) None ra);
        owned = rw e (ends ∙ sym h.owned);
        back = rw sitter_is (get_or-set_same seat (edge es k).a free 0 (omega (arith, ra, records)) ∙ sym e);
      })
  | inr ne ↦
      (let old = h.filled n lt ne in
      let sitter_is : number (set sitter free (edge es k).a) n ≡ number sitter n = get_or-set_other sitter free n (edge es k).a 0 ne in
      record {
        edge_there = old.edge_there;
        on = rw sitter_is (get_or-set_other la (edge es k).a (number sitter n) (Some k) None (other ne) ∙ old.on);
        owned = old.owned;
        back = rw sitter_is (get_or-set_other seat (edge es k).a (number sitter n) free 0 (other ne) ∙ old.back);
      })
]

-- where it had none, all seats are filled
pub all_taken : (es : List Edge) (la : List (Option ℕ)) (seat sitter owner : List ℕ) (count b free k : ℕ) → HasHole es la seat sitter owner count b free → (edge es k).b ≡ b → (edge es k).a < length la → length seat ≡ length la → free < length sitter → link la (edge es k).a ≡ None → AreAllSeated es (set la (edge es k).a (Some k)) (set seat (edge es k).a free) (set sitter free (edge es k).a) owner count
all_taken es la seat sitter owner count b free k h ends ra records there none = record {
  seated = seat_taken es la seat sitter owner count b free k h ends ra records there;
  filled = λ n lt. filled_taken es la seat sitter owner count b free k h ends ra records there n lt (λ nf e. (let old = h.filled n lt nf in let on : link la (edge es k).a ≡ Some old.edge_there = rw e at old.on in let clash : None ≡ Some old.edge_there = sym none ∙ on in cc));
}

-- and leaves its own to nobody
pub seat_left : (es : List Edge) (la : List (Option ℕ)) (seat sitter owner : List ℕ) (count b free k j : ℕ) → HasHole es la seat sitter owner count b free → (edge es k).b ≡ b → (edge es k).a < length la → length seat ≡ length la → free < length sitter → link la (edge es k).a ≡ Some j → HasHole es (set la (edge es k).a (Some k)) (set seat (edge es k).a free) (set sitter free (edge es k).a) owner count (edge es j).b (number seat (edge es k).a)
seat_left es la seat sitter owner count b free k j h ends ra records there linked =
    let mine = h.seated (edge es k).a j linked in
    record {
      seated = seat_taken es la seat sitter owner count b free k h ends ra records there;
      there = mine.there;
      owned = mine.owned;
      filled = λ n lt ne. filled_taken es la seat sitter owner count b free k h ends ra records there n lt (λ nf e. ne (sym (h.filled n lt nf).back ∙ ap (number seat) e));
      unused = λ a i on. elim (link-set la (edge es k).a a (Some k) ra) [
        | inl p ↦ (let at : number (set seat (edge es k).a free) a ≡ free = rw p.0 (get_or-set_same seat (edge es k).a free 0 (omega (arith, ra, records))) in
            λ e. h.unused (edge es k).a j linked (sym e ∙ at))
        | inr p ↦ (let old = h.seated a i (sym p.1 ∙ on) in
            let at : number (set seat (edge es k).a free) a ≡ number seat a = get_or-set_other seat (edge es k).a a free 0 p.0 in
            λ e. p.0 (sym old.sits ∙ (ap (number sitter) (sym at ∙ e) ∙ mine.sits)))
      ];
    }

-- One seat more.

module _ (s t : Seating) (b : ℕ) (adds : AddsSeat s t b) (chains : HangTogether s) (owners : s.count < length s.owner) (earliers : length s.earlier ≡ length s.owner) (lasts : b < length s.last) where
  owner_old : (m : ℕ) → m < s.count → number t.owner m ≡ number s.owner m
  owner_old m lt = rw adds.owner (get_or-set_other s.owner s.count m b 0 (λ e. absurd (omega (arith, e))))

  owner_new : number t.owner s.count ≡ b
  owner_new = rw adds.owner (get_or-set_same s.owner s.count b 0 owners)

  -- what is the last among old seats stays so
  last_old : (n x : ℕ) (place : Option ℕ) → n ≤ s.count → IsLastSeat s.owner n x place → IsLastSeat t.owner n x place
  last_old n x None le h = λ m lt e. h m lt (sym (owner_old m (omega (arith, le))) ∙ e)
  last_old n x (Some p) le h = (h.0, owner_old p (omega (arith, h.0, le)) ∙ h.1, λ m lt e. h.2 m lt (sym (owner_old m (omega (arith, le))) ∙ e))

  -- and among all, at another record of B
  last_more : (x : ℕ) (place : Option ℕ) → x ≢ b → IsLastSeat t.owner s.count x place → IsLastSeat t.owner (s.count + 1) x place
  last_more x None ne h = λ m lt e. elim (cases_lt m s.count) [
    | inl low ↦ h m low e
    | inr high ↦ (let same : m ≡ s.count = omega arith in ne (sym (rw same at e) ∙ owner_new))
  ]
  last_more x (Some p) ne h = (
    omega (arith, h.0),
    h.1,
    λ m lt e. elim (cases_lt m s.count) [
      | inl low ↦ h.2 m low e
      | inr high ↦ (let same : m ≡ s.count = omega arith in absurd (ne (sym (rw same at e) ∙ owner_new)))
    ],
  )

  pub chains_added : HangTogether t
  chains_added = record {
    last = λ x. rw (adds.count, adds.last) (elim (link-set s.last b x (Some s.count) lasts) [
      | inl p ↦ rw p.1 (omega arith, owner_new ∙ sym p.0, λ m lt e. omega arith)
      | inr p ↦ rw p.1 (last_more x (link s.last x) p.0 (last_old s.count x (link s.last x) (omega arith) (chains.last x)))
    ]);
    earlier = λ n lt. elim (cases_lt n s.count) [
      | inl low ↦
          (let at : link (set s.earlier s.count (link s.last b)) n ≡ link s.earlier n = get_or-set_other s.earlier s.count n (link s.last b) None (λ e. absurd (omega (arith, e))) in
          rw (adds.earlier, at, owner_old n low) (last_old n (number s.owner n) (link s.earlier n) (omega arith) (chains.earlier n low)))
      | inr high ↦
          (let same : n ≡ s.count = omega (arith, adds.count) in
          let at : link (set s.earlier s.count (link s.last b)) s.count ≡ link s.last b = get_or-set_same s.earlier s.count (link s.last b) None (omega (arith, earliers)) in
          rw (same, adds.earlier, at, owner_new) (last_old s.count b (link s.last b) (omega arith) (chains.last b)))
    ];
  }

  -- the new seat is nobody's
  pub hole_added : (es : List Edge) (la : List (Option ℕ)) → AreSeated es la s.seat s.sitter s.owner s.count → ((n : ℕ) → n < s.count → HasSitters es la s.seat s.sitter s.owner n) → HasHole es la t.seat t.sitter t.owner t.count b s.count
  hole_added es la seated filled = record {
    filled = λ n lt ne. (let low : n < s.count = omega (arith, lt, adds.count, ne) in let old = filled n low in record {
      edge_there = old.edge_there;
      on = rw adds.sitter old.on;
      owned = old.owned ∙ sym (owner_old n low);
      back = rw (adds.sitter, adds.seat) old.back;
    });
    seated = λ a k on. (let old = seated a k on in record {
      there = rw (adds.seat, adds.count) (omega (arith, old.there));
      sits = rw (adds.seat, adds.sitter) old.sits;
      owned = rw adds.seat (owner_old (number s.seat a) old.there ∙ old.owned);
    });
    there = rw adds.count (omega arith);
    owned = owner_new;
    unused = λ a k on e. (let old = seated a k on in let same : number s.seat a ≡ s.count = rw adds.seat at e in absurd (omega (arith, old.there, same)));
  }

-- seats after one was added and a way was turned round from it
pub seats_after_added : (es : List Edge) (la la' : List (Option ℕ)) (s t : Seating) (b : ℕ) (seat' sitter' : List ℕ) → AreSeats es la s → AddsSeat s t b → b < length s.left → 0 < free_records la → length la' ≡ length la → free_records la' + 1 ≡ free_records la → length seat' ≡ length t.seat → length sitter' ≡ length t.sitter → (HasHole es la t.seat t.sitter t.owner t.count b s.count → AreAllSeated es la' seat' sitter' t.owner t.count) → AreSeats es la' (record t { seat = seat'; sitter = sitter' })
seats_after_added es la la' s t b seat' sitter' old adds there some len room seats sitters seated =
    let owners : s.count < length s.owner = omega (arith, old.room, old.owners) in
    let lasts : b < length s.last = omega (arith, old.lasts) in
    let all = seated (hole_added s t b adds old.chains owners (old.earliers ∙ sym old.owners) lasts es la old.seated old.filled) in
    record {
      seats = seats ∙ (rw adds.seat old.seats ∙ sym len);
      sitters = sitters ∙ (rw adds.sitter old.sitters ∙ sym len);
      owners = rw (adds.owner, length-set) (old.owners ∙ sym len);
      earliers = rw (adds.earlier, length-set) (old.earliers ∙ sym len);
      lasts = rw (adds.last, adds.left, length-set, length-set) old.lasts;
      room = rw adds.count (omega (arith, old.room, room, len));
      seated = all.seated;
      filled = all.filled;
      chains = (let c = chains_added s t b adds old.chains owners (old.earliers ∙ sym old.owners) lasts in record { last = c.last; earlier = c.earlier });
    }

-- a linked record of A gives its link up: its seat is nobody's
pub hole_parted : (es : List Edge) (la : List (Option ℕ)) (seat sitter owner : List ℕ) (count last k : ℕ) → last < length la → link la last ≡ Some k → AreSeated es la seat sitter owner count → ((n : ℕ) → n < count → HasSitters es la seat sitter owner n) → HasHole es (set la last None) seat sitter owner count (edge es k).b (number seat last)
hole_parted es la seat sitter owner count last k lt on seated filled =
    let mine = seated last k on in
    record {
      seated = λ a j h. elim (link-set la last a None lt) [ inl p ↦ absurd (let clash : None ≡ Some j = sym p.1 ∙ h in cc) | inr p ↦ seated a j (sym p.1 ∙ h) ];
      there = mine.there;
      owned = mine.owned;
      filled = λ n low ne. (let old = filled n low in let other : number sitter n ≢ last = λ e. ne (sym old.back ∙ ap (number seat) e) in record {
        edge_there = old.edge_there;
        on = get_or-set_other la last (number sitter n) None None other ∙ old.on;
        owned = old.owned;
        back = old.back;
      });
      unused = λ a j h. elim (link-set la last a None lt) [
        | inl p ↦ absurd (let clash : None ≡ Some j = sym p.1 ∙ h in cc)
        | inr p ↦ (let old = seated a j (sym p.1 ∙ h) in λ e. p.0 (sym old.sits ∙ (ap (number sitter) e ∙ mine.sits)))
      ];
    }

-- seats after a way was turned round from there
pub seats_after_parted : (es : List Edge) (la la' : List (Option ℕ)) (s : Seating) (seat' sitter' : List ℕ) → AreSeats es la s → length la' ≡ length la → free_records la' ≡ free_records la → length seat' ≡ length s.seat → length sitter' ≡ length s.sitter → AreAllSeated es la' seat' sitter' s.owner s.count → AreSeats es la' (record s { seat = seat'; sitter = sitter' })
seats_after_parted es la la' s seat' sitter' old len room seats sitters all = record {
  seats = seats ∙ (old.seats ∙ sym len);
  sitters = sitters ∙ (old.sitters ∙ sym len);
  owners = old.owners ∙ sym len;
  earliers = old.earliers ∙ sym len;
  lasts = old.lasts;
  room = omega (arith, old.room, room, len);
  seated = all.seated;
  filled = all.filled;
  chains = record { last = old.chains.last; earlier = old.chains.earlier };
}

-- Places: one is taken, or moves from one record of A to another.

pub places_after_added : (es : List Edge) (la la' : List (Option ℕ)) (left : List ℕ) (b : ℕ) → 0 < number left b → ((x : ℕ) → linked_at es la' x ≡ linked_at es la x + tick (b == x)) → KeepsCapacities es la left la' (set left b (number left b - 1))
places_after_added es la la' left b some one x = elim (cases_eq b x) [
  | inl e ↦
      (let at : number (set left b (number left b - 1)) x ≡ number left b - 1 = rw (← e) (get_or-set_same left b (number left b - 1) 0 (place_there left b some)) in
      let on : tick (b == x) ≡ 1 = (let yes : (b == x) ≡ true = grind (arith, nat_tests) in rw yes refl) in
      let same : number left b ≡ number left x = ap (number left) e in
      omega (arith, at, on, one x, some, same))
  | inr n ↦
      (let at : number (set left b (number left b - 1)) x ≡ number left x = get_or-set_other left b x (number left b - 1) 0 (λ e. n (sym e)) in
      let off : tick (b == x) ≡ 0 = (let no : (b == x) ≡ false = grind (arith, nat_tests) in rw no refl) in
      omega (arith, at, off, one x))
]

pub vacant_after_added : (left : List ℕ) (b : ℕ) → 0 < number left b → (x : ℕ) → 0 < number (set left b (number left b - 1)) x → 0 < number left x
vacant_after_added left b some x h = elim (cases_eq x b) [ inl e ↦ rw e some | inr n ↦ rw (← get_or-set_other left b x (number left b - 1) 0 n) h ]

pub places_after_parted : (es : List Edge) (la la' : List (Option ℕ)) (left : List ℕ) (last k : ℕ) → link la last ≡ Some k → ((x : ℕ) → linked_at es la' x ≡ linked_at es (set la last None) x + tick ((edge es k).b == x)) → KeepsCapacities es la left la' left
places_after_parted es la la' left last k on one x =
    let e : linked_at es (set la last None) x + tick ((edge es k).b == x) ≡ linked_at es la x + 0 = rw on at (linked_at-set es la last None x (link_there la last k on)) in
    omega (arith, e, one x)

pub free_records_after_parted : (la la' : List (Option ℕ)) (last k : ℕ) → link la last ≡ Some k → free_records la' + 1 ≡ free_records (set la last None) → free_records la' ≡ free_records la
free_records_after_parted la la' last k on room =
    let e : free_records (set la last None) + 0 ≡ free_records la + 1 = rw on at (free_records-set la last None (link_there la last k on)) in
    omega (arith, e, room)

-- A link over a tight edge, whose record of A has no link and whose record of B a place left.

module _ (es : List Edge) (pa pb : List ℕ) (la : List (Option ℕ)) (s t : Seating) (k : ℕ) (w : IsBetweenRounds es pa pb la s 0) (lt : k < length es) (none : link la (edge es k).a ≡ None) (some : 0 < number s.left (edge es k).b) (adds : AddsSeat s t (edge es k).b) where
  abbrev a : ℕ
  a = (edge es k).a

  ra : a < length la
  ra = omega (arith, w.priced.in_range.record_a k lt, w.priced.rows_a)

  one_more : (x : ℕ) → linked_at es (set la a (Some k)) x ≡ linked_at es la x + tick ((edge es k).b == x)
  one_more x = (let e : linked_at es (set la a (Some k)) x + 0 ≡ linked_at es la x + tick ((edge es k).b == x) = rw none at (linked_at-set es la a (Some k) x ra) in omega (arith, e))

  pub places_linked : KeepsCapacities es la s.left (set la a (Some k)) t.left
  places_linked = rw adds.left (places_after_added es la (set la a (Some k)) s.left (edge es k).b some one_more)

  pub between_linked : IsTight es pa pb k → IsBetweenRounds es pa pb (set la a (Some k)) (record t { seat = set t.seat a s.count; sitter = set t.sitter s.count a }) 0
  between_linked tight =
      let rooms = free_record_counts la a ra none in
      let fewer : free_records (set la a (Some k)) + 1 ≡ free_records la = (let e : free_records (set la a (Some k)) + 1 ≡ free_records la + 0 = rw none at (free_records-set la a (Some k) ra) in omega (arith, e)) in
      let count : s.count < length s.sitter = omega (arith, w.seated.room, w.seated.sitters, rooms) in
      record {
        priced = priced_joined es pa pb la k (HasPlace s.left) (HasPlace t.left) w.priced lt ra tight (λ b left. vacant_after_added s.left (edge es k).b some b (rw adds.left at left));
        rows_b = rw (adds.left, length-set) w.rows_b;
        seated = seats_after_added es la (set la a (Some k)) s t (edge es k).b (set t.seat a s.count) (set t.sitter s.count a) w.seated adds (place_there s.left (edge es k).b some) rooms (length-set la a (Some k)) fewer (length-set t.seat a s.count) (length-set t.sitter s.count a)
            (λ h. all_taken es la t.seat t.sitter t.owner t.count (edge es k).b s.count k h refl ra (rw adds.seat w.seated.seats) (rw adds.sitter count) none);
        closed = λ b j full ltj ends. w.closed b j (sym (places_linked b) ∙ full) ltj ends;
      }

-- where no place is left, none is after a place was taken elsewhere
pub still_none : (left : List ℕ) (b x v : ℕ) → 0 < number left b → number left x ≡ 0 → number (set left b v) x ≡ 0
still_none left b x v some none =
    elim (cases_eq x b) [
      | inl same ↦ absurd (let here : number left b ≡ 0 = rw (← same) none in omega (arith, here, some))
      | inr other ↦ get_or-set_other left b x v 0 other ∙ none
    ]
