use Rattle.std.proofs.Common.{◌≡◌, ℕ, ◌<◌, length, set, None, Some, refl, ap, sym, ◌∙◌, inl, inr, arith, is_some}
use Rattle.std.proofs.lemmas.List.{get_or_default, length-set, with_items_is}
use Rattle.price_check.specs.PlaceLaws.{place_there}
use Rattle.assignment_steps.specs.Words.{edge, link, number, AreLinked, AreTight, LeadsBy, link-set, leads_parted}
use Rattle.capacity_assign.specs.Seating.{WalksBack, HasHole, seating}
use Rattle.capacity_assign.proofs.Links.{free_record_counts, linked_parted, hole_parted, places_after_added, places_after_parted, free_records_after_parted, seats_after_added, seats_after_parted, vacant_after_added}
use Rattle.capacity_assign.proofs.round.turn.Goals as goal

pub add_seat-seat-requires : goal.add_seat-seat-requires
add_seat-seat-requires c =
    let s = c.requires.seats in
    let old = c.args.seats.now in
    let some : 0 < number old.left.items c.in-Some.b = rw c.in-Some.is at c.requires.free in
    let there = place_there old.left.items c.in-Some.b some in
    let one = free_record_counts c.args.link_a.now c.args.ways.root c.requires.root.0 c.requires.root.1 in
    record {
      owner = omega (arith, s.room, s.owners, one, old.owner.ok.0);
      earlier = omega (arith, s.room, s.earliers, one, old.earlier.ok.0);
      last = omega (arith, s.lasts, there, old.last.ok.0);
      left = omega (arith, there, old.left.ok.0);
      vacant = some;
    }

pub walk-requires : goal.walk-requires
walk-requires c =
    let s = c.requires.seats in
    let adds = c.add_seat-seat.ensures.adds in
    let one = free_record_counts c.args.link_a.now c.args.ways.root c.requires.root.0 c.requires.root.1 in
    record {
      few = c.requires.in_range.few;
      in_range = c.requires.in_range.record_a;
      linked = c.requires.linked;
      tight = c.requires.tight;
      records = rw (c.deref_mut.ensures.value, adds.seat) s.seats;
      seats = rw (c.deref_mut.ensures.value, c.deref_mut-in-Some.ensures.value, adds.seat, adds.sitter) (λ a k on. omega (arith, (s.seated a k on).there, s.room, s.sitters));
      there = rw (c.deref_mut-in-Some.ensures.value, adds.sitter) (omega (arith, c.add_seat-seat.ensures.next, s.room, s.sitters, one));
      leads = rw c.in-Some.is at c.requires.leads;
    }

pub returns-in-Some : goal.returns-in-Some
returns-in-Some c =
    let es = c.args.net.edges.now in
    let la = c.args.link_a.now in
    let left = c.args.seats.now.left.items in
    let b = c.in-Some.b in
    let t = c.add_seat-seat.new.seats in
    let adds = c.add_seat-seat.ensures.adds in
    let w = c.walk.ensures in
    let some : 0 < number left b = rw c.in-Some.is at c.requires.free in
    record {
      rows_b = ap length adds.left ∙ length-set left b _;
      linked = w.linked;
      tight = w.tight;
      seats = rw (with_items_is t.seat c.walk.new.seat (omega (arith, c.walk.auto.seat, c.deref_mut.ensures.len)), with_items_is t.sitter c.walk.new.sitter (omega (arith, c.walk.auto.sitter, c.deref_mut-in-Some.ensures.len))) (seats_after_added es la c.walk.new.link_a (seating c.args.seats.now) (seating t) b c.walk.new.seat c.walk.new.sitter c.requires.seats adds (place_there left b some) (free_record_counts la c.args.ways.root c.requires.root.0 c.requires.root.1) w.rows_a w.room
          (rw c.deref_mut.ensures.value at c.walk.auto.seat) (rw c.deref_mut-in-Some.ensures.value at c.walk.auto.sitter)
          (λ h. w.seated t.owner.items t.count (rw (c.deref_mut.ensures.value, c.deref_mut-in-Some.ensures.value, c.add_seat-seat.ensures.next) h)));
      turned = record { count = w.rows_a; of_root = λ none. absurd (w.root_linked none); still = λ a none. inl (w.still_a a none) };
      vacant = λ x more. vacant_after_added left b some x (rw adds.left at more);
      places = rw adds.left (places_after_added es la c.walk.new.link_a left b some w.places);
    }

pub link_of-requires : goal.link_of-requires
link_of-requires c = rw c.in_default.is at c.requires.last

pub returns-in_default-link_of : goal.returns-in_default-link_of
returns-in_default-link_of c =
    let leads = rw c.in_default.is at c.requires.leads in
    record {
      rows_b = refl;
      linked = c.requires.linked;
      tight = c.requires.tight;
      seats = c.requires.seats;
      turned = record {
        count = refl;
        of_root = λ _. (ap is_some c.in_default.is, elim leads [ inl p ↦ sym p.0 | inr p ↦ absurd (let clash : None ≡ Some p.0 = sym c.in_default-link_of.is ∙ (c.link_of.ensures ∙ p.1.0) in cc) ]);
        still = λ a none. inl none;
      };
      vacant = λ b left. left;
      places = λ b. refl;
    }

pub bounds-net-k : goal.bounds-net-k
bounds-net-k c = (c.requires.linked c.args.last c.in-Some-link_of.k (sym c.link_of.ensures ∙ c.in-Some-link_of.is)).0

pub index-requires : goal.index-requires
index-requires c =
    let inside = rw c.in_default.is at c.requires.last in
    omega (arith, inside, c.requires.seats.seats, c.args.seats.now.seat.ok.0)

pub walk-requires-2 : goal.walk-requires-2
walk-requires-2 c =
    let es = c.args.net.edges.now in
    let la = c.args.link_a.now in
    let s = c.requires.seats in
    let last = c.args.last in
    let k = c.in-Some-link_of.k in
    let on = (sym c.link_of.ensures ∙ c.in-Some-link_of.is) in
    let inside = rw c.in_default.is at c.requires.last in
    let seat = c.args.seats.now.seat.items in
    let there : last < length seat = omega (arith, inside, s.seats) in
    let is : number seat last ≡ c.index.result.now = get_or_default seat last 0 c.index.result.now there ∙ sym c.index.ensures in
    let h = hole_parted es la _ _ _ _ last k inside on s.seated s.filled in
    let parted : AreLinked es (set la last c.none.result) = rw c.none.ensures (linked_parted es la last c.requires.linked inside) in
    let still_tight : AreTight es c.args.net.price_a.now c.args.net.price_b.now (set la last c.none.result) = rw c.none.ensures (λ j here. elim (link-set la last (edge es j).a None inside) [
      | inl p ↦ absurd (let clash : None ≡ Some j = sym p.1 ∙ here in cc)
      | inr p ↦ c.requires.tight j (sym p.1 ∙ here)
    ]) in
    let sits : (a j : ℕ) → link (set la last c.none.result) a ≡ Some j → number seat a < length c.args.seats.now.sitter.items = rw c.none.ensures (λ a j here. omega (arith, (h.seated a j here).there, s.room, s.sitters)) in
    let way : (n : ℕ) × LeadsBy c.args.net c.args.ways (set la last c.none.result) n (edge es k).b = rw c.none.ensures (leads_parted _ _ _ la _ _ _ last k on (rw c.in_default.is at c.requires.leads)) in
    record {
      few = c.requires.in_range.few;
      in_range = rw length-set c.requires.in_range.record_a;
      linked = parted;
      tight = still_tight;
      records = rw (c.deref_mut-2.ensures.value, length-set) s.seats;
      seats = rw (c.deref_mut-2.ensures.value, c.deref_mut-3.ensures.value) sits;
      there = rw c.deref_mut-3.ensures.value (omega (arith, is, h.there, s.room, s.sitters));
      leads = way;
    }

pub returns : goal.returns
returns c =
    let es = c.args.net.edges.now in
    let la = c.args.link_a.now in
    let s = c.args.seats.now in
    let k = c.in-Some-link_of.k in
    let on = (sym c.link_of.ensures ∙ c.in-Some-link_of.is) in
    let last = c.args.last in
    let walked : WalksBack es _ _ _ _ (set la last c.none.result) _ _ _ _ _ = c.walk-2.ensures in
    let w = rw c.none.ensures at walked in
    let inside = rw c.in_default.is at c.requires.last in
    let there : last < length s.seat.items = omega (arith, inside, c.requires.seats.seats) in
    let is : number s.seat.items last ≡ c.index.result.now = get_or_default s.seat.items last 0 c.index.result.now there ∙ sym c.index.ensures in
    let h : HasHole es (set la last None) s.seat.items s.sitter.items s.owner.items s.count (edge es k).b c.index.result.now = rw is at (hole_parted es la s.seat.items s.sitter.items s.owner.items s.count last k inside on c.requires.seats.seated c.requires.seats.filled) in
    record {
      rows_b = refl;
      linked = w.linked;
      tight = w.tight;
      seats = rw (with_items_is s.seat c.walk-2.new.seat (omega (arith, c.walk-2.auto.seat, c.deref_mut-2.ensures.len)), with_items_is s.sitter c.walk-2.new.sitter (omega (arith, c.walk-2.auto.sitter, c.deref_mut-3.ensures.len))) (seats_after_parted es la c.walk-2.new.link_a (seating s) c.walk-2.new.seat c.walk-2.new.sitter c.requires.seats (rw length-set at w.rows_a) (free_records_after_parted la c.walk-2.new.link_a last k on w.room)
          (rw c.deref_mut-2.ensures.value at c.walk-2.auto.seat) (rw c.deref_mut-3.ensures.value at c.walk-2.auto.sitter)
          (w.seated s.owner.items s.count (rw (c.deref_mut-2.ensures.value, c.deref_mut-3.ensures.value) h)));
      turned = record {
        count = w.rows_a ∙ length-set la last None;
        of_root = λ none. absurd (w.root_linked none);
        still = λ a none. elim (link-set la last a None inside) [
          | inl p ↦ inr (ap is_some c.in_default.is, p.0)
          | inr p ↦ inl (sym p.1 ∙ w.still_a a none)
        ];
      };
      vacant = λ b left. left;
      places = places_after_parted es la c.walk-2.new.link_a s.left.items last k on w.places;
    }
