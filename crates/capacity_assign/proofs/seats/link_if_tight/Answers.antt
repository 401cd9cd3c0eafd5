use Rattle.std.proofs.Common.{◌≡◌, ◌<◌, ◌∙◌, None, Some, length, refl, ap, arith, sym, get_or-set_same, is_some}
use Rattle.std.proofs.lemmas.Bool.{false≢true}
use Rattle.std.proofs.lemmas.List.{get_or_read, with_items_is}
use Rattle.assignment_steps.specs.Words.{edge, link, number, none_before, not_linked}
use Rattle.capacity_assign.specs.Seating.{seating}
use Rattle.capacity_assign.proofs.Links.{between_linked, places_linked, still_none, free_record_counts}
use Rattle.capacity_assign.proofs.seats.link_if_tight.Goals as goal

pub index-requires : goal.index-requires
index-requires c =
    let w = c.requires.between in
    omega (arith, w.priced.in_range.record_b c.args.k c.requires.place, w.rows_b, c.args.seats.now.left.ok.0)

pub returns-then-has_link : goal.returns-then-has_link
returns-then-has_link c = record {
  between = c.requires.between;
  places = λ b. refl;
  settled = λ tight none. absurd (false≢true (sym (ap is_some none) ∙ sym c.if-has_link.ensures));
  kept = λ a none. none;
  fewer = λ b none. none;
}

pub returns-then-index-eq0 : goal.returns-then-index-eq0
returns-then-index-eq0 c =
    let w = c.requires.between in
    let b = (edge c.args.net.edges.now c.args.k).b in
    let left = c.args.seats.now.left.items in
    let there : b < length left = omega (arith, w.priced.in_range.record_b c.args.k c.requires.place, w.rows_b) in
    let read = get_or_read left b c.index.result.now there c.index.ensures 0 in
    record {
      between = w;
      places = λ x. refl;
      settled = λ tight none. sym read ∙ c.if-index-eq0.true;
      kept = λ a none. none;
      fewer = λ x none. none;
    }

pub returns-then-net-a : goal.returns-then-net-a
returns-then-net-a c = record {
  between = c.requires.between;
  places = λ b. refl;
  settled = λ tight none. absurd (c.if-net-a.true tight);
  kept = λ a none. none;
  fewer = λ b none. none;
}

pub add_seat-free-requires : goal.add_seat-free-requires
add_seat-free-requires c =
    let w = c.requires.between in
    let s = w.seated in
    let seats = c.args.seats.now in
    let la = c.args.link_a.now in
    let e = edge c.args.net.edges.now c.args.k in
    let none : link la e.a ≡ None = not_linked (link la e.a) (sym c.if-has_link.ensures) in
    let ra : e.a < length la = omega (arith, w.priced.in_range.record_a c.args.k c.requires.place, w.priced.rows_a) in
    let there : e.b < length seats.left.items = omega (arith, w.priced.in_range.record_b c.args.k c.requires.place, w.rows_b) in
    let read = get_or_read seats.left.items e.b c.index.result.now there c.index.ensures 0 in
    let one = free_record_counts la e.a ra none in
    record {
      owner = omega (arith, s.room, s.owners, one, seats.owner.ok.0);
      earlier = omega (arith, s.room, s.earliers, one, seats.earlier.ok.0);
      last = omega (arith, s.lasts, there, seats.last.ok.0);
      left = omega (arith, there, seats.left.ok.0);
      vacant = omega (arith, read, c.if-index-eq0.false);
    }

pub reseat-requires : goal.reseat-requires
reseat-requires c =
    let w = c.requires.between in
    let s = w.seated in
    let la = c.args.link_a.now in
    let adds = c.add_seat-free.ensures.adds in
    let a = (edge c.args.net.edges.now c.args.k).a in
    let ra : a < length la = omega (arith, w.priced.in_range.record_a c.args.k c.requires.place, w.priced.rows_a) in
    let one = free_record_counts la a ra (not_linked (link la a) (sym c.if-has_link.ensures)) in
    record {
      place = c.requires.place;
      few = w.priced.in_range.few;
      in_range = ra;
      linked = w.priced.linked;
      records = rw (c.deref_mut.ensures.value, adds.seat) s.seats;
      free = rw (c.deref_mut-2.ensures.value, adds.sitter) (omega (arith, c.add_seat-free.ensures.next, s.room, s.sitters, one));
    }

pub returns : goal.returns
returns c =
    let es = c.args.net.edges.now in
    let k = c.args.k in
    let e = edge es k in
    let la = c.args.link_a.now in
    let w = c.requires.between in
    let old = c.args.seats.now in
    let t = c.add_seat-free.new.seats in
    let adds = c.add_seat-free.ensures.adds in
    let r = c.reseat.ensures in
    let none : link la e.a ≡ None = not_linked (link la e.a) (sym c.if-has_link.ensures) in
    let ra : e.a < length la = omega (arith, w.priced.in_range.record_a k c.requires.place, w.priced.rows_a) in
    let there : e.b < length old.left.items = omega (arith, w.priced.in_range.record_b k c.requires.place, w.rows_b) in
    let read = get_or_read old.left.items e.b c.index.result.now there c.index.ensures 0 in
    let some : 0 < number old.left.items e.b = omega (arith, read, c.if-index-eq0.false) in
    let seat_is = rw (c.deref_mut.ensures.value, c.add_seat-free.ensures.next) at r.seats in
    let sitter_is = rw (c.deref_mut-2.ensures.value, c.add_seat-free.ensures.next) at r.sitters in
    record {
      between = rw (with_items_is t.seat c.reseat.new.seat (omega (arith, c.reseat.auto.seat, c.deref_mut.ensures.len)), with_items_is t.sitter c.reseat.new.sitter (omega (arith, c.reseat.auto.sitter, c.deref_mut-2.ensures.len)), r.links, seat_is, sitter_is)
          (between_linked es c.args.net.price_a.now c.args.net.price_b.now la (seating old) (seating t) k w c.requires.place none some adds (omega (arith, c.if-net-a.false)));
      places = rw r.links (places_linked es c.args.net.price_a.now c.args.net.price_b.now la (seating old) (seating t) k w c.requires.place none some adds);
      settled = λ tight free. absurd (let clash : Some k ≡ None = sym (get_or-set_same la e.a (Some k) None ra) ∙ (rw r.links at free) in cc);
      kept = λ a free. none_before la e.a a k ra (rw r.links at free);
      fewer = λ b full. rw adds.left (still_none old.left.items e.b b _ some full);
    }
