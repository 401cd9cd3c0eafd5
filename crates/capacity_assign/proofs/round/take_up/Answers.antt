use Rattle.std.proofs.Common.{◌+◌, length, refl, ap, sym, ◌∙◌, arith, is_some}
use Rattle.std.proofs.lemmas.Bool.{false≢true}
use Rattle.assignment_steps.specs.Words.{link, not_linked, one_more_done, done_kept, falls_within, root_done, searchable, stop_free, stop_within, ways_after, spread}
use Rattle.capacity_assign.specs.Growth.{growth, with_waiting}
use Rattle.capacity_assign.specs.Seating.{HasPlace, seating}
use Rattle.capacity_assign.proofs.Growing.{between_after, between_any, tight_after}
use Rattle.capacity_assign.proofs.round.take_up.Goals as goal

pub returns-then-has_link : goal.returns-then-has_link
returns-then-has_link c =
    let w = c.requires.between in
    let root = c.args.root in
    record {
      advances = record {
        between = between_any _ _ _ _ _ root (root + 1) w (one_more_done _ _ _ _ root (λ a done. done) w.priced.free_a (λ none. absurd (false≢true (sym (ap is_some none) ∙ sym c.if-has_link.ensures))));
        places = λ b. refl;
      };
      tree = c.requires.tree;
    }

pub search-grown-requires : goal.search-grown-requires
search-grown-requires c =
    let w = c.requires.between in
    let s = c.args.seats.now in
    record {
      ready = record {
        field = searchable _ _ _ w.priced c.requires.listed.begins c.requires.root (not_linked (link c.args.link_a.now c.args.root) (sym c.if-has_link.ensures));
        rising = c.requires.listed.rising;
        rows_b = omega (arith, w.rows_b, s.left.ok.0);
        lasts = omega (arith, w.seated.lasts, w.rows_b, s.last.ok.0);
        seats = omega (arith, w.seated.sitters, w.priced.rows_a, s.sitter.ok.0);
        earliers = omega (arith, w.seated.earliers, w.priced.rows_a, s.earlier.ok.0);
        seated = w.seated;
        alike = c.requires.alike;
      };
      rest = c.requires.tree;
    }

pub shift-requires : goal.shift-requires
shift-requires c =
    let grown = c.search-grown.ensures.grown.1 in
    record {
      room = c.search-grown.ensures.room;
      end = omega (arith, grown.stopped.before_best, grown.tree.spread.best_small);
      noted_a = grown.tree.spread.noted_a;
      noted_b = grown.tree.spread.noted_b;
      falls = falls_within _ _ _ _ _ grown.tree.spread grown.stopped.before_best;
      small = c.requires.between.priced.small_b;
    }

pub turn-requires : goal.turn-requires
turn-requires c =
    let s = c.search-grown in
    let w = c.requires.between in
    let g = with_waiting s.ensures.grown.0 (growth s.new.tree) in
    let falls = c.shift.ensures.shifts.price_a in
    let rises = c.shift.ensures.shifts.price_b in
    record {
      in_range = rw (w.priced.rows_a, w.rows_b) w.priced.in_range;
      linked = w.priced.linked;
      tight = tight_after _ g s.result.end s.result.free s.result.last c.shift.new.price_a c.shift.new.price_b s.ensures.ready s.ensures.grown.1 falls rises w.priced.tight;
      seats = w.seated;
      root = (omega (arith, c.requires.root, w.priced.rows_a), (not_linked (link c.args.link_a.now c.args.root) (sym c.if-has_link.ensures)));
      last = stop_within (spread s.new.tree.reached) (HasPlace c.args.seats.now.left.items) s.result.end s.result.free s.result.last (length c.args.link_a.now) (omega (arith, s.ensures.room.of_a, s.new.tree.reached.dist_a.ok.0, w.priced.rows_a)) s.ensures.grown.1.stopped.stop;
      free = stop_free (spread s.new.tree.reached) (HasPlace c.args.seats.now.left.items) s.result.end s.result.free s.result.last s.ensures.grown.1.stopped.stop;
      leads = rw (c.deref.ensures.value, c.deref-2.ensures.value, c.shift.ensures.shifts.from, c.shift.ensures.shifts.rank)
          (ways_after _ g.spread _ s.result.end s.result.free s.result.last c.shift.new.price_a c.shift.new.price_b s.ensures.ready.field s.ensures.grown.1.tree.spread s.ensures.grown.1.stopped falls rises);
    }

pub returns : goal.returns
returns c =
    let s = c.search-grown in
    let t = c.turn.ensures in
    let old = c.requires.between in
    let root = c.args.root in
    let g = with_waiting s.ensures.grown.0 (growth s.new.tree) in
    let falls = c.shift.ensures.shifts.price_a in
    let rises = c.shift.ensures.shifts.price_b in
    let between = between_after _ g s.result.end s.result.free s.result.last c.shift.new.price_a c.shift.new.price_b s.ensures.ready s.ensures.grown.1 falls rises
    c.turn.new.link_a (seating c.turn.new.seats) c.requires.listed.small (between_any _ _ _ _ _ root 0 old (λ a low none. absurd (omega (arith, low)))) c.shift.auto.price_a c.shift.auto.price_b t.turned.count t.rows_b t.linked t.tight t.seats t.vacant t.places in
    let kept = done_kept _ g.spread _ s.result.end s.result.free s.result.last c.shift.new.price_a c.shift.new.price_b s.ensures.ready.field s.ensures.grown.1.tree.spread s.ensures.grown.1.stopped falls rises c.turn.new.link_a t.turned in
    let done = root_done _ g.spread _ s.result.end s.result.free s.result.last c.shift.new.price_a c.shift.new.price_b s.ensures.ready.field s.ensures.grown.1.tree.spread s.ensures.grown.1.stopped falls rises c.turn.new.link_a t.turned in
    record {
      advances = record { between = between_any _ _ _ _ _ 0 _ between (one_more_done _ _ _ _ root kept old.priced.free_a done); places = t.places };
      tree = record {
        clean = rw (c.shift.auto.price_a, c.shift.auto.price_b) c.shift.ensures.clean;
        queue = omega (arith, c.requires.tree.queue, s.ensures.queue, c.shift.ensures.shifts.queue);
      };
    }
