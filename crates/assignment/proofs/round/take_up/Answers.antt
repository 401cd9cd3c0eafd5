use Rattle.std.proofs.Common.{length, ap, sym, ◌∙◌, arith, is_some}
use Rattle.std.proofs.lemmas.Bool.{false≢true}
use Rattle.assignment_steps.specs.Words.{not_linked, HasNoLink, spread, done_kept, falls_within, root_done, searchable, stop_free, stop_within, ways_after}
use Rattle.assignment.specs.Growth.{growth, with_waiting}
use Rattle.assignment.proofs.Growing.{between_after, between_kept, tight_after}
use Rattle.assignment.proofs.round.take_up.Goals.{else-bounded-via-then-bounded+else-tree-eq0, else-bounded-via-else-bounded, then-has_link-via-then-has_link, then-has_link-via-else-has_link+then-price_a-root-eq0}
use Rattle.assignment.proofs.round.take_up.Goals as goal

pub returns-then-tree-eq0-clause-takes : goal.returns-then-tree-eq0-clause-takes
returns-then-tree-eq0-clause-takes c = record { between = c.requires.between; kept = λ a old. old; done = λ left. absurd (left c.if-bounded.true c.if-tree-eq0.true); rest = c.requires.rest }

pub returns-then-has_link-clause-takes : goal.returns-then-has_link-clause-takes
returns-then-has_link-clause-takes c = record {
  between = c.requires.between;
  kept = λ a old. old;
  done = λ _ none. elim c.then-has_link.branch [
    | then-has_link-via-then-has_link w ↦ absurd (false≢true (sym (ap is_some none) ∙ (sym c.has_link.ensures ∙ w.if-has_link.true)))
    | then-has_link-via-else-has_link+then-price_a-root-eq0 w ↦ w.if-price_a-root-eq0.true
  ];
  rest = c.requires.rest;
}

pub search-requires-clause-ready : goal.search-requires-clause-ready
search-requires-clause-ready c =
    let w = c.requires.between in
    record {
      field = searchable _ _ _ w.priced c.requires.listed.begins c.requires.root (not_linked _ (sym c.has_link.ensures ∙ c.if-has_link.false));
      rising = c.requires.listed.rising;
      rows_b = w.rows_b;
      matched = w.matched;
    }

pub shift-requires : goal.shift-requires
shift-requires c = (let s = c.search.ensures in record { room = s.room; end = omega arith; noted_a = s.noted_a; noted_b = s.noted_b; falls = λ a. omega arith; small = c.requires.between.priced.small_b })

pub returns-in_default-clause-takes : goal.returns-in_default-clause-takes
returns-in_default-clause-takes c = record {
  between = between_kept c.args.edges.now _ _ _ _ c.args.link_a.now c.args.link_b.now c.shift.auto.price_a c.shift.auto.price_b (λ a. omega (arith, c.shift.ensures.shifts.price_a a)) (λ b. omega (arith, c.shift.ensures.shifts.price_b b)) c.requires.between;
  kept = λ a old none. omega (arith, old none, c.shift.ensures.shifts.price_a a);
  done = λ left. (let some = c.in_default.ensures.whole left in absurd (let none = c.in_default.is in cc));
  rest = record {
    clean = rw (c.shift.auto.price_a, c.shift.auto.price_b) c.shift.ensures.clean;
    queue = omega (arith, c.requires.rest.queue, c.search.ensures.queue, c.shift.ensures.shifts.queue);
  };
}

pub shift-requires-2 : goal.shift-requires-2
shift-requires-2 c =
    let s = c.search.ensures in
    let grown = c.in-Some.ensures.grown.1 in
    record {
      room = s.room;
      end = omega (arith, grown.stopped.before_best, grown.tree.spread.best_small);
      noted_a = s.noted_a;
      noted_b = s.noted_b;
      falls = falls_within _ _ _ _ _ grown.tree.spread grown.stopped.before_best;
      small = c.requires.between.priced.small_b;
    }

pub turn-requires : goal.turn-requires
turn-requires c =
    let s = c.search in
    let w = c.requires.between in
    let e = c.in-Some.grown in
    let grown = c.in-Some.ensures.grown in
    let g = with_waiting grown.0 (growth s.new.tree) in
    let falls = c.shift-2.ensures.shifts.price_a in
    let rises = c.shift-2.ensures.shifts.price_b in
    record {
      in_range = rw (w.priced.rows_a, w.rows_b) w.priced.in_range;
      matched = w.matched;
      tight = tight_after _ g e.end e.free e.last c.shift-2.new.price_a c.shift-2.new.price_b s.ensures.ready grown.1 falls rises w.priced.tight;
      last = stop_within (spread s.new.tree.reached) (HasNoLink c.args.link_b.now) e.end e.free e.last (length c.args.link_a.now) (omega (arith, s.ensures.room.of_a, s.new.tree.reached.dist_a.ok.0, w.priced.rows_a)) grown.1.stopped.stop;
      free = stop_free (spread s.new.tree.reached) (HasNoLink c.args.link_b.now) e.end e.free e.last grown.1.stopped.stop;
      leads = rw (c.deref.ensures.value, c.deref-2.ensures.value, c.shift-2.ensures.shifts.from, c.shift-2.ensures.shifts.rank)
          (ways_after _ g.spread _ e.end e.free e.last c.shift-2.new.price_a c.shift-2.new.price_b s.ensures.ready.field grown.1.tree.spread grown.1.stopped falls rises);
    }

pub returns-clause-takes : goal.returns-clause-takes
returns-clause-takes c =
    let s = c.search in
    let t = c.turn.ensures in
    let e = c.in-Some.grown in
    let grown = c.in-Some.ensures.grown in
    let g = with_waiting grown.0 (growth s.new.tree) in
    let falls = c.shift-2.ensures.shifts.price_a in
    let rises = c.shift-2.ensures.shifts.price_b in
    record {
      between = between_after _ g e.end e.free e.last c.shift-2.new.price_a c.shift-2.new.price_b s.ensures.ready grown.1 falls rises
          c.turn.new.link_a c.turn.new.link_b c.requires.listed.small c.requires.between c.shift-2.auto.price_a c.shift-2.auto.price_b t.turned.count t.rows_b t.matched t.tight t.still_b;
      kept = done_kept _ g.spread _ e.end e.free e.last c.shift-2.new.price_a c.shift-2.new.price_b s.ensures.ready.field grown.1.tree.spread grown.1.stopped falls rises c.turn.new.link_a t.turned;
      done = λ _. root_done _ g.spread _ e.end e.free e.last c.shift-2.new.price_a c.shift-2.new.price_b s.ensures.ready.field grown.1.tree.spread grown.1.stopped falls rises c.turn.new.link_a t.turned;
      rest = record {
        clean = rw (c.shift-2.auto.price_a, c.shift-2.auto.price_b) c.shift-2.ensures.clean;
        queue = omega (arith, c.requires.rest.queue, s.ensures.queue, c.shift-2.ensures.shifts.queue);
      };
    }

pub returns-clause-before : goal.returns-clause-before
returns-clause-before c _ on spent = elim c.else-bounded.branch [
  | else-bounded-via-then-bounded+else-tree-eq0 w ↦ absurd (w.if-tree-eq0.false spent)
  | else-bounded-via-else-bounded w ↦ absurd (let off = w.if-bounded.false in cc)
]

pub returns-in_default-clause-before : goal.returns-in_default-clause-before
returns-in_default-clause-before c _ on spent = elim c.else-bounded.branch [
  | else-bounded-via-then-bounded+else-tree-eq0 w ↦ absurd (w.if-tree-eq0.false spent)
  | else-bounded-via-else-bounded w ↦ absurd (let off = w.if-bounded.false in cc)
]
