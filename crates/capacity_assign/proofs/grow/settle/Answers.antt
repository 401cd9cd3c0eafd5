use Rattle.std.proofs.Common.{Some, ◌≡◌, ◌<◌, None, length, refl, ap, sym, ◌∙◌, arith}
use Rattle.std.proofs.lemmas.List.{get_or_default}
use Rattle.assignment_steps.specs.Words.{link, number, room_kept}
use Rattle.capacity_assign.specs.Growth.{growth}
use Rattle.capacity_assign.specs.Seating.{IsLastSeat}
use Rattle.capacity_assign.proofs.Growing.{grown_holding, last_past, last_within, past_more, steps_fewer, tree_held, tree_let_go}
use Rattle.capacity_assign.proofs.grow.settle.Goals as goal

pub loop-next-init : goal.loop-next-init
loop-next-init c =
    let s = c.args.ground.seats.now in
    let b = c.args.near.position in
    let r = c.requires in
    let there : b < length s.last.items = omega (arith, c.requires.inside, c.requires.ready.lasts, s.last.ok.0) in
    let is : link s.last.items b ≡ c.index-next.result.now = get_or_default s.last.items b None c.index-next.result.now there ∙ sym c.index-next.ensures in
    let last : IsLastSeat s.owner.items s.count b c.index-next.result.now = rw is at (c.requires.ready.seated.chains.last b) in
    record {
      held = refl;
      current = refl;
      tree = tree_held c.args.ground 0 (length c.args.ground.field.edges.now) (growth c.args.tree.now) c.args.near r.tree r.held r.nearest r.useful r.exact r.full;
      room = room_kept _ _ c.args.tree.now.reached _ _ _ _ r.room;
      fits = r.queue;
      work = omega arith;
      queue = omega arith;
      within = λ n e. last_within s.owner.items s.count b c.index-next.result.now n last e;
      done = λ k on ends past. (let mine = c.requires.ready.seated.seated _ k on in absurd (last_past s.owner.items s.count b c.index-next.result.now _ last mine.there (mine.owned ∙ ends) past));
    }

pub index-next-requires : goal.index-next-requires
index-next-requires c = omega (arith, c.requires.inside, c.requires.ready.lasts)

pub join_seat-requires : goal.join_seat-requires
join_seat-requires c =
    let i = c.loop-next.invariant in
    let w = i.within c.in-Some.n c.in-Some.is in
    record {
      seat = w.0;
      owned = i.held ∙ ap Some (sym w.1);
      grows = record { ready = c.requires.ready; tree = i.tree; room = i.room; queue = i.fits };
    }

pub index-next-requires-in-Some : goal.index-next-requires-in-Some
index-next-requires-in-Some c =
    let w = c.loop-next.invariant.within c.in-Some.n c.in-Some.is in
    omega (arith, w.0, c.requires.ready.seated.room, c.requires.ready.field.rows_a, c.requires.ready.earliers)

pub loop-next-smaller : goal.loop-next-smaller
loop-next-smaller c =
    let s = c.args.ground.seats.now in
    let n = c.in-Some.n in
    let w = c.loop-next.invariant.within n c.in-Some.is in
    let there : n < length s.earlier.items = omega (arith, w.0, c.requires.ready.seated.room, c.requires.ready.seated.earliers) in
    let is : link s.earlier.items n ≡ c.index-next-in-Some.result.now = get_or_default s.earlier.items n None c.index-next-in-Some.result.now there ∙ sym c.index-next-in-Some.ensures in
    let last : IsLastSeat s.owner.items n (number s.owner.items n) c.index-next-in-Some.result.now = rw is at (c.requires.ready.seated.chains.earlier n w.0) in
    rw c.in-Some.is (steps_fewer s.owner.items n (number s.owner.items n) c.index-next-in-Some.result.now last)

pub loop-next-preserved : goal.loop-next-preserved
loop-next-preserved c =
    let s = c.args.ground.seats.now in
    let n = c.in-Some.n in
    let i = c.loop-next.invariant in
    let e = c.join_seat.ensures in
    let g = e.grows in
    let w = i.within n c.in-Some.is in
    let there : n < length s.earlier.items = omega (arith, w.0, c.requires.ready.seated.room, c.requires.ready.seated.earliers) in
    let is : link s.earlier.items n ≡ c.index-next-in-Some.result.now = get_or_default s.earlier.items n None c.index-next-in-Some.result.now there ∙ sym c.index-next-in-Some.ensures in
    let last : IsLastSeat s.owner.items n c.args.near.position c.index-next-in-Some.result.now = rw (is, w.1) at (c.requires.ready.seated.chains.earlier n w.0) in
    record {
      held = g.held ∙ i.held;
      current = e.current ∙ i.current;
      tree = g.tree;
      room = g.room;
      fits = omega (arith, g.work, g.queue, i.fits);
      work = omega (arith, g.work, i.work);
      queue = omega (arith, g.queue, i.queue);
      within = λ m q. (let p = last_within s.owner.items n c.args.near.position c.index-next-in-Some.result.now m last q in (omega (arith, p.0, w.0), p.1));
      done = past_more c.args.ground c.loop-next.tree.reached.dist_a.items c.join_seat.new.tree.reached.dist_a.items c.args.near.position n c.index-next-in-Some.result.now c.requires.ready last (rw c.in-Some.is at i.done) e.stays e.joined;
    }

pub returns-then-tree-near : goal.returns-then-tree-near
returns-then-tree-near c =
    let i = c.loop-next.invariant in
    record {
      tree = grown_holding c.args.ground (growth c.loop-next.tree) c.args.near.position i.tree i.held (omega (arith, i.current, c.if-tree-near.true));
      held = tt;
      room = i.room;
      work = i.work;
      queue = i.queue;
    }

pub returns : goal.returns
returns c =
    let i = c.loop-next.invariant in
    let r = i.room in
    record {
      tree = tree_let_go c.args.ground 0 (length c.args.ground.field.edges.now) (growth c.loop-next.tree) c.args.near.position i.tree i.held (λ k on ends. rw c.in_default.is at i.done k on ends tt);
      held = refl;
      room = r;
      work = i.work;
      queue = i.queue;
    }
