use Rattle.std.proofs.Common.{length, ◌+◌, ◌<◌, refl, sym, ap, arith}
use Rattle.capacity_assign.specs.Growth.{growth}
use Rattle.assignment_steps.specs.Words.{IsNearer, edge_of, spread, distance, far, left_later, left_relaxed, room_at, room_own}
use Rattle.capacity_assign.proofs.Growing.{tree_passed, tree_reached}
use Rattle.capacity_assign.proofs.grow.relax.Goals as goal

pub nearer_over-requires : goal.nearer_over-requires
nearer_over-requires c = (let g = c.requires.grows in record { place = c.requires.place; ready = g.ready.field; room = g.room; near = omega (arith, c.requires.last, g.tree.spread.now, g.tree.spread.best_small) })

pub returns-in_default : goal.returns-in_default
returns-in_default c =
    let t = c.args.tree.now in
    let f = c.args.ground in
    let k = c.args.k in
    let fewer = left_later f.field.edges.now t.reached.dist_a.items (edge_of f.field k).a k (k + 1) (omega arith) in
    record {
      grows = record { tree = tree_passed f k (growth t) c.requires.grows.tree (rw c.in_default.is at c.nearer_over.ensures); room = c.requires.grows.room; work = omega (arith, fewer); queue = omega arith; held = refl };
      current = refl;
      dist_a = refl;
    }

pub index-requires : goal.index-requires
index-requires c = omega (arith, c.requires.grows.ready.field.in_range.record_b c.args.k c.requires.place, c.requires.grows.ready.rows_b)

pub reach-requires : goal.reach-requires
reach-requires c =
    let t = c.args.tree.now in
    let f = c.args.ground in
    let k = c.args.k in
    let r = c.requires.grows.room in
    let inside = c.requires.grows.ready.field.in_range.record_b k c.requires.place in
    let nearer : IsNearer f.field (spread t.reached) k c.in-Some.far = rw c.in-Some.is at c.nearer_over.ensures in
    let near : distance t.reached.dist_a.items (edge_of f.field k).a < far = omega (arith, c.requires.last, c.requires.grows.tree.spread.now, c.requires.grows.tree.spread.best_small) in
    let one = left_relaxed f.field.edges.now t.reached.dist_a.items k c.requires.place near in
    record {
      within = omega (arith, inside, r.of_b);
      room = room_own _ _ t.reached r;
      near = nearer.near;
      queue = omega (arith, one, c.requires.grows.queue);
    }

pub returns : goal.returns
returns c =
    let t = c.args.tree.now in
    let f = c.args.ground in
    let k = c.args.k in
    let b = (edge_of f.field k).b in
    let r = c.requires.grows.room in
    let e = c.reach.ensures in
    let records : b < length t.reached.dist_b.items = omega (arith, c.requires.grows.ready.field.in_range.record_b k c.requires.place, r.of_b, t.reached.dist_b.ok.0) in
    let nearer : IsNearer f.field (spread t.reached) k c.in-Some.far = rw c.in-Some.is at c.nearer_over.ensures in
    let near : distance t.reached.dist_a.items (edge_of f.field k).a < far = omega (arith, c.requires.last, c.requires.grows.tree.spread.now, c.requires.grows.tree.spread.best_small) in
    let one = left_relaxed f.field.edges.now t.reached.dist_a.items k c.requires.place near in
    record {
      grows = record {
        tree = tree_reached f k (growth t) (growth (record t { reached = c.reach.new.self })) c.in-Some.far c.requires.place c.requires.grows.ready c.requires.grows.tree c.requires.last nearer records (omega (arith, r.of_b, r.of_from, t.reached.dist_b.ok.0, t.reached.from.ok.0)) (r.top b) (ap (λ u. u.best) e.rest) (ap (λ u. u.best_record) e.rest) refl e.shortens;
        room = room_at _ _ _ _ c.reach.new.self (sym r.of_a) (sym r.of_b) e.room;
        work = rw e.shortens.da (omega (arith, one, e.count));
        queue = e.queue;
        held = refl;
      };
      current = e.shortens.current;
      dist_a = e.shortens.da;
    }
