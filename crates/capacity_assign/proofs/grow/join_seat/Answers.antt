use Rattle.std.proofs.Common.{◌≡◌, ◌<◌, length, sym, ap, ◌∙◌, refl, arith}
use Rattle.std.proofs.lemmas.List.{get_or_read, get_or-set_same}
use Rattle.capacity_assign.specs.Growth.{IsTree, Joins, growth}
use Rattle.assignment_steps.specs.Words.{edge_of, distance, far, left, left_joined, left_any}
use Rattle.capacity_assign.proofs.Growing.{at_seat, joins_stays, tree_joining, tree_any}
use Rattle.capacity_assign.proofs.grow.join_seat.Goals as goal

pub index-position-requires : goal.index-position-requires
index-position-requires c = (let r = c.requires.grows.ready in omega (arith, c.requires.seat, r.seats, r.seated.room, r.field.rows_a))

pub index-requires : goal.index-requires
index-requires c =
    let at = at_seat c.args.ground c.args.n c.index-position.result.now c.requires.grows.ready c.requires.seat c.index-position.ensures in
    omega (arith, at.inside, c.requires.grows.room.of_a)

pub returns-then-index-ne-FARTHEST : goal.returns-then-index-ne-FARTHEST
returns-then-index-ne-FARTHEST c =
    let t = c.args.tree.now in
    let g = c.requires.grows in
    let position = c.index-position.result.now in
    let at = at_seat c.args.ground c.args.n position g.ready c.requires.seat c.index-position.ensures in
    let records : position < length t.reached.dist_a.items = omega (arith, at.inside, g.room.of_a, t.reached.dist_a.ok.0) in
    let read = get_or_read t.reached.dist_a.items position c.index.result.now records c.index.ensures far in
    record {
      grows = record { tree = g.tree; room = g.room; work = omega arith; queue = omega arith; held = refl };
      current = refl;
      stays = λ a near. near;
      joined = rw at.is (omega (arith, read, g.room.top_a position, c.if-index-ne-FARTHEST.true));
    }

pub join-requires : goal.join-requires
join-requires c =
    let t = c.args.tree.now in
    let g = c.requires.grows in
    let position = c.index-position.result.now in
    let at = at_seat c.args.ground c.args.n position g.ready c.requires.seat c.index-position.ensures in
    let records : position < length t.reached.dist_a.items = omega (arith, at.inside, g.room.of_a, t.reached.dist_a.ok.0) in
    let read = get_or_read t.reached.dist_a.items position c.index.result.now records c.index.ensures far in
    record {
      ready = g.ready;
      in_range = at.inside;
      small = omega (arith, g.tree.spread.now, g.tree.spread.best_small);
      room = g.room;
      new = sym read ∙ c.if-index-ne-FARTHEST.false;
    }

pub relax_joined-requires : goal.relax_joined-requires
relax_joined-requires c =
    let t = c.args.tree.now in
    let f = c.args.ground in
    let es = f.field.edges.now in
    let g = c.requires.grows in
    let position = c.index-position.result.now in
    let at = at_seat f c.args.n position g.ready c.requires.seat c.index-position.ensures in
    let k = at.edge_there in
    let records : position < length t.reached.dist_a.items = omega (arith, at.inside, g.room.of_a, t.reached.dist_a.ok.0) in
    let ranks : position < length t.reached.rank.items = omega (arith, at.inside, g.room.of_rank, t.reached.rank.ok.0) in
    let read = get_or_read t.reached.dist_a.items position c.index.result.now records c.index.ensures far in
    let new : distance t.reached.dist_a.items position ≡ far = sym read ∙ c.if-index-ne-FARTHEST.false in
    let near : t.reached.current < far = omega (arith, g.tree.spread.now, g.tree.spread.best_small) in
    let e = c.join.ensures in
    let joins : Joins f (growth t) (growth c.join.new.tree) position t.reached.current = e.joins in
    let made : IsTree f (edge_of f.field k).a 0 (growth c.join.new.tree) = tree_joining f 0 (growth t) (growth c.join.new.tree) k t.reached.current g.ready g.tree (rw at.record_a new) (rw at.record_a records) (rw at.record_a ranks) at.on (rw at.owned c.requires.owned) refl (rw at.record_a joins) in
    let same : left es c.join.new.tree.reached.dist_a.items position 0 ≡ left es t.reached.dist_a.items 0 (length es) = rw e.joins.spread.da (left_joined es t.reached.dist_a.items position 0 t.reached.current records new near) in
    record {
      inside = at.inside;
      last = rw (e.joins.spread.da, e.joins.spread.current) (get_or-set_same t.reached.dist_a.items position t.reached.current far records);
      grows = record { ready = g.ready; tree = rw at.record_a at made; room = e.room; queue = omega (arith, same, g.queue, ap (λ q. q.count) e.queue, ap (λ q. q.room) e.queue) };
    }

pub returns : goal.returns
returns c =
    let t = c.args.tree.now in
    let es = c.args.ground.field.edges.now in
    let g = c.requires.grows in
    let position = c.index-position.result.now in
    let at = at_seat c.args.ground c.args.n position g.ready c.requires.seat c.index-position.ensures in
    let records : position < length t.reached.dist_a.items = omega (arith, at.inside, g.room.of_a, t.reached.dist_a.ok.0) in
    let read = get_or_read t.reached.dist_a.items position c.index.result.now records c.index.ensures far in
    let new : distance t.reached.dist_a.items position ≡ far = sym read ∙ c.if-index-ne-FARTHEST.false in
    let near : t.reached.current < far = omega (arith, g.tree.spread.now, g.tree.spread.best_small) in
    let e = c.join.ensures in
    let r = c.relax_joined.ensures in
    let same : left es c.join.new.tree.reached.dist_a.items position 0 ≡ left es t.reached.dist_a.items 0 (length es) = rw e.joins.spread.da (left_joined es t.reached.dist_a.items position 0 t.reached.current records new near) in
    let any = left_any es c.relax_joined.new.tree.reached.dist_a.items position 0 in
    record {
      grows = record {
        tree = tree_any c.args.ground _ 0 _ r.grows.tree;
        room = r.grows.room;
        work = omega (arith, same, any, r.grows.work, ap (λ q. q.count) e.queue);
        queue = omega (arith, r.grows.queue, ap (λ q. q.room) e.queue);
        held = r.grows.held ∙ e.joins.held;
      };
      current = r.current ∙ e.joins.spread.current;
      stays = rw r.dist_a (joins_stays c.args.ground (growth t) (growth c.join.new.tree) position t.reached.current e.joins records near);
      joined = rw (at.is, r.dist_a, e.joins.spread.da, get_or-set_same t.reached.dist_a.items position t.reached.current far records) near;
    }
