use Rattle.std.proofs.Common.{◌<◌, ◌∙◌, length, refl, ap, arith, get_or-set_same}
use Rattle.assignment_steps.specs.Words.{far, left_any, left_few, room_kept}
use Rattle.capacity_assign.specs.Growth.{growth}
use Rattle.capacity_assign.proofs.Growing.{tree_any, tree_planted}
use Rattle.capacity_assign.proofs.grow.search.Goals as goal

pub join-requires : goal.join-requires
join-requires c =
    let clean = c.requires.rest.clean in
    record {
      ready = c.requires.ready;
      in_range = c.requires.ready.field.root_in;
      small = omega arith;
      room = room_kept _ _ c.args.tree.now.reached _ _ _ _ clean.room;
      new = clean.da c.args.ground.field.root;
    }

pub relax_record-requires : goal.relax_record-requires
relax_record-requires c =
    let r = c.args.tree.now.reached in
    let ready = c.requires.ready in
    let clean = c.requires.rest.clean in
    let root = c.args.ground.field.root in
    let e = c.join.ensures in
    let rows_a : root < length r.dist_a.items = omega (arith, ready.field.root_in, clean.room.of_a, r.dist_a.ok.0) in
    let ranks_a : root < length r.rank.items = omega (arith, ready.field.root_in, clean.room.of_rank, r.rank.ok.0) in
    let few = left_few c.args.ground.field.edges.now c.join.new.tree.reached.dist_a.items root 0 in
    record {
      inside = ready.field.root_in;
      last = rw (e.joins.spread.da, e.joins.spread.current) (get_or-set_same r.dist_a.items root 0 far rows_a);
      grows = record {
        ready = ready;
        tree = tree_planted c.args.ground _ (growth c.join.new.tree) ready clean.da clean.db clean.frontier rows_a ranks_a refl refl e.joins;
        room = e.room;
        queue = omega (arith, few, c.requires.rest.queue, clean.empty, ap (λ q. q.count) e.queue, ap (λ q. q.room) e.queue);
      };
    }

pub grow-requires : goal.grow-requires
grow-requires c =
    let root = c.args.ground.field.root in
    let few = left_few c.args.ground.field.edges.now c.join.new.tree.reached.dist_a.items root 0 in
    let any = left_any c.args.ground.field.edges.now c.relax_record.new.tree.reached.dist_a.items root 0 in
    let q = c.join.ensures.queue in
    let g = c.relax_record.ensures.grows in
    record {
      held = g.held ∙ c.join.ensures.joins.held;
      grows = record {
        ready = c.requires.ready;
        tree = tree_any c.args.ground root 0 _ g.tree;
        room = g.room;
        queue = omega (arith, few, any, g.work, g.queue, c.requires.rest.queue, c.requires.rest.clean.empty, ap (λ q. q.count) q, ap (λ q. q.room) q);
      };
    }

pub returns : goal.returns
returns c =
    let g = c.grow.ensures in
    record { ready = g.ready; grown = g.grown; room = g.room; queue = omega (arith, g.queue, c.relax_record.ensures.grows.queue, ap (λ q. q.room) c.join.ensures.queue) }
