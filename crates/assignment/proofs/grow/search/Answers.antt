use Rattle.std.proofs.Common.{◌<◌, length, refl, ap, arith, get_or-set_same}
use Rattle.assignment_steps.specs.Words.{far, left_any, left_few, room_kept}
use Rattle.assignment.specs.Growth.{growth}
use Rattle.assignment.proofs.Growing.{tree_any, tree_planted}
use Rattle.assignment.proofs.grow.search.Goals as goal

pub join-requires-clause-room : goal.join-requires-clause-room
join-requires-clause-room c = room_kept _ _ c.args.tree.now.reached _ _ _ _ c.requires.rest.clean.room

pub relax_record-requires : goal.relax_record-requires
relax_record-requires c =
    let r = c.args.tree.now.reached in
    let ready = c.requires.ready in
    let clean = c.requires.rest.clean in
    let root = c.args.ground.field.root in
    let e = c.join.ensures in
    let rows_a : root < length r.dist_a.items = omega (arith, ready.field.root_in, clean.room.of_a, r.dist_a.ok.0) in
    let ranks_a : root < length r.rank.items = omega (arith, ready.field.root_in, clean.room.of_rank, r.rank.ok.0) in
    let few = left_few c.args.ground.field.edges.now c.join.new.tree.reached.dist_a.items root 0 in
    record {
      within = ready.field.root_in;
      last = rw (e.joins.spread.da, e.joins.spread.current) (get_or-set_same r.dist_a.items root 0 far rows_a);
      grows = record {
        ready = ready;
        tree = tree_planted c.args.ground _ (growth c.join.new.tree) ready clean.da clean.db clean.frontier rows_a ranks_a refl e.joins;
        room = e.room;
        queue = omega (arith, few, c.requires.rest.queue, clean.empty, ap (λ q. q.count) e.queue, ap (λ q. q.room) e.queue);
      };
    }

pub grow-requires : goal.grow-requires
grow-requires c =
    let root = c.args.ground.field.root in
    let few = left_few c.args.ground.field.edges.now c.join.new.tree.reached.dist_a.items root 0 in
    let any = left_any c.args.ground.field.edges.now c.relax_record.new.tree.reached.dist_a.items root 0 in
    let q = c.join.ensures.queue in
    let e = c.relax_record.ensures in
    record {
      ready = c.requires.ready;
      tree = tree_any c.args.ground root 0 _ e.tree;
      room = e.room;
      queue = omega (arith, few, any, e.work, e.queue, c.requires.rest.queue, c.requires.rest.clean.empty, ap (λ q. q.count) q, ap (λ q. q.room) q);
    }

pub returns : goal.returns
returns c =
    let g = c.grow.ensures in
    record {
      ready = g.ready;
      grown = g.grown;
      whole = g.whole;
      noted_a = g.noted_a;
      noted_b = g.noted_b;
      room = g.room;
      queue = omega (arith, g.queue, c.relax_record.ensures.queue, ap (λ q. q.room) c.join.ensures.queue);
    }
