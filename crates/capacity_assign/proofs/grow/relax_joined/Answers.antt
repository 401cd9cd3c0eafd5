use Rattle.std.proofs.Common.{◌<◌, length, refl, arith}
use Rattle.assignment_steps.specs.Words.{distance, far, left_later}
use Rattle.capacity_assign.specs.Growth.{growth}
use Rattle.capacity_assign.proofs.Growing.{tree_twin}
use Rattle.capacity_assign.proofs.grow.relax_joined.Goals as goal

pub has_twin-requires : goal.has_twin-requires
has_twin-requires c = record { inside = c.requires.inside; ready = c.requires.grows.ready; room = c.requires.grows.room }

pub returns-then-has_twin : goal.returns-then-has_twin
returns-then-has_twin c =
    let w = c.has_twin.ensures c.if-has_twin.true in
    let g = c.requires.grows in
    let es = c.args.ground.field.edges.now in
    let near : distance c.args.tree.now.reached.dist_a.items c.args.position < far = omega (arith, c.requires.last, g.tree.spread.now, g.tree.spread.best_small) in
    record {
      grows = record {
        tree = tree_twin c.args.ground c.args.position w.0 (growth c.args.tree.now) g.tree near w.1;
        room = g.room;
        work = omega (arith, left_later es c.args.tree.now.reached.dist_a.items c.args.position 0 (length es) (omega arith));
        queue = omega arith;
        held = refl;
      };
      current = refl;
      dist_a = refl;
    }

pub note_twin-requires : goal.note_twin-requires
note_twin-requires c = record { inside = omega (arith, c.requires.inside, c.requires.grows.ready.alike.records) }

pub returns : goal.returns
returns c =
    let r = c.relax_record.ensures in
    let g = r.grows in
    rw c.note_twin.ensures.rest (record { grows = record { tree = g.tree; room = g.room; work = g.work; queue = g.queue; held = g.held }; current = r.current; dist_a = r.dist_a })
