use Rattle.std.proofs.Common.{◌≡◌, ◌+◌, ◌∙◌, length, refl, inl, inr, arith}
use Rattle.std.proofs.lemmas.Bool.{cases_lt}
use Rattle.assignment_steps.specs.Words.{number, left_later}
use Rattle.capacity_assign.specs.Growth.{Relaxes, growth}
use Rattle.capacity_assign.proofs.Growing.{tree_skip}
use Rattle.capacity_assign.proofs.grow.relax_record.Goals as goal

pub bounds-ground-position : goal.bounds-ground-position
bounds-ground-position c = omega (arith, c.requires.inside, c.requires.grows.ready.field.starts.count)

pub loop-k-init : goal.loop-k-init
loop-k-init c =
    let g = c.requires.grows in
    let start = g.ready.field.starts.starts_at c.args.position (omega (arith, c.requires.inside)) in
    let k = number c.args.ground.field.starts.now c.args.position in
    record {
      within = start.within;
      above = start.above;
      last = c.requires.last;
      relaxes = record {
        grows = record {
          tree = tree_skip c.args.ground c.args.position 0 k (growth c.args.tree.now) g.tree (λ j lt low same. absurd (omega (arith, same, start.below j low)));
          room = g.room;
          work = omega (arith, left_later c.args.ground.field.edges.now c.args.tree.now.reached.dist_a.items c.args.position 0 k (omega arith));
          queue = omega arith;
          held = refl;
        };
        current = refl;
        dist_a = refl;
      };
    }

pub relax-requires : goal.relax-requires
relax-requires c =
    let i = c.loop-k.invariant in
    let g = i.relaxes.grows in
    record {
      place = c.loop-k-test.true;
      last = rw c.if-ground-k.true i.last;
      grows = rw c.if-ground-k.true (record { ready = c.requires.grows.ready; tree = g.tree; room = g.room; queue = omega (arith, g.work, g.queue, c.requires.grows.queue) });
    }

pub loop-k-smaller : goal.loop-k-smaller
loop-k-smaller c = omega (arith, c.loop-k-test.true)

pub loop-k-preserved : goal.loop-k-preserved
loop-k-preserved c =
    let i = c.loop-k.invariant in
    let old = i.relaxes in
    let r : Relaxes c.args.ground c.args.position c.loop-k.k (c.loop-k.k + 1) c.loop-k.tree c.relax.new.tree = rw c.if-ground-k.true at c.relax.ensures in
    record {
      within = omega arith;
      above = λ j low within. i.above j (omega (arith, low)) within;
      last = rw (r.dist_a, r.current) i.last;
      relaxes = record {
        grows = record {
          tree = r.grows.tree;
          room = r.grows.room;
          work = omega (arith, r.grows.work, old.grows.work);
          queue = omega (arith, r.grows.queue, old.grows.queue);
          held = r.grows.held ∙ old.grows.held;
        };
        current = r.current ∙ old.current;
        dist_a = r.dist_a ∙ old.dist_a;
      };
    }

pub returns-else-ground-k : goal.returns-else-ground-k
returns-else-ground-k c =
    let i = c.loop-k.invariant in
    let g = i.relaxes.grows in
    let es = c.args.ground.field.edges.now in
    let fewer = left_later es c.loop-k.tree.reached.dist_a.items c.args.position c.loop-k.k (length es) (omega arith) in
    record {
      grows = record {
        tree = tree_skip c.args.ground c.args.position c.loop-k.k _ (growth c.loop-k.tree) g.tree (λ j lt below same. elim (cases_lt j c.loop-k.k) [
          | inl p ↦ p
          | inr p ↦ absurd (c.if-ground-k.false (omega (arith, same, c.requires.grows.ready.rising c.loop-k.k j p lt, i.above c.loop-k.k (omega arith) (omega arith))))
        ]);
        room = g.room;
        work = omega (arith, fewer, g.work);
        queue = g.queue;
        held = g.held;
      };
      current = i.relaxes.current;
      dist_a = i.relaxes.dist_a;
    }

pub returns-after-loop-k : goal.returns-after-loop-k
returns-after-loop-k c =
    let i = c.loop-k.invariant in
    let all : c.loop-k.k ≡ length c.args.ground.field.edges.now = omega (arith, i.within, c.loop-k-test.false) in
    rw all at i.relaxes
