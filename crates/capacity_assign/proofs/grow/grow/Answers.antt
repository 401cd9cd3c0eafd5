use Rattle.std.proofs.Common.{◌≡◌, ◌<◌, length, inl, inr, arith}
use Rattle.std.proofs.lemmas.List.{get_or_read}
use Rattle.capacity_assign.specs.Growth.{growth, places_left}
use Rattle.assignment_steps.specs.Words.{distance, far, cons_first, Contains-cons_cases, room_kept, nearest_taken}
use Rattle.capacity_assign.proofs.Growing.{grown_best, tree_dropped, tree_taken}
use Rattle.capacity_assign.proofs.grow.grow.Goals as goal

pub index-requires : goal.index-requires
index-requires c =
    let late = c.loop-near.invariant.tree.spread.late (c.in-Some.near.distance, c.in-Some.near.position) c.in-Some.ensures.inside in
    omega (arith, late.2, c.loop-near.tree.reached.dist_b.ok.0)

pub index-requires-in-Some : goal.index-requires-in-Some
index-requires-in-Some c =
    let late = c.loop-near.invariant.tree.spread.late (c.in-Some.near.distance, c.in-Some.near.position) c.in-Some.ensures.inside in
    omega (arith, late.2, c.loop-near.tree.reached.dist_b.ok.0, c.loop-near.invariant.room.of_b, c.requires.grows.ready.rows_b)

pub loop-near-preserved-then-index-near : goal.loop-near-preserved-then-index-near
loop-near-preserved-then-index-near c =
    let e = c.in-Some.ensures in
    let n = c.in-Some.near in
    let i = c.loop-near.invariant in
    let late = i.tree.spread.late (n.distance, n.position) e.inside in
    let read = get_or_read c.loop-near.tree.reached.dist_b.items n.position c.index.result.now late.2 c.index.ensures far in
    let stale : distance c.loop-near.tree.reached.dist_b.items n.position < n.distance = omega (arith, read, c.if-index-near.true) in
    let taken = tree_taken c.args.ground 0 (length c.args.ground.field.edges.now) (growth c.loop-near.tree) (n.distance, n.position) c.take.new.self.waiting i.tree e.inside e.stays e.only in
    record {
      held = i.held;
      tree = tree_dropped c.args.ground 0 (length c.args.ground.field.edges.now) (growth c.loop-near.tree) c.take.new.self.waiting (n.distance, n.position) taken stale;
      room = room_kept _ _ c.loop-near.tree.reached c.take.new.self _ _ _ i.room;
      fits = omega (arith, i.fits, e.count, e.room);
      queue = omega (arith, i.queue, e.room);
    }

pub loop-near-init : goal.loop-near-init
loop-near-init c = record { held = c.requires.held; tree = c.requires.grows.tree; room = c.requires.grows.room; fits = c.requires.grows.queue; queue = omega arith }

pub loop-near-smaller-then-index-near : goal.loop-near-smaller-then-index-near
loop-near-smaller-then-index-near c = omega (arith, c.in-Some.ensures.count)

pub loop-near-smaller : goal.loop-near-smaller
loop-near-smaller c = omega (arith, c.settle.ensures.work, c.in-Some.ensures.count)

pub loop-near-preserved : goal.loop-near-preserved
loop-near-preserved c =
    let i = c.loop-near.invariant in
    let s = c.settle.ensures in
    let e = c.in-Some.ensures in
    record {
      held = rw c.if-not-settle.false at s.held;
      tree = rw c.if-not-settle.false at s.tree;
      room = s.room;
      fits = omega (arith, s.work, s.queue, e.count, e.room, i.fits);
      queue = omega (arith, s.queue, e.room, i.queue);
    }

pub returns-then-tree-near : goal.returns-then-tree-near
returns-then-tree-near c =
    let e = c.in-Some.ensures in
    let i = c.loop-near.invariant in
    let near = nearest_taken c.loop-near.tree.reached.frontier.waiting c.in-Some.near c.take.new.self.waiting e.inside e.least e.stays in
    record {
      ready = c.requires.grows.ready;
      grown = (
        c.loop-near.tree.reached.frontier.waiting,
        rw c.nearest_end.ensures
            (grown_best c.args.ground (growth c.loop-near.tree) i.tree i.held (λ x h. omega (arith, near.least x h, c.if-tree-near.true))),
      );
      room = room_kept _ _ c.loop-near.tree.reached c.take.new.self _ _ _ i.room;
      queue = rw e.room i.queue;
    }

pub returns-then-index-gt0 : goal.returns-then-index-gt0
returns-then-index-gt0 c =
    let e = c.in-Some.ensures in
    let n = c.in-Some.near in
    let i = c.loop-near.invariant in
    let t = c.loop-near.tree in
    let left = c.args.ground.seats.now.left in
    let late = i.tree.spread.late (n.distance, n.position) e.inside in
    let near = nearest_taken t.reached.frontier.waiting n c.take.new.self.waiting e.inside e.least e.stays in
    let read = get_or_read t.reached.dist_b.items n.position c.index.result.now late.2 c.index.ensures far in
    let exact : distance t.reached.dist_b.items n.position ≡ n.distance = omega (arith, late.1, read, c.if-index-near.false) in
    let lt : n.position < length left.items = omega (arith, late.2, t.reached.dist_b.ok.0, i.room.of_b, c.requires.grows.ready.rows_b, left.ok.0) in
    let some : 0 < places_left c.args.ground n.position = (let there = get_or_read left.items n.position c.index-in-Some.result.now lt c.index-in-Some.ensures 0 in omega (arith, there, c.if-index-gt0.true)) in
    record {
      ready = c.requires.grows.ready;
      grown = (
        t.reached.frontier.waiting,
        record {
          tree = i.tree;
          stopped = record { before_best = omega (arith, c.if-tree-near.false); after = late.0; least = near.least; stop = (some, exact); paid = λ none. absurd (let clash = none in cc) };
          held = λ b is. absurd (let none = i.held in cc);
        },
      );
      room = room_kept _ _ t.reached c.take.new.self _ _ _ i.room;
      queue = rw e.room i.queue;
    }

pub settle-requires : goal.settle-requires
settle-requires c =
    let e = c.in-Some.ensures in
    let n = c.in-Some.near in
    let i = c.loop-near.invariant in
    let t = c.loop-near.tree in
    let left = c.args.ground.seats.now.left in
    let late = i.tree.spread.late (n.distance, n.position) e.inside in
    let near = nearest_taken t.reached.frontier.waiting n c.take.new.self.waiting e.inside e.least e.stays in
    let read = get_or_read t.reached.dist_b.items n.position c.index.result.now late.2 c.index.ensures far in
    let inside : n.position < length c.args.ground.field.price_b.now = omega (arith, late.2, t.reached.dist_b.ok.0, i.room.of_b) in
    let there = get_or_read left.items n.position c.index-in-Some.result.now (omega (arith, inside, c.requires.grows.ready.rows_b, left.ok.0)) c.index-in-Some.ensures 0 in
    record {
      ready = c.requires.grows.ready;
      inside = inside;
      full = omega (arith, there, c.if-index-gt0.false);
      useful = c.if-tree-near.false;
      exact = omega (arith, late.1, read, c.if-index-near.false);
      nearest = record {
        inside = cons_first (n.distance, n.position) c.take.new.self.waiting;
        least = λ x h. elim (Contains-cons_cases (n.distance, n.position) c.take.new.self.waiting x h) [ inl p ↦ near.least x (e.only x p) | inr p ↦ rw p (omega arith) ];
      };
      held = i.held;
      tree = tree_taken c.args.ground 0 (length c.args.ground.field.edges.now) (growth t) (n.distance, n.position) c.take.new.self.waiting i.tree e.inside e.stays e.only;
      room = room_kept _ _ t.reached c.take.new.self _ _ _ i.room;
      queue = omega (arith, i.fits, e.count, e.room);
    }

pub returns-then-not-settle : goal.returns-then-not-settle
returns-then-not-settle c =
    let s = c.settle.ensures in
    record {
      ready = c.requires.grows.ready;
      grown = (c.settle.new.tree.reached.frontier.waiting, rw c.nearest_end-then-not-settle.ensures (rw c.if-not-settle.true at s.tree));
      room = s.room;
      queue = omega (arith, s.queue, c.in-Some.ensures.room, c.loop-near.invariant.queue);
    }

pub returns : goal.returns
returns c =
    let i = c.loop-near.invariant in
    record {
      ready = c.requires.grows.ready;
      grown = (
        c.loop-near.tree.reached.frontier.waiting,
        rw c.nearest_end-2.ensures
            (grown_best c.args.ground (growth c.loop-near.tree) i.tree i.held (λ x h. absurd (c.in_default.ensures.inside x h))),
      );
      room = room_kept _ _ c.loop-near.tree.reached c.take.new.self _ _ _ i.room;
      queue = rw c.in_default.ensures.room i.queue;
    }
