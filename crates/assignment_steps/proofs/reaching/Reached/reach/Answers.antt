use Rattle.std.proofs.Common.{◌≡◌, ◌<◌, length, set, ap, inl, inr, arith, rules, vec_len}
use Rattle.assignment_steps.specs.Words.{far, noted_count, noted_in, distance-set}
use Rattle.assignment_steps.proofs.reaching.Reached.reach.Goals as goal

pub returns : goal.returns
returns c =
    let r = c.args.self.now in
    let n = c.note_first.new.self in
    let e = c.put.ensures in
    let room = c.requires.room in
    let near : c.args.dist < far = omega (arith, c.requires.near, room.top c.args.b) in
    let lt : c.args.b < length r.dist_b.items = omega (arith, c.requires.within, r.dist_b.ok.0) in
    let rest = c.note_first.ensures.rest in
    let frontier = ap (λ u. u.frontier) rest in
    let waiting : n.frontier.waiting ≡ r.frontier.waiting = ap (λ q. q.waiting) frontier in
    let touched = c.note_first.ensures.touched in
    record {
      shortens = record {
        da = ap (λ u. u.dist_a.items) rest;
        rank = ap (λ u. u.rank.items) rest;
        db = ap (λ u. set u.dist_b.items c.args.b c.args.dist) rest;
        from = ap (λ u. set u.from.items c.args.b c.args.k) rest;
        records = ap (λ u. u.records.items) rest;
        touched = touched;
        waits = record { stays = rw (← waiting) e.stays; added = e.added; only = rw (← waiting) e.only };
        current = ap (λ u. u.current) rest;
      };
      ranked = rw frontier at e.ranked;
      turn = rw frontier at e.turn;
      count = rw frontier at e.count;
      queue = rw frontier at e.room;
      rest = search rules;
      room = rw (ap (λ u. u.dist_b) rest, ap (λ u. u.dist_a) rest, ap (λ u. u.records) rest, ap (λ u. u.rank) rest, ap (λ u. u.from) rest) (record {
        few_a = room.few_a;
        few_b = room.few_b;
        of_a = room.of_a;
        of_rank = room.of_rank;
        of_b = room.of_b;
        of_from = room.of_from;
        touched = omega (arith, noted_count r.dist_b.items r.touched.items c.args.b c.args.dist lt near, ap length touched, n.touched.ok.0, r.touched.ok.0, room.touched);
        touched_room = omega (arith, room.touched_room, c.note_first.ensures.room);
        top = λ b. elim (distance-set r.dist_b.items c.args.b b c.args.dist lt) [ inl p ↦ omega (arith, p.1, near) | inr p ↦ omega (arith, p.1, room.top b) ];
        records = room.records;
        records_room = room.records_room;
        top_a = room.top_a;
        records_in = room.records_in;
        touched_in = rw touched (noted_in r.dist_b.items r.touched.items c.args.b (vec_len r.dist_b) room.touched_in c.requires.within);
      });
    }
