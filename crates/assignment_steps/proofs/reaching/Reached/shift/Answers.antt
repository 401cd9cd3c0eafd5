use Rattle.std.proofs.Common.{◌<◌, length, arith, rules, All}
use Rattle.assignment_steps.proofs.reaching.Reached.shift.Goals as goal

pub lower-requires : goal.lower-requires
lower-requires c =
    let t = c.args.self.now in
    let room = c.requires.room in
    let all : All (λ r. r < length t.dist_a.items) t.records.items = λ k d lt. omega (arith, room.records_in k d lt, room.of_a, t.dist_a.ok.0) in
    rw (c.deref.ensures.value, c.deref_mut.ensures.value) (record { same = omega (arith, room.of_a, t.dist_a.ok.0); end = c.requires.end; in_range = all; whole = c.requires.noted_a; top = room.top_a; fits = c.requires.falls })

pub raise-requires : goal.raise-requires
raise-requires c =
    let t = c.args.self.now in
    let room = c.requires.room in
    let all : All (λ r. r < length t.dist_b.items) t.touched.items = λ k d lt. omega (arith, room.touched_in k d lt, room.of_b, t.dist_b.ok.0) in
    rw (c.deref-2.ensures.value, c.deref_mut-2.ensures.value) (record {
      same = omega (arith, room.of_b, t.dist_b.ok.0);
      end = c.requires.end;
      in_range = all;
      whole = c.requires.noted_b;
      top = room.top;
      fits = λ b. omega (arith, c.requires.small b, c.requires.end);
    })

pub returns-clause-shifts : goal.returns-clause-shifts
returns-clause-shifts c = record {
  price_a = rw c.deref_mut.ensures.value at c.lower.ensures.prices;
  price_b = rw c.deref_mut-2.ensures.value at c.raise.ensures.prices;
  queue = search rules;
  from = search rules;
  rank = search rules;
  current = search rules;
}
