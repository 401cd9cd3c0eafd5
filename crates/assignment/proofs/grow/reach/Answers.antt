use Rattle.std.proofs.Common.{ap, inl, inr, refl}
use Rattle.assignment_steps.specs.Words.{room_kept}
use Rattle.assignment.proofs.grow.reach.Goals as goal

pub returns-then-first : goal.returns-then-first
returns-then-first c =
    let e = c.reach.ensures in
    let s = e.shortens in
    record {
      reaches = record {
        spread = record { da = s.da; rank = s.rank; db = s.db; from = s.from; records = s.records; touched = s.touched; waits = s.waits; current = s.current };
        ends = inl (c.if-first.true, refl, refl);
        best_record = ap (λ r. r.best_record) e.rest;
      };
      room = room_kept _ _ c.reach.new.self _ _ _ _ e.room;
      count = e.count;
      queue = e.queue;
    }

pub returns-else-first : goal.returns-else-first
returns-else-first c =
    let e = c.reach.ensures in
    record {
      reaches = record { spread = e.shortens; ends = inr (c.if-first.false, ap (λ r. r.best) e.rest, refl); best_record = ap (λ r. r.best_record) e.rest };
      room = e.room;
      count = e.count;
      queue = e.queue;
    }
