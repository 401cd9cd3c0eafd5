use Rattle.std.proofs.Common.{length, refl, sym, ap}
use Rattle.assignment_steps.specs.Words.{room_at, room_own}
use Rattle.capacity_assign.proofs.grow.join.Goals as goal

pub join-requires-clause-room : goal.join-requires-clause-room
join-requires-clause-room c = room_own _ _ c.args.tree.now.reached c.requires.room

pub returns : goal.returns
returns c =
    let room = c.requires.room in
    record {
      joins = record { nearer = c.join.result; spread = c.join.ensures.joins; held = refl };
      room = room_at _ _ (length c.args.ground.field.price_a.now) (length c.args.ground.field.price_b.now) c.join.new.self (sym room.of_a) (sym room.of_b) c.join.ensures.room;
      queue = ap (λ r. r.frontier) c.join.ensures.rest;
    }
