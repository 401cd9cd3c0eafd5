use Rattle.std.proofs.Common.{◌<◌, length, refl, rules, arith}
use Rattle.capacity_assign.proofs.Ways.{hop, ra, walking_more, walking_smaller, walked}
use Rattle.capacity_assign.proofs.seats.walk.Goals as goal

pub loop-left-init : goal.loop-left-init
loop-left-init c = record {
  rows_a = refl;
  records = c.requires.records;
  seats = refl;
  linked = c.requires.linked;
  tight = c.requires.tight;
  within = c.requires.seats;
  there = c.requires.there;
  leads = c.requires.leads;
  still_a = λ a h. h;
  places = λ b. refl;
  room = refl;
  holes = λ owner count h. h;
}

pub bounds-ways-free : goal.bounds-ways-free
bounds-ways-free c = (hop _ _ _ _ _ _ _ _ _ _ _ _ _ _ c.requires.in_range c.loop-left.invariant).reached

pub offset_bounds-ways-free : goal.offset_bounds-ways-free
offset_bounds-ways-free c =
    let lt : c.loop-left.free.b < length c.args.ways.from.now = (hop _ _ _ _ _ _ _ _ _ _ _ _ _ _ c.requires.in_range c.loop-left.invariant).reached in
    search rules

pub reseat-requires : goal.reseat-requires
reseat-requires c =
    let w = c.loop-left.invariant in
    record {
      few = c.requires.few;
      place = (hop _ _ _ _ _ _ _ _ _ _ _ _ _ _ c.requires.in_range w).place;
      in_range = ra _ _ _ _ _ _ _ _ _ _ _ _ _ _ c.requires.in_range w;
      linked = w.linked;
      records = w.records;
      free = w.there;
    }

pub loop-left-smaller : goal.loop-left-smaller
loop-left-smaller c = walking_smaller _ _ _ _ _ _ _ _ _ _ _ _ _ _ _ _ _ _ c.requires.in_range c.loop-left.invariant c.in-Some.ensures

pub loop-left-preserved : goal.loop-left-preserved
loop-left-preserved c = walking_more _ _ _ _ _ _ _ _ _ _ _ _ _ _ _ _ _ _ c.requires.in_range c.loop-left.invariant c.in-Some.ensures

pub returns : goal.returns
returns c = walked _ _ _ _ _ _ _ _ _ _ _ _ _ _ _ _ _ c.requires.in_range c.loop-left.invariant c.in_default.ensures

pub overflow_cast-ways : goal.overflow_cast-ways
overflow_cast-ways c = omega (arith, (hop _ _ _ _ _ _ _ _ _ _ _ _ _ _ c.requires.in_range c.loop-left.invariant).place, c.requires.few)
