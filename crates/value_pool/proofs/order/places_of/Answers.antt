use Rattle.std.proofs.Common.{rules}
use Rattle.value_pool.specs.declared.chains.Slot.{Slot}
use Rattle.value_pool.proofs.PlaceLemmas.{next-placed, none-placed}
use Rattle.value_pool.proofs.order.places_of.Goals as goal

pub loop-place-init : goal.loop-place-init
loop-place-init c = none-placed c.new-places.result c.new-places.ensures.empty

pub loop-place-preserved : goal.loop-place-preserved
loop-place-preserved c =
    let none : Slot = record { start = 0; end = 0; next = 0; hash = 0; last = 0 } in
    next-placed c.loop-place.places c.put.new.places c.args.bytes.now c.args.slots.now c.loop-place.place none (search rules) (c.in_ok-put.ensures) c.loop-place.invariant
