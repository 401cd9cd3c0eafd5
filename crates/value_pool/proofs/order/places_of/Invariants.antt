use Rattle.std.proofs.Common.{take}
use Rattle.value_pool.specs.Table.{HasPlaces, texts_at}
use Rattle.value_pool.proofs.order.places_of.Given as goal

abbrev pub invariant-loop-place : goal.invariant-loop-place
invariant-loop-place l = HasPlaces l.places (take l.place (texts_at l.bytes l.slots))
