use Rattle.value_pool.proofs.PlaceLemmas.{put-places}
use Rattle.value_pool.proofs.order.put.Goals as goal

pub returns-in-Ok : goal.returns-in-Ok
returns-in-Ok c =
    put-places c.args.places.now c.insert.new.self c.in_ok-key.key c.args.text.now c.args.place c.in_ok-key.ensures.items c.in-Ok.ensures.updates
