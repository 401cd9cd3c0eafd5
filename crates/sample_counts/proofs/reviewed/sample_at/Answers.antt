use Rattle.std.proofs.Common.{arith, sym}
use Rattle.sample_counts.proofs.Lemmas.{place_within, places_push}
use Rattle.sample_counts.proofs.reviewed.sample_at.Goals as goal

pub overflow_add-result-in-Some : goal.overflow_add-result-in-Some
overflow_add-result-in-Some c =
    omega (arith, place_within c.args.places.now c.args.done.now c.in-Ok.pair.a c.in-Ok.pair.b c.in-Some.place.now c.requires.places c.in-Some.ensures.value, c.requires.done, c.requires.within, c.requires.few)

pub returns-in-Ok-insert-clause-places : goal.returns-in-Ok-insert-clause-places
returns-in-Ok-insert-clause-places c =
    places_push c.args.places.now c.insert.new.self c.args.done.now c.in-Ok.pair c.args.at c.requires.places (sym c.requires.done) (sym c.in-None.ensures.value) c.in-Ok-insert.ensures.updates
