use Rattle.std.proofs.Common.{Some, None}
use Rattle.std.proofs.lemmas.Option.{slice_get_within}
use Rattle.link_base.proofs.RegionFacts.{found_at_place, new_if_none}
use Rattle.link_base.proofs.ids.find_in_pool.Goals as goal

pub returns-in-Some-clause-position : goal.returns-in-Some-clause-position
returns-in-Some-clause-position c =
    rw c.place.ensures (found_at_place c.args.id.now c.args.pool.now.texts (Some c.in-Some.found) c.are_distinct.ensures.same_id c.in-Some.ensures.found c.in-Some.ensures.held)

pub returns-in-Some-clause-within : goal.returns-in-Some-clause-within
returns-in-Some-clause-within c =
    rw c.place.ensures (slice_get_within c.args.pool.now.texts c.in-Some.found c.args.id.now c.in-Some.ensures.found)

pub returns-in-None-clause-position : goal.returns-in-None-clause-position
returns-in-None-clause-position c =
    found_at_place c.args.id.now c.args.pool.now.texts None c.are_distinct.ensures.same_id tt c.in-None.ensures.held

pub returns-in-None-clause-fresh : goal.returns-in-None-clause-fresh
returns-in-None-clause-fresh c =
    new_if_none c.args.id.now c.args.pool.now.texts (found_at_place c.args.id.now c.args.pool.now.texts None c.are_distinct.ensures.same_id tt c.in-None.ensures.held)
