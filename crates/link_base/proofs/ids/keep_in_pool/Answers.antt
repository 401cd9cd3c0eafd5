use Rattle.std.proofs.Common.{arith}
use Rattle.link_base.proofs.RegionFacts.{kept_last, kept_there}
use Rattle.link_base.proofs.ids.keep_in_pool.Goals as goal

pub returns-then-place-held-clause-keeps : goal.returns-then-place-held-clause-keeps
returns-then-place-held-clause-keeps c =
    rw c.place-place.ensures (kept_there c.args.id.now c.args.pool.now.texts c.intern.new.self.texts c.in-Ok.found c.in-Ok.ensures.found c.in-Ok.ensures.taken.texts c.are_distinct.ensures.same_id (omega (arith, c.if-place-held.true, c.len-held.ensures)))

pub returns-clause-keeps : goal.returns-clause-keeps
returns-clause-keeps c =
    kept_last c.args.id.now c.args.pool.now.texts c.intern.new.self.texts c.in-Ok.found c.in-Ok.ensures.found c.in-Ok.ensures.taken.texts c.are_distinct.ensures.same_id (omega (arith, c.if-place-held.false, c.len-held.ensures))
