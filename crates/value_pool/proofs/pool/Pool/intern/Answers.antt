use Rattle.std.proofs.Common.{◌∙◌, ap, is_some, sym}
use Rattle.value_pool.proofs.SearchLemmas.{new_taken}
use Rattle.value_pool.proofs.pool.Pool.intern.Goals as goal

pub returns-in-Ok-clause-taken : goal.returns-in-Ok-clause-taken
returns-in-Ok-clause-taken c =
    let fresh = sym c.search-place.ensures.held ∙ ap is_some c.in_default.is in
    new_taken c.self.inside.limit c.self.inside.table c.append.new.self c.widen.new.self c.args.self.now c.args.text.now (sym c.self.view_is) (c.widen.ensures.state ∙ c.put_in_order.ensures.state) fresh c.in-Ok.ensures.appended
