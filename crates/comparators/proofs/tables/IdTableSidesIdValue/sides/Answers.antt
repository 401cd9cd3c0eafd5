use Rattle.std.proofs.Common.{sym}
use Rattle.comparators.proofs.RowLemmas.{length-rows, row-fits, row-range}
use Rattle.comparators.proofs.tables.IdTableSidesIdValue.sides.Goals as goal

pub slice_bounds-result-end : goal.slice_bounds-result-end
slice_bounds-result-end c =
    let within = rw (← c.self.view_is, length-rows) at c.requires in
    rw (c.from-width.ensures, c.deref.ensures.value) (row-fits c.self.inside.fields c.self.inside.rows c.args.at _ within c.self.invariant)

pub returns : goal.returns
returns c =
    let within = rw (← c.self.view_is, length-rows) at c.requires in
    rw (← c.self.view_is, c.from-width.ensures, c.deref.ensures.value) (sym (row-range c.self.inside.fields c.self.inside.rows c.args.at c.self.inside.values.items within))
