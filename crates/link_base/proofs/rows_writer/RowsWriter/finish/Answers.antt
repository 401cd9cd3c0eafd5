use Rattle.link_base.proofs.RisingFacts.{none_open}
use Rattle.link_base.proofs.rows_writer.RowsWriter.finish.Goals as goal

pub of-requires-clause-rising : goal.of-requires-clause-rising
of-requires-clause-rising c = none_open c.self.inside.words c.self.inside.cells.items c.self.inside.ends.items c.self.inside.begun c.self.invariant (rw (← c.self.view_is) at c.requires)
