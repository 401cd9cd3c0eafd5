use Rattle.link_base.proofs.RisingFacts.{distinct_of}
use Rattle.link_base.proofs.standard.distinct_ids.Goals as goal

pub returns : goal.returns
returns c = rw (← c.file.view_is) (distinct_of c.file.inside.ids c.file.inside.rows c.file.invariant c.distinct.ensures)
