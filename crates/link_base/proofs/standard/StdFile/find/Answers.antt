use Rattle.std.proofs.Common.{◌∙◌}
use Rattle.link_base.proofs.RisingFacts.{found_fresh, length_records, position_of}
use Rattle.link_base.proofs.standard.StdFile.find.Goals as goal

pub returns-clause-position : goal.returns-clause-position
returns-clause-position c =
    rw (← c.self.view_is) (c.find.ensures.position ∙ position_of c.args.id.now c.self.inside.ids c.self.inside.rows c.self.invariant)

pub returns-clause-within : goal.returns-clause-within
returns-clause-within c =
    rw (← c.self.view_is, length_records c.self.inside.ids c.self.inside.rows c.self.invariant) c.find.ensures.within

pub returns-clause-fresh : goal.returns-clause-fresh
returns-clause-fresh c =
    rw (← c.self.view_is) (found_fresh c.args.id.now c.self.inside.ids c.self.inside.rows c.find.result c.self.invariant c.find.ensures.fresh)
