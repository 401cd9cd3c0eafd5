use Rattle.std.proofs.Common.{◌∙◌, sym}
use Rattle.link_base.proofs.RisingFacts.{length_records}
use Rattle.link_base.proofs.standard.StdFile.rows.Goals as goal

pub returns : goal.returns
returns c = rw (← c.self.view_is) (c.len.ensures ∙ sym (length_records c.self.inside.ids c.self.inside.rows c.self.invariant))
