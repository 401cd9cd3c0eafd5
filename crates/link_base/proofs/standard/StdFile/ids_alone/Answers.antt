use Rattle.link_base.proofs.RisingFacts.{without_rows}
use Rattle.link_base.proofs.standard.StdFile.ids_alone.Goals as goal

pub returns : goal.returns
returns c =
    rw (← c.self.view_is, c.in_ok-ids.ensures, c.in_ok-rows.ensures, c.len-count.ensures)
    (without_rows c.self.inside.ids c.self.inside.rows c.self.invariant)
