use Rattle.std.proofs.Common.{◌≡◌, ◌∙◌, length, rules, sym}
use Rattle.link_base.specs.Words.{values_in}
use Rattle.link_base.proofs.RegionFacts.{length_pieces}
use Rattle.link_base.proofs.rows.StdRows.len.Goals as goal

pub returns : goal.returns
returns c =
    let count : c.len.result ≡ length c.self.inside.ends.items = search (rules, c.len.ensures) in
    rw (← c.self.view_is) (count ∙ sym (length_pieces (values_in c.self.inside.words c.self.inside.cells.items) 0 c.self.inside.ends.items))
