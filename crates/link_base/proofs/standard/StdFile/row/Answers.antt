use Rattle.std.proofs.Common.{◌<◌, ◌∙◌, arith, length, sym}
use Rattle.link_base.specs.Words.{no_record}
use Rattle.link_base.proofs.RisingFacts.{length_records, record_at}
use Rattle.link_base.proofs.standard.StdFile.row.Goals as goal

pub row-requires : goal.row-requires
row-requires c =
    let within : c.args.at < length c.self.inside.ids = rw (← c.self.view_is, length_records c.self.inside.ids c.self.inside.rows c.self.invariant) at c.requires in
    omega (arith, within, c.self.invariant)

pub returns : goal.returns
returns c =
    let within : c.args.at < length c.self.inside.ids = rw (← c.self.view_is, length_records c.self.inside.ids c.self.inside.rows c.self.invariant) at c.requires in
    rw (← c.self.view_is) (c.row.ensures ∙ sym (record_at c.self.inside.ids c.self.inside.rows c.args.at no_record c.self.invariant within).row)
