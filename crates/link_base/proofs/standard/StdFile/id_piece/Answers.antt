use Rattle.std.proofs.Common.{◌<◌, ◌∙◌, length, sym}
use Rattle.link_base.specs.Words.{no_record}
use Rattle.link_base.proofs.RisingFacts.{length_records, record_at}
use Rattle.link_base.proofs.standard.StdFile.id_piece.Goals as goal

pub piece-requires : goal.piece-requires
piece-requires c = rw (← c.self.view_is, length_records c.self.inside.ids c.self.inside.rows c.self.invariant) at c.requires

pub returns : goal.returns
returns c =
    let within : c.args.at < length c.self.inside.ids = rw (← c.self.view_is, length_records c.self.inside.ids c.self.inside.rows c.self.invariant) at c.requires in
    rw (← c.self.view_is) (c.piece.ensures ∙ sym (record_at c.self.inside.ids c.self.inside.rows c.args.at no_record c.self.invariant within).id)
