use Rattle.std.proofs.Common.{◌<◌, ◌∙◌, ap, length, sym}
use Rattle.link_base.specs.Words.{IsPlaced, values_in}
use Rattle.link_base.proofs.RegionFacts.{row_at, row_placed, length_pieces}
use Rattle.link_base.proofs.rows.StdRows.row.Goals as goal

pub piece_in-requires-clause-within : goal.piece_in-requires-clause-within
piece_in-requires-clause-within c =
    let within : c.args.at < length c.self.inside.ends.items = rw (← c.self.view_is, length_pieces (values_in c.self.inside.words c.self.inside.cells.items) 0 c.self.inside.ends.items) at c.requires in
    rw c.deref-2.ensures.value within

pub of-requires : goal.of-requires
of-requires c =
    let within : c.args.at < length c.self.inside.ends.items = rw (← c.self.view_is, length_pieces (values_in c.self.inside.words c.self.inside.cells.items) 0 c.self.inside.ends.items) at c.requires in
    let piece = rw (c.deref.ensures.value, c.deref-2.ensures.value) at c.piece_in.ensures in
    rw piece (row_placed (IsPlaced (length c.self.inside.words)) c.self.inside.cells.items c.self.inside.ends.items c.args.at c.self.invariant.0 within c.self.invariant.1.placed)

pub returns : goal.returns
returns c =
    let within : c.args.at < length c.self.inside.ends.items = rw (← c.self.view_is, length_pieces (values_in c.self.inside.words c.self.inside.cells.items) 0 c.self.inside.ends.items) at c.requires in
    let piece = rw (c.deref.ensures.value, c.deref-2.ensures.value) at c.piece_in.ensures in
    rw (← c.self.view_is) (c.of.ensures ∙ ap (values_in c.self.inside.words) piece ∙ sym (row_at c.self.inside.words c.self.inside.cells.items c.self.inside.ends.items c.args.at within))
