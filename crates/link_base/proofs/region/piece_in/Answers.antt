use Rattle.std.proofs.Common.{◌∙◌, ap, sym, slice_index, slice_range}
use Rattle.link_base.proofs.RegionFacts.{piece_at}
use Rattle.link_base.proofs.region.piece_in.Goals as goal

pub part-requires-clause-ordered : goal.part-requires-clause-ordered
part-requires-clause-ordered g c =
    rw c.end_of.ensures (piece_at c.args.items.now 0 c.args.ends.now c.args.at c.requires.rising c.requires.within).ordered

pub part-requires-clause-within : goal.part-requires-clause-within
part-requires-clause-within g c =
    (piece_at c.args.items.now 0 c.args.ends.now c.args.at c.requires.rising c.requires.within).within

pub returns : goal.returns
returns g c =
    let here = piece_at c.args.items.now 0 c.args.ends.now c.args.at c.requires.rising c.requires.within in
    c.part.ensures ∙ ap (λ start. slice_range c.args.items.now start (slice_index c.args.ends.now c.args.at)) c.end_of.ensures ∙ sym here.piece
