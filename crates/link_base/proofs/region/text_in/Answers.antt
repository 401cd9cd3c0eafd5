use Rattle.std.proofs.Common.{◌∙◌, ap, sym, slice_index, slice_range}
use Rattle.link_base.proofs.RegionFacts.{piece_at}
use Rattle.link_base.proofs.region.text_in.Goals as goal

pub within-requires-clause-ordered : goal.within-requires-clause-ordered
within-requires-clause-ordered c =
    rw c.end_of.ensures (piece_at c.args.bytes.now 0 c.args.ends.now c.args.at c.requires.rising c.requires.within).ordered

pub within-requires-clause-within : goal.within-requires-clause-within
within-requires-clause-within c =
    (piece_at c.args.bytes.now 0 c.args.ends.now c.args.at c.requires.rising c.requires.within).within

pub returns : goal.returns
returns c =
    let here = piece_at c.args.bytes.now 0 c.args.ends.now c.args.at c.requires.rising c.requires.within in
    c.within.ensures ∙ ap (λ start. slice_range c.args.bytes.now start (slice_index c.args.ends.now c.args.at)) c.end_of.ensures ∙ sym here.piece
