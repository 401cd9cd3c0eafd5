use Rattle.link_base.proofs.RegionFacts.{length_pieces}
use Rattle.link_base.proofs.region.TextRegion.piece.Goals as goal

pub text_in-requires-clause-within : goal.text_in-requires-clause-within
text_in-requires-clause-within c =
    let within = rw (← c.self.view_is, length_pieces c.self.inside.bytes.items 0 c.self.inside.ends.items) at c.requires in
    rw c.deref-2.ensures.value within
