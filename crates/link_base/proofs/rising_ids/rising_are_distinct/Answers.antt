use Rattle.link_base.proofs.RisingFacts.{are_distinct}
use Rattle.link_base.proofs.rising_ids.rising_are_distinct.Goals as goal

pub returns : goal.returns
returns c = are_distinct c.args.ids.now c.requires
