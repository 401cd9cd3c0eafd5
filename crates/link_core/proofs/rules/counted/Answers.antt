use Rattle.std.proofs.Common.{◌∙◌}
use Rattle.link_core.proofs.ResultLemmas.{rares_seen}
use Rattle.link_core.proofs.rules.counted.Goals as goal

pub returns-clause-rares : goal.returns-clause-rares
returns-clause-rares c = rares_seen c.in_ok-all.all.items ∙ c.in_ok-all.ensures.fields.rares
