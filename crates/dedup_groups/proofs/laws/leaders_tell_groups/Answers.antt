use Rattle.dedup_groups.proofs.ForestLemmas.{groups_told}
use Rattle.dedup_groups.proofs.laws.leaders_tell_groups.Goals as goal

pub returns : goal.returns
returns c = groups_told
