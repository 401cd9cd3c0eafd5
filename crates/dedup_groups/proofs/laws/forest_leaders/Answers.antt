use Rattle.dedup_groups.proofs.ForestLemmas.{leaders_of_forest}
use Rattle.dedup_groups.proofs.laws.forest_leaders.Goals as goal

pub returns : goal.returns
returns c = leaders_of_forest
