use Rattle.pair_decisions.specs.Words.{cells_of_rule}
use Rattle.pair_decisions.proofs.rule_laws.rule_has_patterns.Goals as goal

pub returns : goal.returns
returns c = cells_of_rule
