use Rattle.pair_decisions.proofs.FilledRule.{is_the_rule}
use Rattle.pair_decisions.proofs.rule_laws.is_the_rule.Goals as goal

pub returns : goal.returns
returns c = is_the_rule
