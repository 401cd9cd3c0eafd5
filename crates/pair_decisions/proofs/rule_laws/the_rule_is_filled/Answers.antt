use Rattle.decision_rule.specs.FilledLaws.{least}
use Rattle.pair_decisions.proofs.FilledRule.{one_rule, the_rule_is_filled, the_rule_of_plan}
use Rattle.pair_decisions.proofs.rule_laws.the_rule_is_filled.Goals as goal

pub returns-clause-filled : goal.returns-clause-filled
returns-clause-filled c = the_rule_is_filled

pub returns-clause-of_plan : goal.returns-clause-of_plan
returns-clause-of_plan c = the_rule_of_plan

pub returns-clause-one : goal.returns-clause-one
returns-clause-one c = one_rule

pub returns-clause-least : goal.returns-clause-least
returns-clause-least c = λ plan shares cells rule. least rule.by_shares plan.terms.mu_ppm plan.terms.lambda_ppm cells rule.filled
