use Rattle.decision_rule.specs.FilledLaws.{cut_form_from_filled, one_filled, least}
use Rattle.decision_rule.proofs.laws.filled.Goals as goal

pub returns-clause-least : goal.returns-clause-least
returns-clause-least c = least

pub returns-clause-one : goal.returns-clause-one
returns-clause-one c = one_filled

pub returns-clause-cut_form : goal.returns-clause-cut_form
returns-clause-cut_form c = cut_form_from_filled
