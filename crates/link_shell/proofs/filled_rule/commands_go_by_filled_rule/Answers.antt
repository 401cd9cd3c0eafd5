use Rattle.link_shell.proofs.MeaningFacts.{filled_rule}
use Rattle.link_shell.proofs.filled_rule.commands_go_by_filled_rule.Goals as goal

pub returns : goal.returns
returns c = filled_rule c.shares_have_a_rule.ensures.given c.shares_have_a_rule.ensures.by_values
