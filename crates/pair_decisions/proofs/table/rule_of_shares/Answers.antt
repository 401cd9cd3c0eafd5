use Rattle.std.proofs.Common.{◌<◌, Bool, List, All, subst}
use Rattle.link_base.specs.declared.rule.RuleCell.{RuleCell}
use Rattle.patterns.specs.Patterns.{pattern_count_by}
use Rattle.decision_rule.specs.FilledLaws.{patterns_in_range}
use Rattle.pair_decisions.proofs.table.rule_of_shares.Goals as goal

pub returns-clause-patterns : goal.returns-clause-patterns
returns-clause-patterns c =
    subst (λ (rares : List Bool). All (λ (x : RuleCell). x.pattern < pattern_count_by rares) c.cut_rule.new.table.cells.items) c.requires.rares
    (patterns_in_range c.args.shares.now c.cut_rule.new.table.cells.items c.cut_rule.ensures.filled.patterns)
