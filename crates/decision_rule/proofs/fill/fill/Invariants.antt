use Rattle.std.proofs.Common.{◌≡◌, ℕ, ◌<◌, get_or}
use Rattle.decision_rule.specs.Filled.{chances_of, chances_at}
use Rattle.link_base.specs.declared.rule.RuleCell.{RuleCell}
use Rattle.decision_rule.proofs.fill.fill.Given as goal

abbrev pub invariant-loop-i : goal.invariant-loop-i
invariant-loop-i l = (k : ℕ) (d : RuleCell) → k < l.i → chances_of (get_or l.cells k d) ≡ chances_at l.shares k
