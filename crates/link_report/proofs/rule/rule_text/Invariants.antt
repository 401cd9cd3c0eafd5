use Rattle.std.proofs.Common.{◌≡◌, take}
use Rattle.link_report.specs.LinksText.{text_of_rule}
use Rattle.patterns.specs.Patterns.{rare_of}
use Rattle.link_report.proofs.rule.rule_text.Given as goal

abbrev pub invariant-loop-cell : goal.invariant-loop-cell
invariant-loop-cell l = l.text.items ≡ text_of_rule (rare_of l.shape) (take l.cell-index l.cell-items)
