use Rattle.std.proofs.Common.{◌∙◌, ap}
use Rattle.command_scripts.specs.Words.{prints}
use Rattle.command_scripts.specs.declared.ends.Ended.TheVariants.{Done}
use Rattle.link_shell.proofs.settings_commands.printed_rule_is_least.Goals as goal

pub returns : goal.returns
returns c = λ shared due h. record { cells = h.1.cells; rule = h.1.rule; least = h.1.least; printed = h.2 ∙ ap (λ text. prints Done text) h.1.lines }
