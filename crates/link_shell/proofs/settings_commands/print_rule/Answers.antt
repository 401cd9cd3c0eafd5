use Rattle.std.proofs.Common.{refl}
use Rattle.link_core.specs.Rules.{IsRuleText}
use Rattle.command_scripts.specs.Words.{does_fail, does_lines}
use Rattle.link_shell.specs.SettingsCommands.{rule_is_printed}
use Rattle.link_shell.proofs.settings_commands.print_rule.Goals as goal

pub returns-in_err-shared : goal.returns-in_err-shared
returns-in_err-shared g c = does_fail _ _ c.in_err-shared.ensures.takes c.from_residual.ensures.1

pub returns : goal.returns
returns g c =
    let shared = c.in_ok-shared.shared in
    does_lines _ rule_is_printed (IsRuleText shared.plan shared.shares) c.rule_lines-lines.result {x = shared} c.in_ok-shared.ensures.takes (λ text is. (text, is, refl)) c.rule_lines-lines.ensures c.print_lines.ensures.printed c.print_lines.ensures.wanted
