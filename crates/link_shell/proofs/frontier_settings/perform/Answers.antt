use Rattle.std.proofs.Common.{map, refl, string_bytes}
use Rattle.csv_rows.specs.Numbers.{number_in}
use Rattle.link_core.specs.Rules.{IsFrontierText}
use Rattle.command_scripts.specs.Words.{does_fail, does_lines}
use Rattle.link_shell.specs.SettingsCommands.{frontier_is_printed}
use Rattle.link_shell.proofs.frontier_settings.perform.Goals as goal

pub returns-in_err-shared : goal.returns-in_err-shared
returns-in_err-shared g c = does_fail _ _ c.in_err-shared.ensures.takes c.from_residual.ensures.1

pub returns : goal.returns
returns g c =
    let shared = c.in_ok-shared.shared in
    let levels = map number_in (map string_bytes c.args.request.now.levels.now) in
    does_lines _ (frontier_is_printed levels) (IsFrontierText shared.plan shared.shares levels) c.text_at-lines.result {x = shared} c.in_ok-shared.ensures.takes (λ text is. (text, is, refl)) c.text_at-lines.ensures c.print_lines.ensures.printed c.print_lines.ensures.wanted
