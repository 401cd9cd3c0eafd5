use Rattle.std.proofs.Common.{◌∙◌, IfOk, List, ℕ, subst}
use Rattle.link_core.specs.Rules.{IsFrontierText}
use Rattle.link_shell.proofs.frontier_settings.text_at.Goals as goal

pub returns : goal.returns
returns c =
    let shared = c.args.shared.now in
    let P : List ℕ → Type 0 = λ levels. IfOk c.frontier_lines-lines.result (IsFrontierText shared.plan shared.shares levels) in
    subst P (c.deref.ensures.value ∙ c.in_ok-levels.ensures.levels) c.frontier_lines-lines.ensures
