use Rattle.std.proofs.Common.{◌≡◌, ◌∙◌, ap}
use Rattle.link_core.specs.Verify.{line_of}
use Rattle.command_scripts.specs.Words.{prints, does_fail, does_go, does_print, does_stop}
use Rattle.link_shell.specs.VerifySettings.{ended_by, ended_if, IsTold, proved_by}
use Rattle.link_shell.proofs.verify_settings.perform.Goals as goal

pub returns-in_err-found : goal.returns-in_err-found
returns-in_err-found g c = does_stop _ _ IsTold c.in_err-found.ensures.takes c.from_residual.ensures.1

pub returns-in_err-told : goal.returns-in_err-told
returns-in_err-told g c = does_go _ _ IsTold c.in_ok-found.ensures.takes (does_fail _ IsTold c.in_err-told.ensures c.from_residual-in_err-told.ensures.1)

pub returns : goal.returns
returns g c =
    let made = c.in_ok-told.ensures in
    let proved = proved_by made.0 in
    let line = c.in_ok-told.told.line in
    let told : prints c.ended_of.result line ≡ prints (ended_by proved) (line_of made.0.found.review.files proved) =
    ap (λ e. prints e line) (c.ended_of.ensures ∙ ap ended_if made.2.verdict.proved) ∙ ap (prints (ended_by proved)) made.2.verdict.line in
    let due : IsTold made.0 (prints c.ended_of.result line) = record { rule = made.2.rule; line = told } in
    does_go _ _ IsTold c.in_ok-found.ensures.takes (does_print _ IsTold {x = made.0} made.1 c.print_text.ensures due)
