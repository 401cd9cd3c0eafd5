use Rattle.std.proofs.Common.{◌≡◌, ap}
use Rattle.link_core.specs.Review.{open_text_of}
use Rattle.command_scripts.specs.Words.{is_printed, prints, does_fail, does_lines}
use Rattle.command_steps.specs.Reviewed.{found_of, ReviewedPlan}
use Rattle.command_scripts.specs.declared.ends.Ended.TheVariants.{Done}
use Rattle.link_shell.proofs.settings_commands.print_open.Goals as goal

pub returns-in_err-found : goal.returns-in_err-found
returns-in_err-found g c = does_fail _ _ c.in_err-found.ensures.takes c.from_residual.ensures.1

pub returns : goal.returns
returns g c =
    let found = found_of c.in_ok-found.found in
    does_lines _ (λ (f : ReviewedPlan). is_printed (open_text_of f.review.files f.review.decided f.review.journal)) (λ text. text ≡ open_text_of found.review.files found.review.decided found.review.journal)
    c.open_lines-lines.result {x = found} c.in_ok-found.ensures.takes (λ text is. ap (λ t. prints Done t) is) c.open_lines-lines.ensures c.print_lines.ensures.printed c.print_lines.ensures.wanted
