use Rattle.std.proofs.Common.{Err, ap, ◌∙◌}
use Rattle.link_core.specs.Results.{five_texts}
use Rattle.link_report.specs.ReportText.{first_lines_of}
use Rattle.command_scripts.specs.Words.{prints, does_fail, does_print, does_want_after, takes_ok, takes_seen}
use Rattle.command_steps.specs.Reviewed.{found_of}
use Rattle.command_scripts.specs.declared.ends.Ended.TheVariants.{Done}
use Rattle.link_shell.proofs.generate.perform.Goals as goal

pub returns-in_err-found : goal.returns-in_err-found
returns-in_err-found g c =
    does_fail _ _ (takes_seen found_of (Err c.in_err-found.field-0.0) c.in_err-found.ensures.answer) c.from_residual.ensures.1

pub returns-in_err-results : goal.returns-in_err-results
returns-in_err-results g c =
    does_want_after _ _ (takes_ok (found_of c.in_ok-found.found) c.in_ok-found.ensures.answer) c.from_residual-in_err-results.ensures.1

pub returns : goal.returns
returns g c =
    let found = c.in_ok-found.found in
    let results = five_texts c.in_ok-results.results in
    does_print _ _ (takes_ok (found_of found) c.in_ok-found.ensures.answer) c.print-ended.ensures
    (results, c.in_ok-results.ensures, ap (λ t. prints Done t) (c.first_lines-head.ensures ∙ ap (λ b. first_lines_of 16 b) c.bytes.ensures))
