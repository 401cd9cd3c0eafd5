use Rattle.std.proofs.Common.{refl}
use Rattle.command_scripts.specs.Words.{is_printed, does_fail, does_go, does_print, does_stop, takes_fault, takes_ok}
use Rattle.link_shell.proofs.pairs_columns.perform.Goals as goal

pub returns-in_err-inputs : goal.returns-in_err-inputs
returns-in_err-inputs g c = does_stop _ _ is_printed c.in_err-inputs.ensures c.from_residual.ensures.1

pub returns-in_err-text : goal.returns-in_err-text
returns-in_err-text g c =
    does_go _ _ is_printed c.in_ok-inputs.ensures (does_fail _ is_printed (takes_fault c.in_err-text.ensures.answer) c.from_residual-in_err-text.ensures.1)

pub returns : goal.returns
returns g c =
    does_go _ _ is_printed c.in_ok-inputs.ensures (does_print _ is_printed (takes_ok c.in_ok-text.text c.in_ok-text.ensures.answer) c.print_text.ensures refl)
