use Rattle.std.proofs.Common.{refl}
use Rattle.command_scripts.specs.Words.{does_fail, does_go, does_print, does_stop}
use Rattle.link_shell.specs.DuplicatesSettings.{AreLinksPrinted}
use Rattle.link_shell.proofs.many_settings.perform.Goals as goal

pub returns-in_err-found : goal.returns-in_err-found
returns-in_err-found g c = does_stop _ _ AreLinksPrinted c.in_err-found.ensures.takes c.from_residual.ensures.1

pub returns-in_err-text : goal.returns-in_err-text
returns-in_err-text g c = does_go _ _ AreLinksPrinted c.in_ok-found.ensures.takes (does_fail _ AreLinksPrinted c.in_err-text.ensures c.from_residual-in_err-text.ensures.1)

pub returns : goal.returns
returns g c =
    let made = c.in_ok-text.ensures in
    let printed : AreLinksPrinted made.0 _ = record { text = c.in_ok-text.text; lines = made.2; so = refl } in
    does_go _ _ AreLinksPrinted c.in_ok-found.ensures.takes (does_print _ AreLinksPrinted {x = made.0} made.1 c.print_text.ensures printed)
