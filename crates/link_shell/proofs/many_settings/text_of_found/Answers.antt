use Rattle.std.proofs.Common.{Ok, refl}
use Rattle.command_steps.specs.Reviewed.{found_of}
use Rattle.command_scripts.specs.Words.{gives, makes_end, makes_go, makes_want, takes_go, takes_ok}
use Rattle.link_shell.specs.DuplicatesSettings.{IsLinksText, within_capacities}
use Rattle.link_shell.proofs.many_settings.text_of_found.Goals as goal

pub returns-in_err-capacities : goal.returns-in_err-capacities
returns-in_err-capacities g c = makes_end _ _ IsLinksText _ c.in_err-capacities.ensures.takes c.from_residual.ensures.1

pub returns-in_err-text : goal.returns-in_err-text
returns-in_err-text g c =
    let within = within_capacities (found_of c.args.found.now) c.in_ok-capacities.capacities in
    makes_go _ _ IsLinksText _ _ _ c.in_ok-capacities.ensures.takes (makes_want (gives (Ok within)) IsLinksText _ {x = within} (takes_ok _ refl) c.from_residual-in_err-text.ensures.1)

pub returns : goal.returns
returns g c =
    let within = within_capacities (found_of c.args.found.now) c.in_ok-capacities.capacities in
    (within, takes_go _ _ c.in_ok-capacities.ensures.takes (takes_ok {expected = Ok within} within refl), c.in_ok-text.ensures)
