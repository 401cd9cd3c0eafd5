use Rattle.std.proofs.Common.{refl}
use Rattle.link_core.specs.Results.{five_texts}
use Rattle.command_steps.specs.Reviewed.{found_of}
use Rattle.command_scripts.specs.Words.{does_fail, does_puts, does_want_after}
use Rattle.link_shell.specs.SettingsCommands.{ArePut}
use Rattle.link_shell.proofs.run_settings.perform.Goals as goal

pub returns-in_err-found : goal.returns-in_err-found
returns-in_err-found g c = does_fail _ ArePut c.in_err-found.ensures.takes c.from_residual.ensures.1

pub returns-in_err-made : goal.returns-in_err-made
returns-in_err-made g c = does_want_after _ ArePut {x = found_of c.in_ok-found.found} c.in_ok-found.ensures.takes c.from_residual-in_err-made.ensures.1

pub returns : goal.returns
returns g c =
    let found = found_of c.in_ok-found.found in
    let put : ArePut found _ = record { texts = five_texts c.in_ok-made.made; made = c.in_ok-made.ensures; rule = c.in_ok-found.ensures.found.rule; so = refl } in
    does_puts _ ArePut {x = found} c.in_ok-found.ensures.takes c.put_results-ended.ensures put

pub finish_found-requires-clause-rows : goal.finish_found-requires-clause-rows
finish_found-requires-clause-rows g c = c.in_ok-found.ensures.rows refl
