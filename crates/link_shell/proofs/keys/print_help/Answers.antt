use Rattle.std.proofs.Common.{refl}
use Rattle.command_scripts.specs.Words.{does_print, is_printed, takes_ok}
use Rattle.link_shell.proofs.keys.print_help.Goals as goal

pub returns : goal.returns
returns g c = does_print _ is_printed (takes_ok _ refl) c.print.ensures refl
