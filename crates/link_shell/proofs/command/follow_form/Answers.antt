use Rattle.std.proofs.Common.{ap}
use Rattle.link_shell.specs.Commands.{generation}
use Rattle.link_shell.specs.declared.command.Form.TheVariants as form
use Rattle.link_shell.proofs.Laws.{follows_words}
use Rattle.link_shell.proofs.command.follow_form.Goals as goal

pub returns-in-Some-read-5 : goal.returns-in-Some-read-5
returns-in-Some-read-5 g c =
    follows_words _ _ _ form.Generate _ _ (generation c.in-Some-read-5.rows) c.in-Generate.is c.in-Some-read-5.ensures.some (ap generation c.in-Some-read-5.ensures.rows) c.perform-in-Some-read-5.ensures
