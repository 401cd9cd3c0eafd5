use Rattle.std.proofs.Common.{refl}
use Rattle.link_shell.specs.Commands.{command_of}
use Rattle.link_shell.proofs.Laws.{follows_file, follows_form}
use Rattle.link_shell.proofs.command.follow.Goals as goal

pub returns-in-Some : goal.returns-in-Some
unfolding command_of
returns-in-Some g c = follows_file _ _ _ _ _ _ c.in-Some.ensures c.perform.ensures

pub returns-in-Some-form_of : goal.returns-in-Some-form_of
unfolding command_of
returns-in-Some-form_of g c = follows_form _ _ _ _ _ _ _ c.in-None.ensures c.in-Some-form_of.ensures c.follow_form.ensures

pub returns-in-None-form_of : goal.returns-in-None-form_of
unfolding command_of
returns-in-None-form_of g c =
    follows_form _ _ _ _ _ _ _ c.in-None.ensures c.in-None-form_of.ensures (record { usage = refl; untouched = record { held = refl; faults = refl }; quiet = record { taken = refl; faults = refl } })
