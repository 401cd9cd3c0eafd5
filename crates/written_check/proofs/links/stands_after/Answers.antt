use Rattle.std.proofs.Common.{◌∙◌}
use Rattle.written_check.proofs.LinkLemmas.{last_decides}
use Rattle.written_check.proofs.links.stands_after.Goals as goal

pub returns-in-Some : goal.returns-in-Some
returns-in-Some c = c.stands_before.ensures ∙ last_decides c.args.taken.now c.in-Some.d.now c.args.c c.requires c.in-Some.ensures.value
