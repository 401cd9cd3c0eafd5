use Rattle.std.proofs.Common.{Ok, refl}
use Rattle.command_steps.specs.Reviewed.{found_of, ReviewedPlan}
use Rattle.command_scripts.specs.Words.{gives, makes_end, makes_go, makes_want, takes_go, takes_ok}
use Rattle.written_check.specs.Verified.{texts_in}
use Rattle.written_check.specs.declared.written.Written.{Written}
use Rattle.link_shell.specs.VerifySettings.{TellsOf, WrittenPlan}
use Rattle.link_shell.proofs.verify_settings.verify_found.Goals as goal

-- the written files as a body holds them, after a plan with its decisions and its journal
abbrev written_of : ReviewedPlan → Written → WrittenPlan
written_of found written = record { found = found; texts = texts_in written }

pub returns-in_err-written : goal.returns-in_err-written
returns-in_err-written g c = makes_end _ _ TellsOf _ c.in_err-written.ensures.takes c.from_residual.ensures.1

pub returns-in_err-told : goal.returns-in_err-told
returns-in_err-told g c =
    let w = written_of (found_of c.args.found.now) c.in_ok-written.written in
    makes_go _ _ TellsOf _ _ _ c.in_ok-written.ensures.takes (makes_want (gives (Ok w)) TellsOf _ {x = w} (takes_ok _ refl) c.from_residual-in_err-told.ensures.1)

pub returns : goal.returns
returns g c =
    let w = written_of (found_of c.args.found.now) c.in_ok-written.written in
    (w, takes_go _ _ c.in_ok-written.ensures.takes (takes_ok {expected = Ok w} w refl), record { rule = c.requires.rule; verdict = c.in_ok-told.ensures })
