use Rattle.std.proofs.Common.{refl}
use Rattle.command_steps.specs.Reviewed.{found_of}
use Rattle.command_scripts.specs.Words.{seen_err, takes_go, takes_ok, takes_stop}
use Rattle.command_steps.proofs.reviewed.load_reviewed_settings.Goals as goal

pub returns-in_err-plan-clause-takes : goal.returns-in_err-plan-clause-takes
returns-in_err-plan-clause-takes g c = takes_stop _ _ c.in_err-plan.ensures.takes (seen_err found_of c.from_residual.result _ c.from_residual.ensures.1)

pub returns-in-Err-clause-takes : goal.returns-in-Err-clause-takes
returns-in-Err-clause-takes g c = takes_go _ _ c.in_ok-plan.ensures.takes (takes_stop _ _ c.in-Err.ensures.takes refl)

pub returns-in-Ok-clause-takes : goal.returns-in-Ok-clause-takes
returns-in-Ok-clause-takes g c = takes_go _ _ c.in_ok-plan.ensures.takes (takes_go _ _ c.in-Ok.ensures.takes (takes_ok _ refl))

pub returns-in-Ok-clause-found : goal.returns-in-Ok-clause-found
returns-in-Ok-clause-found g c =
    let r = c.in-Ok.ensures.reviewed in
    record { ranges = c.in_ok-plan.ensures.ranges; ready = r.ready; of_files = r.of_files; of_plan = r.of_plan; rule = r.rule }

pub returns-in-Ok-clause-rows : goal.returns-in-Ok-clause-rows
returns-in-Ok-clause-rows g c = c.in-Ok.ensures.reviewed.rows
