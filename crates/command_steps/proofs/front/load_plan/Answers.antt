use Rattle.std.proofs.Common.{◌≡◌, ℕ, List, Ok, subst}
use Rattle.link_base.specs.Words.{Refuses}
use Rattle.settings.specs.Settings.{settings}
use Rattle.command_scripts.specs.Words.{takes_go, takes_ok, takes_refused, takes_stop}
use Rattle.command_steps.proofs.front.load_plan.Goals as goal

pub returns-in_err-bytes-clause-takes : goal.returns-in_err-bytes-clause-takes
returns-in_err-bytes-clause-takes g c = takes_stop _ _ c.in_err-bytes.ensures c.from_residual.ensures.1

pub returns-in_err-plan-clause-takes : goal.returns-in_err-plan-clause-takes
returns-in_err-plan-clause-takes g c =
    let P : List ℕ → Type 0 = λ bytes. Refuses (settings bytes) c.in_err-plan.field-0.0 in
    takes_go _ _ c.in_ok-bytes.ensures (takes_refused _ _ (subst P c.bytes.ensures c.in_err-plan.ensures.gives) c.from_residual-in_err-plan.ensures.1)

pub returns-clause-takes : goal.returns-clause-takes
returns-clause-takes g c =
    let P : List ℕ → Type 0 = λ bytes. settings bytes ≡ Ok c.in_ok-plan.plan in
    takes_go _ _ c.in_ok-bytes.ensures (takes_ok _ (subst P c.bytes.ensures c.in_ok-plan.ensures.gives))
