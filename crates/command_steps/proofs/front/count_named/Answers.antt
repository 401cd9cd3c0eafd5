use Rattle.std.proofs.Common.{◌≡◌, ℕ, List, Ok, subst}
use Rattle.link_base.specs.Words.{Refuses}
use Rattle.link_core.specs.Rules.{counted_by}
use Rattle.command_scripts.specs.Words.{takes_go, takes_ok, takes_refused, takes_stop}
use Rattle.command_steps.proofs.front.count_named.Goals as goal

pub returns-in_err-sample-clause-takes : goal.returns-in_err-sample-clause-takes
returns-in_err-sample-clause-takes g c = takes_stop _ _ c.in_err-sample.ensures c.from_residual.ensures.1

pub returns-in_err-shares-clause-takes : goal.returns-in_err-shares-clause-takes
returns-in_err-shares-clause-takes g c =
    let P : List ℕ → Type 0 = λ bytes. Refuses (counted_by c.args.plan.now c.args.files.now.files bytes) c.in_err-shares.field-0.0 in
    takes_go _ _ c.in_ok-sample.ensures (takes_refused _ _ (subst P c.bytes.ensures c.in_err-shares.ensures.answer) c.from_residual-in_err-shares.ensures.1)

pub returns-clause-takes : goal.returns-clause-takes
returns-clause-takes g c =
    let P : List ℕ → Type 0 = λ bytes. counted_by c.args.plan.now c.args.files.now.files bytes ≡ Ok c.in_ok-shares.shares in
    takes_go _ _ c.in_ok-sample.ensures (takes_ok _ (subst P c.bytes.ensures c.in_ok-shares.ensures.answer))
