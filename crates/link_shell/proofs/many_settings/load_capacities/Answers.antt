use Rattle.std.proofs.Common.{◌≡◌, ℕ, List, Ok, subst}
use Rattle.link_base.specs.Words.{Refuses}
use Rattle.link_core.specs.Many.{capacities_in_file}
use Rattle.command_scripts.specs.Words.{takes_go, takes_ok, takes_refused, takes_stop}
use Rattle.link_shell.proofs.many_settings.load_capacities.Goals as goal

pub returns-in_err-bytes-clause-takes : goal.returns-in_err-bytes-clause-takes
returns-in_err-bytes-clause-takes g c = takes_stop _ _ c.in_err-bytes.ensures c.from_residual.ensures.1

pub returns-in_err-capacities-clause-takes : goal.returns-in_err-capacities-clause-takes
returns-in_err-capacities-clause-takes g c =
    let P : List ℕ → Type 0 = λ bytes. Refuses (capacities_in_file c.args.found.now.reviewed.files.files bytes) c.in_err-capacities.field-0.0 in
    takes_go _ _ c.in_ok-bytes.ensures (takes_refused _ _ (subst P c.bytes.ensures c.in_err-capacities.ensures.answer) c.from_residual-in_err-capacities.ensures.1)

pub returns-clause-takes : goal.returns-clause-takes
returns-clause-takes g c =
    let P : List ℕ → Type 0 = λ bytes. capacities_in_file c.args.found.now.reviewed.files.files bytes ≡ Ok c.in_ok-capacities.capacities in
    takes_go _ _ c.in_ok-bytes.ensures (takes_ok _ (subst P c.bytes.ensures c.in_ok-capacities.ensures.answer))
