use Rattle.std.proofs.Common.{◌≡◌, ℕ, List, Result, Ok, subst}
use Rattle.link_base.specs.Words.{Refuses}
use Rattle.link_base.specs.declared.fault.FileRole.TheVariants as role
use Rattle.link_outside.specs.declared.refusal.Refusal.{Refusal}
use Rattle.link_core.specs.RunLaws.{same_rows}
use Rattle.link_core.specs.Prepared.{files_of, prepared}
use Rattle.link_limits.specs.declared.TheConstants.{MOST_DISTINCT_BYTES}
use Rattle.command_scripts.specs.Words.{StoreSeen, file, Takes, of_bytes, seen_err, takes_go, takes_ok, takes_refused, takes_stop}
use Rattle.link_shell.proofs.duplicates_settings.load_within.Goals as goal

-- the load of a file by its name
by_name : (n m : List ℕ) {store : StoreSeen} {result : Result (List ℕ) Refusal} → n ≡ m → Takes (file role.A n) store result → Takes (file role.A m) store result
by_name n m {store = store} {result = result} e h = subst (λ x. Takes (file role.A x) store result) e h

pub returns-in_err-a-clause-takes : goal.returns-in_err-a-clause-takes
returns-in_err-a-clause-takes g c =
    takes_stop _ _ (by_name c.file_name.result.now c.args.plan.now.file_a c.file_name.ensures c.in_err-a.ensures) (seen_err files_of c.from_residual.result _ c.from_residual.ensures.1)

pub returns-in_err-files-clause-takes : goal.returns-in_err-files-clause-takes
returns-in_err-files-clause-takes g c =
    let a = c.in_ok-a.a in
    let refused = of_bytes (λ x y. Refuses (prepared c.args.plan.now MOST_DISTINCT_BYTES x y) c.in_err-files.field-0.0) {a = a} {b = a} c.bytes.ensures c.bytes-2.ensures c.in_err-files.ensures.answer in
    takes_go _ _ (by_name c.file_name.result.now c.args.plan.now.file_a c.file_name.ensures c.in_ok-a.ensures)
    (takes_refused _ _ refused (seen_err files_of c.from_residual-in_err-files.result _ c.from_residual-in_err-files.ensures.1))

pub returns-clause-takes : goal.returns-clause-takes
returns-clause-takes g c =
    let a = c.in_ok-a.a in
    let answer = of_bytes (λ x y. prepared c.args.plan.now MOST_DISTINCT_BYTES x y ≡ Ok (files_of c.in_ok-files.files)) {a = a} {b = a} c.bytes.ensures c.bytes-2.ensures c.in_ok-files.ensures.answer in
    takes_go _ _ (by_name c.file_name.result.now c.args.plan.now.file_a c.file_name.ensures c.in_ok-a.ensures) (takes_ok _ answer)

-- both files have as many records where the plan is that of a file with itself
pub returns-clause-same : goal.returns-clause-same
returns-clause-same g c =
    let a = c.in_ok-a.a in
    let p = files_of c.in_ok-files.files in
    let answer = of_bytes (λ x y. prepared c.args.plan.now MOST_DISTINCT_BYTES x y ≡ Ok p) {a = a} {b = a} c.bytes.ensures c.bytes-2.ensures c.in_ok-files.ensures.answer in
    same_rows c.requires.within.0 MOST_DISTINCT_BYTES a p (subst (λ q. prepared q MOST_DISTINCT_BYTES a a ≡ Ok p) c.requires.within.1 answer)
