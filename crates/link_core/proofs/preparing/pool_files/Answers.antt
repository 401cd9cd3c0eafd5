use Rattle.std.proofs.Common.{◌≡◌, All, List, rules, subst, sym, IfOk}
use Rattle.link_base.specs.Words.{IsAnswer}
use Rattle.value_forms.specs.declared.canons.CompareKind.{CompareKind}
use Rattle.standard_files.specs.Ready.{ArePooled, IsRowFor}
use Rattle.standard_files.specs.Sides.{pooled_values}
use Rattle.link_core.specs.Prepared.{kinds_of, with_fault}
use Rattle.link_core.proofs.StepLemmas.{plan_rows}
use Rattle.link_core.proofs.preparing.pool_files.Goals as goal

pub pool_by-requires-clause-rows_a : goal.pool_by-requires-clause-rows_a
pool_by-requires-clause-rows_a c =
    let same : c.deref.result.now ≡ kinds_of c.args.plan.now = search (rules, c.deref.ensures, c.in_ok-kinds.ensures) in
    let rows : List CompareKind → Type 0 = λ kinds. All (IsRowFor kinds) c.args.a.now in
    subst rows (sym same) (plan_rows c.args.plan.now c.args.a.now c.requires.of_a)

pub pool_by-requires-clause-rows_b : goal.pool_by-requires-clause-rows_b
pool_by-requires-clause-rows_b c =
    let same : c.deref.result.now ≡ kinds_of c.args.plan.now = search (rules, c.deref.ensures, c.in_ok-kinds.ensures) in
    let rows : List CompareKind → Type 0 = λ kinds. All (IsRowFor kinds) c.args.b.now in
    subst rows (sym same) (plan_rows c.args.plan.now c.args.b.now c.requires.of_b)

pub returns-clause-answer : goal.returns-clause-answer
returns-clause-answer c =
    let same : c.deref.result.now ≡ kinds_of c.args.plan.now = search (rules, c.deref.ensures, c.in_ok-kinds.ensures) in
    let answered : List CompareKind → Type 0 = λ kinds. IsAnswer (with_fault (pooled_values c.args.pool_limit kinds c.args.plan.now.passes c.args.a.now c.args.b.now)) c.pool_by.result in
    subst answered same c.pool_by.ensures.answer

pub returns-clause-pooled : goal.returns-clause-pooled
returns-clause-pooled c =
    let same : c.deref.result.now ≡ kinds_of c.args.plan.now = search (rules, c.deref.ensures, c.in_ok-kinds.ensures) in
    let pooled : List CompareKind → Type 0 = λ kinds. IfOk c.pool_by.result (ArePooled kinds c.args.plan.now.passes c.args.a.now c.args.b.now) in
    subst pooled same c.pool_by.ensures.pooled
