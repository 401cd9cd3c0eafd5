use Rattle.std.proofs.Common.{◌≡◌, ◌∙◌, ap, subst}
use Rattle.standard_files.specs.Ready.{ArePooled}
use Rattle.standard_files.specs.Files.{StandardPair}
use Rattle.link_core.specs.Prepared.{kinds_of}
use Rattle.link_core.proofs.StepLemmas.{has_room, refused_values, values_are, plan_ready}
use Rattle.link_core.proofs.preparing.pool_pair.Goals as goal

pub returns-in-Err-clause-answer : goal.returns-in-Err-clause-answer
returns-in-Err-clause-answer c =
    let of_a : c.records.result.now ≡ c.args.files.a.records = c.records.ensures ∙ ap (λ (f : StandardPair). f.a.records) c.files.view_is in
    let of_b : c.records-2.result.now ≡ c.args.files.b.records = c.records-2.ensures ∙ ap (λ (f : StandardPair). f.b.records) c.files.view_is in
    refused_values c.args.plan.now c.args.pool_limit c.args.files c.records.result.now c.records-2.result.now c.in-Err.fault of_a of_b c.in-Err.ensures.answer

pub returns-in-Ok-clause-pooled : goal.returns-in-Ok-clause-pooled
returns-in-Ok-clause-pooled c =
    let of_a : c.records.result.now ≡ c.args.files.a.records = c.records.ensures ∙ ap (λ (f : StandardPair). f.a.records) c.files.view_is in
    let of_b : c.records-2.result.now ≡ c.args.files.b.records = c.records-2.ensures ∙ ap (λ (f : StandardPair). f.b.records) c.files.view_is in
    values_are c.args.plan.now c.args.pool_limit c.args.files c.records.result.now c.records-2.result.now c.in-Ok.values of_a of_b c.in-Ok.ensures.answer

pub returns-in-Ok-clause-answer : goal.returns-in-Ok-clause-answer
returns-in-Ok-clause-answer c =
    let of_a : c.records.result.now ≡ c.args.files.a.records = c.records.ensures ∙ ap (λ (f : StandardPair). f.a.records) c.files.view_is in
    let of_b : c.records-2.result.now ≡ c.args.files.b.records = c.records-2.ensures ∙ ap (λ (f : StandardPair). f.b.records) c.files.view_is in
    has_room c.args.plan.now c.args.pool_limit c.args.files c.in-Ok.values
    (values_are c.args.plan.now c.args.pool_limit c.args.files c.records.result.now c.records-2.result.now c.in-Ok.values of_a of_b c.in-Ok.ensures.answer)

pub returns-in-Ok-clause-ready : goal.returns-in-Ok-clause-ready
returns-in-Ok-clause-ready c =
    let plan = c.args.plan.now in
    let v = c.in-Ok.values in
    let of_a : c.records.result.now ≡ c.args.files.a.records = c.records.ensures ∙ ap (λ (f : StandardPair). f.a.records) c.files.view_is in
    let of_b : c.records-2.result.now ≡ c.args.files.b.records = c.records-2.ensures ∙ ap (λ (f : StandardPair). f.b.records) c.files.view_is in
    record {
      of_a = c.requires.of_a;
      of_b = c.requires.of_b;
      ready_a = plan_ready plan c.args.files.a.records c.requires.ranges c.requires.of_a;
      ready_b = plan_ready plan c.args.files.b.records c.requires.ranges c.requires.of_b;
      pooled = subst (λ a. ArePooled (kinds_of plan) plan.passes a c.args.files.b.records v) of_a (subst (λ b. ArePooled (kinds_of plan) plan.passes c.records.result.now b v) of_b c.in-Ok.ensures.pooled);
    }
