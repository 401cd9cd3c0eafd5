use Rattle.std.proofs.Common.{◌≡◌, ◌<◌, ◌≤◌, ◌∙◌, ap, arith, get_or, length, map, take, is_some}
use Rattle.std.specs.List.{enumerate_from}
use Rattle.std.proofs.lemmas.List.{length-map, take_all}
use Rattle.link_base.specs.declared.shares.FieldShares.{FieldShares}
use Rattle.link_plan.specs.Plan.{FieldKeys, PlainShares, plain_shares}
use Rattle.patterns.specs.Patterns.{rare_in}
use Rattle.pair_decisions.specs.Words.{rares_of, shares_at}
use Rattle.pair_decisions.proofs.ListSteps.{made_more, placed_more, as_many_shares, rare_at}
use Rattle.pair_decisions.proofs.plan_shares.shares_by.Goals as goal

pub loop-at-preserved : goal.loop-at-preserved
loop-at-preserved c =
    let fields = c.args.plan.now.fields in
    let field = c.index-fields-at.result in
    let rares = c.args.counts.now.rares in
    let within : c.loop-at.at < length fields = omega (arith, ap length c.fields-fields.ensures.all) in
    let counted : c.loop-at.at < length rares = omega (arith, ap length c.requires.rares, length-map fields (λ (f : FieldKeys). is_some f.rare)) in
    let is : field ≡ get_or fields c.loop-at.at field = c.index-fields-at.is ∙ ap (λ xs. get_or xs c.loop-at.at field) c.fields-fields.ensures.all in
    let rare : c.is_some.result ≡ is_some field.rare = c.is_some.ensures ∙ ap (λ (f : FieldKeys). is_some f.rare) c.field.view_is in
    rw c.in_ok-push.ensures.items (record {
      shares = placed_more plain_shares (shares_at c.args.counts.now) rares c.loop-at.at c.is_some.result c.loop-at.all.items c.shares_of_counts.result counted (rare_at rares fields c.loop-at.at field c.is_some.result c.requires.rares within is rare) c.shares_of_counts.ensures c.loop-at.invariant.shares;
      rares = made_more (λ (s : FieldShares). s.rare) (λ (f : FieldKeys). is_some f.rare) fields c.loop-at.at field c.loop-at.all.items c.shares_of_counts.result within is (ap (λ (s : PlainShares). s.rare) c.shares_of_counts.ensures ∙ rare) c.loop-at.invariant.rares;
    })

pub returns : goal.returns
returns c =
    let fields = c.args.plan.now.fields in
    let rares = c.args.counts.now.rares in
    let at = c.loop-at.at in
    let ends : length fields ≤ at = omega (arith, c.loop-at-test.false, ap length c.fields-fields.ensures.all) in
    let counted : take at rares ≡ rares = take_all at rares (omega (arith, ends, ap length c.requires.rares, length-map fields (λ (f : FieldKeys). is_some f.rare))) in
    let rare : rare_in c.loop-at.all.items ≡ rares_of fields = c.loop-at.invariant.rares ∙ ap rares_of (take_all at fields ends) in
    let as_many = as_many_shares c.loop-at.all.items fields rare in
    let all = ap length c.fields-fields.ensures.all in
    record {
      shares = c.loop-at.invariant.shares ∙ ap (λ rs. map (shares_at c.args.counts.now) (enumerate_from 0 rs)) counted;
      fields = record { rares = rare; some = omega (arith, as_many, all, c.fields-fields.ensures.some); few = omega (arith, as_many, all, c.fields-fields.ensures.few) };
    }
