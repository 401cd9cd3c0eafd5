use Rattle.std.proofs.Common.{◌≡◌, ◌<◌, ◌∙◌, Option, Some, None, ap, arith, get_or, length, subst, sym, take, is_some, option_map, take_all}
use Rattle.link_base.specs.declared.shares.FieldShares.{FieldShares}
use Rattle.link_plan.specs.Plan.{FieldKeys, plain_shares}
use Rattle.link_plan.specs.Ranges.{IsField}
use Rattle.patterns.specs.Patterns.{rare_in}
use Rattle.pair_decisions.specs.Words.{rares_of, given_in}
use Rattle.pair_decisions.proofs.ListSteps.{made_more, as_many_shares, is_given, kept_more, rare_given}
use Rattle.pair_decisions.proofs.plan_shares.given_shares.Goals.{in-Some+in_ok-push, in_default}
use Rattle.pair_decisions.proofs.plan_shares.given_shares.Goals as goal

pub loop-field-preserved : goal.loop-field-preserved
loop-field-preserved c =
    let fields = c.args.plan.now.fields in
    let field = c.field-item.result in
    let within : c.loop-field.field-index < length fields = omega (arith, ap length c.fields-field-items.ensures.all) in
    let is : field ≡ get_or fields c.loop-field.field-index field = c.field-item.is ∙ ap (λ xs. get_or xs c.loop-field.field-index field) c.fields-field-items.ensures.all in
    let of : IsField (is_some c.args.plan.now.sample) field = subst (IsField (is_some c.args.plan.now.sample)) (sym is) (c.requires.ranges.fields c.loop-field.field-index field within) in
    let seen : option_map plain_shares c.field.inside.shares ≡ field.shares = ap (λ (f : FieldKeys). f.shares) c.field.view_is in
    elim c.match-field.branch [
      | in-Some+in_ok-push w ↦
          let given : field.shares ≡ Some (plain_shares w.in-Some.given) = sym seen ∙ ap (λ (o : Option FieldShares). option_map plain_shares o) w.in-Some.is in
          rw (w.all-is, w.in_ok-push.ensures.items) (record {
            shares = kept_more plain_shares (λ (f : FieldKeys). f.shares) fields c.loop-field.field-index field c.loop-field.all.items w.in-Some.given within is given c.loop-field.invariant.shares;
            rares = made_more (λ (s : FieldShares). s.rare) (λ (f : FieldKeys). is_some f.rare) fields c.loop-field.field-index field c.loop-field.all.items w.in-Some.given within is (rare_given (is_some field.rare) field.shares (plain_shares w.in-Some.given) given of.shares) c.loop-field.invariant.rares;
          })
      | in_default w ↦
          let none : field.shares ≡ None = sym seen ∙ ap (λ (o : Option FieldShares). option_map plain_shares o) w.in_default.is in
          absurd (is_given c.args.plan.now.sample field c.requires.no_sample of none)
    ]

pub returns : goal.returns
returns c =
    let fields = c.args.plan.now.fields in
    let all : take c.loop-field.field-index fields ≡ fields = take_all c.loop-field.field-index fields (omega (arith, c.loop-field-test.false, ap length c.fields-field-items.ensures.all)) in
    let rares : rare_in c.loop-field.all.items ≡ rares_of fields = c.loop-field.invariant.rares ∙ ap rares_of all in
    let as_many = as_many_shares c.loop-field.all.items fields rares in
    record {
      shares = c.loop-field.invariant.shares ∙ ap given_in all;
      fields = record { rares = rares; some = omega (arith, as_many, c.requires.ranges.some_fields); few = omega (arith, as_many, c.requires.ranges.few_fields) };
    }
