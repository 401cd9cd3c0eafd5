use Rattle.std.proofs.Common.{◌≡◌, ◌<◌, ◌∙◌, ap, arith, length, length-append, map, subst, take, get_or, take_all}
use Rattle.std.specs.List.{enumerate_from}
use Rattle.pair_decisions.specs.Words.{answers_of, comparator_at}
use Rattle.pair_decisions.proofs.ComparatorLemmas.{AskedOf, asked_more, rares_answered, sides_valid}
use Rattle.pair_decisions.proofs.ListSteps.{placed_more}
use Rattle.pair_decisions.proofs.comparisons.comparisons_of.Goals as goal

pub loop-at-preserved : goal.loop-at-preserved
loop-at-preserved c =
    let fields = c.args.plan.now.fields in
    let field = c.index-fields-at.result in
    let within : c.loop-at.at < length fields = omega (arith, ap length c.fields-fields.ensures.all) in
    let is : field ≡ get_or fields c.loop-at.at field = c.index-fields-at.is ∙ ap (λ xs. get_or xs c.loop-at.at field) c.fields-fields.ensures.all in
    rw c.in_ok-push.ensures.items (record {
      answers = placed_more answers_of (comparator_at c.args.texts c.args.sides_a.now.rows c.args.sides_b.now.rows) fields c.loop-at.at field c.loop-at.all.items c.in_ok-comparison_at.field-0 within is c.in_ok-comparison_at.ensures.answers c.loop-at.invariant.answers;
      as_many = simp length-append (omega arith);
      valid = asked_more c.args.texts fields c.loop-at.all.items c.loop-at.at field c.in_ok-comparison_at.field-0 c.loop-at.invariant.as_many within is c.in_ok-comparison_at.ensures.valid c.loop-at.invariant.valid;
    })

pub returns : goal.returns
returns c =
    let fields = c.args.plan.now.fields in
    let rows_a = c.args.sides_a.now.rows in
    let rows_b = c.args.sides_b.now.rows in
    let found = c.loop-at.all.items in
    let ends : c.loop-at.at ≡ length fields = omega (arith, ap length c.fields-fields.ensures.all) in
    let all : take c.loop-at.at fields ≡ fields = take_all c.loop-at.at fields (omega arith) in
    let answers = c.loop-at.invariant.answers ∙ ap (λ xs. map (comparator_at c.args.texts rows_a rows_b) (enumerate_from 0 xs)) all in
    let as_many = c.loop-at.invariant.as_many ∙ ends in
    let asked = subst (AskedOf c.args.texts fields found) ends c.loop-at.invariant.valid in
    record {
      answers = answers;
      rares = rares_answered c.args.texts rows_a rows_b fields found answers;
      some = omega (arith, as_many, c.requires.ranges.some_fields);
      few = omega (arith, as_many, c.requires.ranges.few_fields);
      valid_a = λ k d lt. sides_valid c.args.texts fields found (get_or rows_a k d) (c.requires.sides_a k d lt) as_many asked;
      valid_b = λ k d lt. sides_valid c.args.texts fields found (get_or rows_b k d) (c.requires.sides_b k d lt) as_many asked;
    }
