use Rattle.std.proofs.Common.{◌≡◌, ◌*◌, ap, arith, map, ◌∙◌}
use Rattle.std.proofs.lemmas.Grind.{common_steps}
use Rattle.patterns.specs.Patterns.{number_of, outcomes}
use Rattle.patterns.specs.PatternLaws.{digit-le, outcome-pattern, outcomes-swap, pattern-lt}
use Rattle.patterns.proofs.Lemmas.{front-lt, next-le}
use Rattle.patterns.proofs.numbers.pattern_over.Goals as goal

pub overflow_mul-number : goal.overflow_mul-number
overflow_mul-number g c =
    let laws = g.met.C.Comparator.laws in
    let front = front-lt (λ k. (laws k).only_rare) c.args.kinds.now c.args.a.now c.args.b.now _ c.loop-i.number _ c.requires.few c.requires.sides_a.as_many c.requires.sides_b.as_many c.loop-i.invariant in
    omega (arith, next-le c.loop-i.number c.rare.result front, ap (λ b. c.loop-i.number * b) c.outcome_count.ensures)

pub overflow_add-number : goal.overflow_add-number
overflow_add-number g c =
    let laws = g.met.C.Comparator.laws in
    let front = front-lt (λ k. (laws k).only_rare) c.args.kinds.now c.args.a.now c.args.b.now _ c.loop-i.number _ c.requires.few c.requires.sides_a.as_many c.requires.sides_b.as_many c.loop-i.invariant in
    omega (arith, next-le c.loop-i.number c.rare.result front, digit-le c.outcome-outcome.result, c.digit.ensures, ap (λ b. c.loop-i.number * b) c.outcome_count.ensures)

pub returns : goal.returns
returns g c =
    let laws = g.met.C.Comparator.laws in
    let rare = map g.C.Comparator.is_rare c.args.kinds.now in
    let number : c.loop-i.number ≡ number_of rare (outcomes g.C.Comparator.outcome_of c.args.kinds.now c.args.a.now c.args.b.now) = grind (arith, common_steps) in
    record {
      number = number;
      range = rw number (pattern-lt (λ k. (laws k).only_rare) c.args.kinds.now c.args.a.now c.args.b.now c.requires.sides_a.as_many c.requires.sides_b.as_many);
      symmetric = number ∙ ap (number_of rare) (outcomes-swap (λ k. (laws k).symmetric) c.args.kinds.now c.args.a.now c.args.b.now);
      digits = rw number (outcome-pattern (λ k. (laws k).only_rare) c.args.kinds.now c.args.a.now c.args.b.now c.requires.sides_a.as_many c.requires.sides_b.as_many);
    }
