use Rattle.std.proofs.Common.{◌≡◌, ◌*◌, arith, ap, false, get_or}
use Rattle.std.proofs.lemmas.Grind.{common_steps}
use Rattle.patterns.specs.Patterns.{pattern_count_by}
use Rattle.patterns.specs.PatternLaws.{count-le, count-pos, count-some}
use Rattle.patterns.proofs.Lemmas.{count-next}
use Rattle.patterns.proofs.shapes.count.Goals as goal

pub overflow_mul-count : goal.overflow_mul-count
overflow_mul-count c =
    omega (arith, count-next c.args.fields.now c.loop-rare.rare-index c.loop-rare.count (get_or c.args.fields.now c.loop-rare.rare-index false) c.requires c.loop-rare.invariant, ap (λ b. c.loop-rare.count * b) c.outcome_count-count.ensures)

pub returns : goal.returns
returns c =
    let fields = c.args.fields.now in
    let value : c.loop-rare.count ≡ pattern_count_by fields = grind (arith, common_steps) in
    record {
      value = value;
      positive = omega (arith, value, count-pos fields);
      some = λ some. omega (arith, value, count-some fields some);
      few = omega (arith, value, count-le fields 6 c.requires);
    }
