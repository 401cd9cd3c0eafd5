use Rattle.std.proofs.Common.{◌≡◌, ◌<◌, ◌+◌, ◌-◌, ap, arith, drop, length, length-drop, sym, take, ◌∙◌, length-take, take_all}
use Rattle.patterns.specs.Patterns.{outcome_at, pattern_count_by}
use Rattle.patterns.proofs.Lemmas.{outcome-last, outcome-step}
use Rattle.patterns.proofs.shapes.outcome_of.Goals as goal

pub loop-i-preserved : goal.loop-i-preserved
loop-i-preserved c =
    let fields = take c.from.result c.args.shape.now.rare in
    let next = c.loop-i.i + 1 in
    let within : c.from-place.result < length fields = omega (arith, length-take c.from.result c.args.shape.now.rare, c.from.ensures, c.from-place.ensures) in
    let left : take (length fields - next) (drop next fields) ≡ drop next fields = take_all (length fields - next) (drop next fields) (simp length-drop (omega arith)) in
    let counted : c.count-rest.result ≡ pattern_count_by (drop next fields) = c.count-rest.ensures.value ∙ ap pattern_count_by left in
    rw counted (sym (outcome-step fields c.loop-i.i c.from-place.result c.loop-i.rest c.loop-i-test.true within) ∙ c.loop-i.invariant)

pub returns : goal.returns
returns c =
    let fields = take c.from.result c.args.shape.now.rare in
    let next = c.from-place.result + 1 in
    let within : c.from-place.result < length fields = omega (arith, length-take c.from.result c.args.shape.now.rare, c.from.ensures, c.from-place.ensures) in
    let left : take (length fields - next) (drop next fields) ≡ drop next fields = take_all (length fields - next) (drop next fields) (simp length-drop (omega arith)) in
    let counted : c.count.result ≡ pattern_count_by (drop next fields) = c.count.ensures.value ∙ ap pattern_count_by left in
    let last : c.loop-i.i ≡ c.from-place.result = omega arith in
    let front = rw last at c.loop-i.invariant in
    rw (c.outcome_by.ensures, counted)
    (sym (outcome-last fields c.from-place.result c.loop-i.rest within) ∙ front ∙ (λ i. outcome_at (take (c.from.ensures i) c.args.shape.now.rare) c.args.pattern (c.from-place.ensures i)))
