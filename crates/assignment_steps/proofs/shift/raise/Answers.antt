use Rattle.std.proofs.Common.{◌≡◌, ◌+◌, ◌-◌, ◌<◌, ◌∙◌, length, refl, arith}
use Rattle.std.proofs.lemmas.List.{get_or_default}
use Rattle.assignment_steps.specs.Words.{number, distance, far}
use Rattle.assignment_steps.proofs.Members.{left_put_back, price_raised, top_put_back}
use Rattle.assignment_steps.proofs.shift.raise.Goals as goal

pub loop-position-preserved : goal.loop-position-preserved
loop-position-preserved c =
    let l = c.loop-position in
    let t = number c.args.touched.now l.position-index in
    let in_dist : t < length l.dist = omega (arith, c.requires.in_range l.position-index 0 c.loop-position-test.true, l.auto.dist) in
    let in_prices : t < length l.prices = omega (arith, in_dist, c.requires.same, l.auto.dist, l.auto.prices) in
    let read = get_or_default l.dist t far 0 in_dist in
    let is : number l.prices t + c.saturating_sub-lacks.result ≡ number l.prices t + (c.args.end - distance l.dist t) = omega (arith, c.saturating_sub-lacks.ensures, read) in
    record {
      kept = λ r. price_raised l.prices l.dist c.args.end t (number l.prices t + c.saturating_sub-lacks.result) in_prices in_dist c.requires.end is r ∙ l.invariant.kept r;
      top = top_put_back l.dist t in_dist l.invariant.top;
      whole = left_put_back l.dist c.args.touched.now l.position-index t in_dist c.loop-position-test.true refl l.invariant.whole;
    }
