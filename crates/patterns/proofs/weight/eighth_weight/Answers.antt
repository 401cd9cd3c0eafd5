use Rattle.std.proofs.Common.{◌≡◌, ◌^◌, ◌∙◌, ap, arith}
use Rattle.std.proofs.lemmas.Int.{ints}
use Rattle.patterns.proofs.Lemmas.{eighth, result_up, result_down}
use Rattle.patterns.proofs.weight.eighth_weight.Goals as goal

pub pow-high-requires : goal.pow-high-requires
pow-high-requires c = omega (arith, (eighth c.args.m c.from.result c.requires.m_in.0 c.requires.m_in.1 c.from.ensures).1)

pub pow-low-requires : goal.pow-low-requires
pow-low-requires c = omega (arith, (eighth c.args.u c.from-2.result c.requires.u_in.0 c.requires.u_in.1 c.from-2.ensures).1)

pub doublings_within-requires-clause-some : goal.doublings_within-requires-clause-some
doublings_within-requires-clause-some c = omega (arith, c.pow-low.ensures, (eighth c.args.u c.from-2.result c.requires.u_in.0 c.requires.u_in.1 c.from-2.ensures).0)

pub doublings_within-requires-clause-small : goal.doublings_within-requires-clause-small
doublings_within-requires-clause-small c = omega (arith, c.pow-high.ensures, (eighth c.args.m c.from.result c.requires.m_in.0 c.requires.m_in.1 c.from.ensures).1)

pub doublings_within-requires-else-low-high-clause-some : goal.doublings_within-requires-else-low-high-clause-some
doublings_within-requires-else-low-high-clause-some c = omega (arith, c.pow-high.ensures, (eighth c.args.m c.from.result c.requires.m_in.0 c.requires.m_in.1 c.from.ensures).0)

pub doublings_within-requires-else-low-high-clause-small : goal.doublings_within-requires-else-low-high-clause-small
doublings_within-requires-else-low-high-clause-small c = omega (arith, c.pow-low.ensures, (eighth c.args.u c.from-2.result c.requires.u_in.0 c.requires.u_in.1 c.from-2.ensures).1)

pub returns-then-low-high : goal.returns-then-low-high
returns-then-low-high c =
    let e = c.doublings_within.ensures in
    let high : c.pow-high.result ≡ c.args.m ^ 8 = c.pow-high.ensures ∙ ap (λ n. n ^ 8) c.from.ensures in
    let low : c.pow-low.result ≡ c.args.u ^ 8 = c.pow-low.ensures ∙ ap (λ n. n ^ 8) c.from-2.ensures in
    let both = result_up c.args.m c.args.u c.doublings_within.result c.pow-low.result c.pow-high.result _ high low e.bound (omega (arith, ints, c.from-then-low-high.ensures)) e.fits e.over in
    record { greatest = both.0; value = both.1; range = (omega (arith, ints, c.from-then-low-high.ensures, e.bound), omega (arith, ints, c.from-then-low-high.ensures, e.bound)) }

pub returns-else-low-high : goal.returns-else-low-high
returns-else-low-high c =
    let e = c.doublings_within-else-low-high.ensures in
    let high : c.pow-high.result ≡ c.args.m ^ 8 = c.pow-high.ensures ∙ ap (λ n. n ^ 8) c.from.ensures in
    let low : c.pow-low.result ≡ c.args.u ^ 8 = c.pow-low.ensures ∙ ap (λ n. n ^ 8) c.from-2.ensures in
    let both = result_down c.args.m c.args.u c.doublings_within-else-low-high.result c.pow-low.result c.pow-high.result _ high low e.bound (omega (arith, ints, c.from-else-low-high.ensures)) (omega (arith, e.fits, c.if-low-high.false)) (omega (arith, e.over)) in
    record { greatest = both.0; value = both.1; range = (omega (arith, ints, c.from-else-low-high.ensures, e.bound), omega (arith, ints, c.from-else-low-high.ensures, e.bound)) }
