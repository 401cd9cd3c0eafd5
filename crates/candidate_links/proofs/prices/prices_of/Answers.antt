use Rattle.std.proofs.Common.{arith, rules, w64, FitsSigned}
use Rattle.std.proofs.lemmas.Int.{to_z-of_z}
use Rattle.candidate_links.proofs.ListedLemmas.{all_prices, price_next}
use Rattle.candidate_links.proofs.prices.prices_of.Goals as goal

pub loop-at-preserved : goal.loop-at-preserved
loop-at-preserved g c = λ told long is.
    let fits : FitsSigned w64 c.price.result = search rules in
    price_next told c.loop-at.at c.price.result c.loop-at.prices.items c.push.new.self.items (rw long c.loop-at-test.true) (is c.loop-at.at c.price.result c.loop-at-test.true c.price.ensures)
    (c.loop-at.invariant told long is) (rw (to_z-of_z w64 c.price.result fits) at c.in_ok-push.ensures.items)

pub returns : goal.returns
returns g c = λ told long is. all_prices told c.loop-at.at c.loop-at.prices.items (omega (arith, long, c.loop-at-test.false)) (c.loop-at.invariant told long is)
