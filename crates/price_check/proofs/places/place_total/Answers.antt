use Rattle.std.proofs.Common.{◌≡◌, ◌*ℤ◌, get_or, pos, to_z, of_z, w64, arith, ◌∙◌, ap, sym}
use Rattle.std.proofs.lemmas.Int.{ints}
use Rattle.price_check.proofs.Order.{place_sum_more}
use Rattle.price_check.proofs.places.place_total.Goals as goal

pub loop-i-preserved : goal.loop-i-preserved
loop-i-preserved c =
    let q = get_or c.args.prices.now c.loop-i.i (pos 0) in
    let n = get_or c.args.capacity.now c.loop-i.i 0 in
    let one = c.requires.small c.loop-i.i (pos 0) (omega arith) in
    let fits : to_z w64 (of_z w64 q) ≡ q = omega (arith, ints, one.0, one.1) in
    let is : c.price_of_places-sum.result ≡ (pos n *ℤ q) = c.price_of_places-sum.ensures.value ∙ ap (λ p. pos n *ℤ p) fits in
    let more = rw (sym is) at (place_sum_more c.args.capacity.now c.args.prices.now c.loop-i.i (omega arith) (omega arith)) in
    record { value = omega (arith, ints, more); low = omega (arith, ints); high = omega (arith, ints) }
