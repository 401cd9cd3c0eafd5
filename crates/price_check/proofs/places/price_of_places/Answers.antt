use Rattle.std.proofs.Common.{◌≡◌, pos, to_z, of_z, w64, arith}
use Rattle.std.proofs.lemmas.Int.{ints}
use Rattle.link_limits.specs.declared.TheConstants.{MOST_CAPACITY, MOST_VALUE}
use Rattle.price_check.proofs.Order.{multiple_bounded}
use Rattle.price_check.proofs.places.price_of_places.Goals as goal

pub overflow_mul-result : goal.overflow_mul-result
overflow_mul-result c =
    let small = multiple_bounded c.args.capacity MOST_CAPACITY c.args.price MOST_VALUE c.requires.few c.requires.small.0 c.requires.small.1 in
    let x : to_z w64 (of_z w64 c.from.result) ≡ pos c.args.capacity = omega (arith, ints, c.from.ensures) in
    let y : to_z w64 (of_z w64 c.args.price) ≡ c.args.price = omega (arith, ints) in
    rw (x, y) (omega (arith, ints, small.0, small.1))

pub returns : goal.returns
returns c =
    let small = multiple_bounded c.args.capacity MOST_CAPACITY c.args.price MOST_VALUE c.requires.few c.requires.small.0 c.requires.small.1 in
    let x : to_z w64 (of_z w64 c.from.result) ≡ pos c.args.capacity = omega (arith, ints, c.from.ensures) in
    let y : to_z w64 (of_z w64 c.args.price) ≡ c.args.price = omega (arith, ints) in
    record { value = rw (x, y) (omega (arith, ints, small.0, small.1)); low = rw (x, y) (omega (arith, ints, small.0, small.1)); high = rw (x, y) (omega (arith, ints, small.0, small.1)) }
