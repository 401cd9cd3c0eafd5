use Rattle.std.proofs.Common.{pos, arith}
use Rattle.std.proofs.lemmas.Int.{ints}
use Rattle.price_check.specs.Assignment.{price_of}
use Rattle.price_check.specs.Verdict.{IsAllowedPrice}
use Rattle.price_check.proofs.first.is_covered.Goals as goal

pub returns : goal.returns
returns c =
    let pa : IsAllowedPrice (price_of c.args.prices_a.now c.args.c.a) = c.requires.small_a c.args.c.a (pos 0) c.requires.in_range.0 in
    let pb : IsAllowedPrice (price_of c.args.prices_b.now c.args.c.b) = c.requires.small_b c.args.c.b (pos 0) c.requires.in_range.1 in
    (λ t. grind (arith, ints), λ t. grind (arith, ints))
