use Rattle.std.proofs.Common.{arith}
use Rattle.std.proofs.lemmas.Int.{ints}
use Rattle.std.proofs.lemmas.List.Elements.{All-contains}
use Rattle.price_check.specs.Assignment.{IsCovered}
use Rattle.price_check.proofs.Order.{worth-le-price_sum}
use Rattle.price_check.proofs.laws.certified_is_greatest.Goals as goal

pub returns : goal.returns
returns c = λ candidates links ps qs one cert. record {
  one_to_one = one;
  most = λ others h.
      let within = worth-le-price_sum others ps qs cert.floor_a cert.floor_b h.apart (λ k d l. All-contains (IsCovered ps qs) candidates _ cert.covered (h.among k d l)) in
      omega (arith, ints, within, cert.balanced);
}
