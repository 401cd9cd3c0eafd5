use Rattle.std.proofs.Common.{arith}
use Rattle.std.proofs.lemmas.Int.{ints}
use Rattle.std.proofs.lemmas.List.Elements.{All-contains}
use Rattle.price_check.specs.Assignment.{IsCovered}
use Rattle.price_check.proofs.Bounds.{worth-le-place_sum}
use Rattle.price_check.proofs.capacity_laws.certified_within_is_greatest.Goals as goal

pub returns : goal.returns
returns c = λ candidates capacities links ps qs within cert. record {
  within = within;
  most = λ others h.
      let bound = worth-le-place_sum others capacities ps qs cert.floor_a cert.floor_b h.apart h.fits (λ k d l. All-contains (IsCovered ps qs) candidates _ cert.covered (h.among k d l)) in
      omega (arith, ints, bound, cert.balanced);
}
