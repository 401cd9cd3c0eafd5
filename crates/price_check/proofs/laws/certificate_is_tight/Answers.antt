use Rattle.std.proofs.Common.{arith}
use Rattle.std.proofs.lemmas.Int.{ints}
use Rattle.price_check.proofs.Order.{unlinked_a, unlinked_b, covered_links, IsTight-from_sums}
use Rattle.price_check.proofs.laws.certificate_is_tight.Goals as goal

pub returns-clause-unlinked : goal.returns-clause-unlinked
returns-clause-unlinked c = λ candidates links ps qs one cert position.
    let covered = covered_links candidates links ps qs one.among cert.covered in (
      unlinked_a links ps qs position cert.floor_a cert.floor_b one.apart covered (omega (arith, ints, cert.balanced)),
      unlinked_b links ps qs position cert.floor_a cert.floor_b one.apart covered (omega (arith, ints, cert.balanced)),
    )

pub returns-clause-linked : goal.returns-clause-linked
returns-clause-linked c = λ candidates links ps qs one cert.
    IsTight-from_sums links ps qs cert.floor_a cert.floor_b one.apart (covered_links candidates links ps qs one.among cert.covered) (omega (arith, ints, cert.balanced))
