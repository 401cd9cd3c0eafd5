use Rattle.std.proofs.Common.{◌≡◌, map, take}
use Rattle.written_check.specs.Certified.{pair_of}
use Rattle.written_check.proofs.sums.verify_apart.Given as goal

abbrev pub invariant-loop-link : goal.invariant-loop-link
invariant-loop-link l = l.pairs.items ≡ map pair_of (take l.link-index l.links)
