use Rattle.std.proofs.Common.{◌≡◌, length}
use Rattle.pair_decisions.proofs.ComparatorLemmas.{AreToldFrom}
use Rattle.pair_decisions.proofs.places.places_of.Given as goal

abbrev pub invariant-loop-at : goal.invariant-loop-at
invariant-loop-at l = record {
  as_many : length l.places.items ≡ length l.cells;
  told : AreToldFrom l.cells l.places.items l.at;
}
