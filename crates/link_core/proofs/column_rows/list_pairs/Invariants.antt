use Rattle.std.proofs.Common.{◌≡◌, ◌≤◌, ◌++◌, drop, length}
use Rattle.link_limits.specs.declared.TheConstants.{MOST_PAIRS}
use Rattle.link_core.specs.Pairs.{pairs_from}
use Rattle.link_core.proofs.column_rows.list_pairs.Given as goal

abbrev pub invariant-loop-at : goal.invariant-loop-at
invariant-loop-at l = record {
  told : l.pairs.items ++ pairs_from l.at (drop l.at l.rows) ≡ pairs_from 0 l.rows;
  few : length l.pairs.items ≤ MOST_PAIRS;
}
