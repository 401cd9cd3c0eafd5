use Rattle.std.proofs.Common.{◌≡◌, ◌≤◌, ◌+◌, ◌++◌, length, All, flat_map}
use Rattle.link_limits.specs.declared.TheConstants.{MOST_PAIRS}
use Rattle.link_report.specs.PairsText.{ids_line}
use Rattle.pair_decisions.specs.Words.{IsInside}
use Rattle.pair_walk.specs.Rows.{pairs_of_rows}
use Rattle.link_core.proofs.pairs.push_rows.Given as goal

abbrev pub invariant-rows : goal.invariant-rows
invariant-rows l = record {
  given : l.walker.given + length (pairs_of_rows l.walker.left) ≡ length (pairs_of_rows l.fn.walker.left);
  few : l.walker.given ≤ MOST_PAIRS;
  text : l.writer ++ flat_map (ids_line l.a l.b) (pairs_of_rows l.walker.left) ≡ l.fn.writer ++ flat_map (ids_line l.a l.b) (pairs_of_rows l.fn.walker.left);
  inside : All (IsInside (length l.a) (length l.b)) (pairs_of_rows l.walker.left);
}

abbrev pub decreases-rows : goal.decreases-rows
decreases-rows l = length l.walker.left
