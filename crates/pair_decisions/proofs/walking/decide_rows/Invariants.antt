use Rattle.std.proofs.Common.{◌≡◌, ◌≤◌, ◌+◌, ◌++◌, length, All}
use Rattle.link_base.specs.declared.rule.Decision.TheVariants.{Link, Possible}
use Rattle.link_limits.specs.declared.TheConstants.{MOST_PAIRS}
use Rattle.pair_decisions.specs.Words.{pairs_with, IsInside, decided_rows, kept_rows, side_rule}
use Rattle.pair_walk.specs.Rows.{pairs_of_rows}
use Rattle.pair_decisions.proofs.walking.decide_rows.Given as goal

abbrev pub invariant-rows : goal.invariant-rows
invariant-rows l = record {
  same : l.words ≡ l.rule.seed;
  given : l.walker.given ≡ l.found.compared;
  few : l.found.compared ≤ MOST_PAIRS;
  compared : l.found.compared + length (pairs_of_rows l.walker.left) ≡ length (pairs_of_rows l.fn.walker.left);
  rows : l.found.rows.items ++ kept_rows l.with_rows (decided_rows (side_rule l.rule l.sides_a.rows l.sides_b.rows) (pairs_of_rows l.walker.left)) ≡ kept_rows l.with_rows (decided_rows (side_rule l.rule l.sides_a.rows l.sides_b.rows) (pairs_of_rows l.fn.walker.left));
  links : l.found.links.items ++ pairs_with Link (side_rule l.rule l.sides_a.rows l.sides_b.rows) (pairs_of_rows l.walker.left) ≡ pairs_with Link (side_rule l.rule l.sides_a.rows l.sides_b.rows) (pairs_of_rows l.fn.walker.left);
  possible : l.found.possible.items ++ pairs_with Possible (side_rule l.rule l.sides_a.rows l.sides_b.rows) (pairs_of_rows l.walker.left) ≡ pairs_with Possible (side_rule l.rule l.sides_a.rows l.sides_b.rows) (pairs_of_rows l.fn.walker.left);
  inside : All (IsInside (length l.sides_a.rows) (length l.sides_b.rows)) (pairs_of_rows l.walker.left);
}

abbrev pub decreases-rows : goal.decreases-rows
decreases-rows l = length l.walker.left
