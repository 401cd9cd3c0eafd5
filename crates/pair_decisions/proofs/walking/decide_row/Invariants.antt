use Rattle.std.proofs.Common.{◌≡◌, ◌+◌, ◌++◌, length, map, take}
use Rattle.link_base.specs.declared.rule.Decision.TheVariants.{Link, Possible}
use Rattle.pair_decisions.specs.Words.{pairs_with, decided_rows, kept_rows, side_rule}
use Rattle.pair_walk.specs.Rows.{pair}
use Rattle.pair_decisions.proofs.walking.decide_row.Given as goal

abbrev pub invariant-loop-b : goal.invariant-loop-b
invariant-loop-b l = record {
  same : l.words ≡ l.fn.words;
  rows : l.found.rows.items ≡ l.fn.found.rows.items ++ kept_rows l.with_rows (decided_rows (side_rule l.rule l.sides_a.rows l.sides_b.rows) (map (pair l.row.a) (take l.b-index l.b-items)));
  links : l.found.links.items ≡ l.fn.found.links.items ++ pairs_with Link (side_rule l.rule l.sides_a.rows l.sides_b.rows) (map (pair l.row.a) (take l.b-index l.b-items));
  possible : l.found.possible.items ≡ l.fn.found.possible.items ++ pairs_with Possible (side_rule l.rule l.sides_a.rows l.sides_b.rows) (map (pair l.row.a) (take l.b-index l.b-items));
  compared : l.found.compared ≡ l.fn.found.compared + length l.row.bs.items;
}
