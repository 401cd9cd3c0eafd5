use Rattle.std.proofs.Common.{◌≡◌, ◌++◌, drop, flat_map}
use Rattle.link_core.specs.Pairs.{pair_line, pairs_text}
use Rattle.link_core.proofs.row_text.rows_text.Given as goal

abbrev pub invariant-loop-pair : goal.invariant-loop-pair
invariant-loop-pair l = l.text.items ++ flat_map pair_line (drop l.pair-index l.pairs) ≡ pairs_text l.pairs
