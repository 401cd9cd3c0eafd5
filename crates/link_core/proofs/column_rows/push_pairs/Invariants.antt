use Rattle.std.proofs.Common.{◌≡◌, ◌++◌, map, take}
use Rattle.pair_walk.specs.Rows.{pair}
use Rattle.link_core.proofs.column_rows.push_pairs.Given as goal

abbrev pub invariant-loop-b : goal.invariant-loop-b
invariant-loop-b l = l.pairs.items ≡ l.fn.pairs.items ++ map (pair l.a) (take l.b-index l.bs)
