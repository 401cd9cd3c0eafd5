use Rattle.std.proofs.Common.{◌-◌, ◌^◌, ◌<◌, ◌≤◌, length, take, sum_by}
use Rattle.pair_walk.proofs.blocks.listed_in.Given as goal

abbrev pub invariant-loop-at : goal.invariant-loop-at
invariant-loop-at l = l.listed < 2 ^ 64 - 1 → sum_by length (take l.at l.pass) ≤ l.listed
