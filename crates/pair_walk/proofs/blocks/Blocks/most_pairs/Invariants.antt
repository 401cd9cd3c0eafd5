use Rattle.std.proofs.Common.{◌-◌, ◌^◌, ◌<◌, ◌≤◌, take}
use Rattle.pair_walk.proofs.JoinLemmas.{in_passes}
use Rattle.pair_walk.proofs.blocks.Blocks.most_pairs.Given as goal

abbrev pub invariant-loop-pass : goal.invariant-loop-pass
invariant-loop-pass l = l.pairs < 2 ^ 64 - 1 → in_passes (take l.pass-index l.pass-items) l.rows ≤ l.pairs
