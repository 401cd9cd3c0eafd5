use Rattle.std.specs.Prelude.{⊤}
use Rattle.written_check.proofs.near.position_near.Given as goal

abbrev pub invariant-loop-place : goal.invariant-loop-place
invariant-loop-place l = ⊤
