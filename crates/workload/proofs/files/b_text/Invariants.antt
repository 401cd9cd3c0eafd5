use Rattle.std.proofs.Common.{◌≡◌}
use Rattle.workload.specs.Made.{text_of_b}
use Rattle.workload.proofs.files.b_text.Given as goal

abbrev pub invariant-loop-row : goal.invariant-loop-row
invariant-loop-row l = l.text.items ≡ text_of_b l.row
