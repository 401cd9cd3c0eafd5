use Rattle.std.proofs.Common.{inl, inr, arith}
use Rattle.std.proofs.lemmas.Bool.{cases_eq}
use Rattle.assignment_steps.proofs.adopt.cover.Goals as goal

pub loop-k-preserved : goal.loop-k-preserved
loop-k-preserved c j low = elim (cases_eq j c.loop-k.k) [
  | inl same ↦ rw same c.if-net-edge.false
  | inr other ↦ c.loop-k.invariant j (omega (arith, low, other))
]
