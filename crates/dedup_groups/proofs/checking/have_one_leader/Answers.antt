use Rattle.std.proofs.Common.{inl, inr, refl, arith}
use Rattle.std.proofs.lemmas.Bool.{cases_eq, false≢true}
use Rattle.std.proofs.lemmas.List.{get_or_default}
use Rattle.dedup_groups.proofs.checking.have_one_leader.Goals as goal

pub returns-then-leader-link : goal.returns-then-leader-link
returns-then-leader-link c = (λ yes. absurd (false≢true yes), λ all. absurd (c.if-leader-link.true (all c.loop-link.link-index (record { a = 0; b = 0 }) c.loop-link-test.true)))

pub loop-link-preserved : goal.loop-link-preserved
loop-link-preserved c = λ k d low. elim (cases_eq k c.loop-link.link-index) [
  | inl same ↦ rw (same, get_or_default c.args.links.now c.loop-link.link-index d (record { a = 0; b = 0 }) c.loop-link-test.true) c.if-leader-link.false
  | inr other ↦ c.loop-link.invariant k d (omega (arith, low, other))
]

pub returns : goal.returns
returns c = (λ yes k d lt. c.loop-link.invariant k d (omega (arith, lt, c.loop-link-test.false)), λ all. refl)
