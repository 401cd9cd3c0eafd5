use Rattle.std.proofs.Common.{refl, inl, inr, arith}
use Rattle.std.proofs.lemmas.Bool.{cases_eq, false≢true}
use Rattle.assignment_steps.proofs.adopt.are_tight.Goals as goal

pub is_tight-requires-clause-places : goal.is_tight-requires-clause-places
is_tight-requires-clause-places c = λ r k h. (c.requires.matched.of_a r k h).0

pub loop-a-preserved : goal.loop-a-preserved
loop-a-preserved c r low k on = elim (cases_eq r c.loop-a.a) [
  | inl same ↦ c.if-not-is_tight.ensures.0 refl k (rw same at on)
  | inr other ↦ c.loop-a.invariant r (omega (arith, low, other)) k on
]

pub returns-then-not-is_tight : goal.returns-then-not-is_tight
returns-then-not-is_tight c = (λ all. absurd (false≢true all), λ all. c.if-not-is_tight.ensures.1 (λ k on. all k (rw (c.requires.matched.of_a c.loop-a.a k on).1 on)))
