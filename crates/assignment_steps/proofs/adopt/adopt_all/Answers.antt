use Rattle.std.proofs.lemmas.Bool.{false≢true}
use Rattle.assignment_steps.proofs.adopt.adopt_all.Goals as goal

pub returns-else-serve-clause-adopted : goal.returns-else-serve-clause-adopted
returns-else-serve-clause-adopted c w = absurd (false≢true (c.if-serve.ensures.1 w))
