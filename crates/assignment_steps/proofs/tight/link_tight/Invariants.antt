use Rattle.std.proofs.Common.{ℕ, List, Option}
use Rattle.assignment_steps.specs.declared.market.Edge.{Edge}
use Rattle.assignment_steps.specs.Words.{IsBetween, AreSettled, HasLink}
use Rattle.assignment_steps.proofs.tight.link_tight.Given as goal

-- the first `count` edges were tried
pub record AreTried (es : List Edge) (pa pb : List ℕ) (la lb : List (Option ℕ)) (count : ℕ) : Type 0 where
  pub between : IsBetween es pa pb la lb 0
  pub settled : AreSettled es pa pb la (HasLink lb) count

abbrev pub invariant-loop-k : goal.invariant-loop-k
invariant-loop-k l = AreTried l.net.edges.now l.net.price_a.now l.net.price_b.now l.link_a l.link_b l.k
