use Rattle.std.proofs.Common.{◌≡◌, Some, None, sym, ◌∙◌, arith}
use Rattle.assignment_steps.proofs.other_links.join_turned.Goals as goal

pub returns-in_default-clause-joined : goal.returns-in_default-clause-joined
returns-in_default-clause-joined c j is = absurd (let clash : None ≡ Some j = sym c.in_default.is ∙ is in cc)

pub returns-then-j-board-clause-joined : goal.returns-then-j-board-clause-joined
returns-then-j-board-clause-joined c j is lt = (let same : c.in-Some.j ≡ j = cc in absurd (omega (arith, same, lt, c.if-j-board.true)))

pub returns-clause-joined : goal.returns-clause-joined
returns-clause-joined c j is lt = (let same : c.in-Some.j ≡ j = cc in rw (← same) c.join_mate.ensures.joined)
