use Rattle.std.proofs.Common.{Result, subst}
use Rattle.link_base.specs.Words.{Gives}
use Rattle.link_base.specs.declared.fault.Fault.{Fault}
use Rattle.command_steps.specs.Reviewed.{found_of, ReviewedPlan}
use Rattle.link_shell.specs.Generate.{decided_input}
use Rattle.link_shell.proofs.generate.decide_made.Goals as goal

pub returns-clause-answer : goal.returns-clause-answer
returns-clause-answer c =
    let is = c.in_ok-input.ensures in
    subst (λ (r : Result ReviewedPlan Fault). Gives found_of r c.decide_input-made.result) (λ i. decided_input (is.settings i) (is.a i) (is.b i) (is.sample i)) c.decide_input-made.ensures.answer
