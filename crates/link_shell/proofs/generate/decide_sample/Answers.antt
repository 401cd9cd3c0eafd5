use Rattle.std.proofs.Common.{Result, Err}
use Rattle.link_base.specs.Words.{Gives}
use Rattle.link_base.specs.declared.fault.Fault.{Fault}
use Rattle.link_core.specs.Rules.{decided, counted_by}
use Rattle.command_steps.specs.Reviewed.{shared_decisions_of, SharedDecisions}
use Rattle.link_shell.proofs.HeadlineFacts.{answer_as, goes_on, refuses_here}
use Rattle.link_shell.proofs.generate.decide_sample.Goals as goal

pub returns-in_err-shares-clause-answer : goal.returns-in_err-shares-clause-answer
returns-in_err-shares-clause-answer c =
    let f : Fault = c.in_err-shares.field-0.0 in
    answer_as (shared_decisions_of c.args.files.now) _ c.from_residual.result f c.from_residual.ensures.1
    (refuses_here (shared_decisions_of c.args.files.now) (counted_by c.args.plan.now c.args.files.now.files c.args.sample.now) _ f c.in_err-shares.ensures.answer)

pub returns-in-Err-clause-answer : goal.returns-in-Err-clause-answer
returns-in-Err-clause-answer c =
    let plan = c.args.plan.now in
    let files = c.args.files.now.files in
    let shares = c.in_ok-shares.shares in
    let f : Fault = c.in-Err.fault in
    let Refused : Result SharedDecisions Fault → Type 0 = λ r. Gives (shared_decisions_of c.args.files.now) r (Err f) in
    goes_on Refused (counted_by plan files c.args.sample.now) _ shares c.in_ok-shares.ensures.answer (refuses_here (shared_decisions_of c.args.files.now) (decided plan files shares) _ f c.in-Err.ensures.answer)

pub returns-in-Ok-clause-decided : goal.returns-in-Ok-clause-decided
returns-in-Ok-clause-decided c = let d = c.in-Ok.ensures in record { of_files = d.of_files; of_plan = d.of_plan; rule = d.rule; rows = d.rows }
