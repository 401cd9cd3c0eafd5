use Rattle.link_plan.proofs.Lemmas.{names_within, ranges_within}
use Rattle.link_plan.proofs.plan.Plan.within.Goals as goal

pub returns-clause-ranges : goal.returns-clause-ranges
returns-clause-ranges c = λ h. rw c.in_ok-plan.ensures (ranges_within c.args.self.now h)

pub returns-clause-files : goal.returns-clause-files
returns-clause-files c = λ h. rw c.in_ok-plan.ensures (names_within c.args.self.now h)
