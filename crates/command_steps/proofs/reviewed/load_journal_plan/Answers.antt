use Rattle.std.proofs.Common.{◌≡◌, ◌∙◌, Bool, true, false, codes, if◌then◌else◌, Result, Ok, Err, refl, sym, true≢false}
use Rattle.link_base.specs.Words.{Refuses}
use Rattle.link_base.specs.declared.fault.Fault.{Fault}
use Rattle.link_base.specs.declared.fault.Fault.TheVariants as fault
use Rattle.link_plan.specs.declared.plan.Plan.{Plan}
use Rattle.command_scripts.specs.Words.{takes_fault, takes_go, takes_ok, takes_stop}
use Rattle.command_steps.proofs.reviewed.load_journal_plan.Goals as goal

-- a plan that names a journal, and one that names none
abbrev missing : Result Plan Fault
missing = Err (fault.MissingKey (codes "journal"))

named : (plan : Plan) (t : Bool) → t ≡ true → (if t then Ok plan else missing) ≡ Ok plan
named plan true e = refl
named plan false e = absurd (true≢false (sym e))

unnamed : (plan : Plan) (t : Bool) (f : Fault) → t ≡ false → Refuses missing f → Refuses (if t then Ok plan else missing) f
unnamed plan true f e h = absurd (true≢false e)
unnamed plan false f e h = h

pub returns-in_err-plan-clause-takes : goal.returns-in_err-plan-clause-takes
returns-in_err-plan-clause-takes g c = takes_stop _ _ c.in_err-plan.ensures.takes c.from_residual.ensures.1

pub returns-then-is_some-clause-takes : goal.returns-then-is_some-clause-takes
returns-then-is_some-clause-takes g c =
    takes_go _ _ c.in_ok-plan.ensures.takes (takes_ok _ (named c.in_ok-plan.plan _ (sym c.is_some.ensures ∙ c.if-is_some.true)))

pub returns-clause-takes : goal.returns-clause-takes
returns-clause-takes g c =
    let f = c.missing_journal.result in
    takes_go _ _ c.in_ok-plan.ensures.takes (takes_fault (unnamed c.in_ok-plan.plan _ f (sym c.is_some.ensures ∙ c.if-is_some.false) c.missing_journal.ensures.answer))
