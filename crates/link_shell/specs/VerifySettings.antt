-- The command `verify SETTINGS`: its steps and what is due, by the part `follows` of the clause `performed` of `perform`. What the three files come
-- to is a function of what the names hold.
use Rattle.std.specs.Prelude.{◌≡◌, ℕ, List, Bool, true, false, codes, Result, Ok}
use Rattle.link_base.specs.declared.fault.FileRole.TheVariants as role
use Rattle.link_base.specs.declared.rule.Candidate.{Candidate}
use Rattle.link_core.specs.Verify.{is_proved, line_of, verified_in, TellsVerdict}
use Rattle.link_core.specs.declared.verify.Verification.{Verification}
use Rattle.link_limits.specs.declared.TheConstants.{MOST_WRITTEN_BYTES}
use Rattle.pair_decisions.specs.Words.{IsRuleOf}
use Rattle.written_check.specs.Verified.{WrittenTexts}
use Rattle.written_check.specs.declared.refutation.Refutation.{Refutation}
use Rattle.command_scripts.specs.Words.{Script, Due, prints, ◌>>=◌, file_within, gives, Steps}
use Rattle.command_steps.specs.Reviewed.{reviewed_settings, ReviewedPlan}
use Rattle.command_scripts.specs.declared.ends.Ended.{Ended}
use Rattle.command_scripts.specs.declared.ends.Ended.TheVariants.{Done, Refuted}

-- the three files that are verified, of at most 128 MiB each
abbrev pub written_files : Steps WrittenTexts
written_files = do
  rule ← file_within MOST_WRITTEN_BYTES role.Rule (codes "rule.csv")
  links ← file_within MOST_WRITTEN_BYTES role.Links (codes "links.csv")
  prices ← file_within MOST_WRITTEN_BYTES role.Prices (codes "prices.csv")
  gives (Ok (record { rule = rule; links = links; prices = prices }))

-- a plan with its decisions and its journal, and the written files
pub record WrittenPlan : Type 0 where
  pub found : ReviewedPlan
  pub texts : WrittenTexts

-- the written files, after a plan with its decisions and its journal
abbrev pub written_plan : ReviewedPlan → Steps WrittenPlan
written_plan found = do
  texts ← written_files
  gives (Ok (record { found = found; texts = texts }))

abbrev pub verified_settings : List ℕ → Steps WrittenPlan
verified_settings name = do
  found ← reviewed_settings name
  written_plan found

-- the links that the files prove, or the first reason that refutes them
abbrev pub proved_by : WrittenPlan → Result (List Candidate) Refutation
proved_by w = verified_in w.found.plan w.found.review.files w.found.review.decided.rule w.found.review.journal w.texts

-- the rule that written files are held against is the filled table of the plan and the shares of its fields
abbrev pub IsHeldToRule : WrittenPlan → Type 0
IsHeldToRule w = IsRuleOf w.found.plan w.found.review.shares w.found.review.decided.rule.cells

-- machinery: it is told whether the files prove their links, with the line that says so
pub record TellsOf (w : WrittenPlan) (told : Verification) : Type 0 where
  pub rule : IsHeldToRule w
  pub verdict : TellsVerdict w.found.review.files (proved_by w) told

-- status 0 where there is no reason, and 9 where there is one
abbrev pub ended_if : Bool → Ended
ended_if true = Done
ended_if false = Refuted

abbrev pub ended_by : Result (List Candidate) Refutation → Ended
ended_by told = ended_if (is_proved told)

-- the line is printed: `yes`, or `no: ` and the first reason, by the filled table of the plan and the shares of its fields
pub record IsTold (w : WrittenPlan) (due : Due) : Type 0 where
  pub rule : IsHeldToRule w
  pub line : due ≡ prints (ended_by (proved_by w)) (line_of w.found.review.files (proved_by w))

abbrev pub verify_script : List ℕ → Script
verify_script name = record { Found = WrittenPlan; steps = verified_settings name; due = IsTold }
