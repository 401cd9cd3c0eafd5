-- What several commands find of a plan that clerical review goes on with, the decisions of its rule and its journal, first steps of their
-- scripts: `load_decisions`, `load_journal`, `load_reviewed`, `load_reviewed_settings` and `load_journal_plan` go through them (`Takes`).
use Rattle.std.specs.Prelude.{◌≡◌, ℕ, List, [], Bool, true, codes, is_some, unwrap_or, Option, Some, None, Result, Ok, Err, if◌then◌else◌}
use Rattle.link_base.specs.declared.fault.Fault.{Fault}
use Rattle.link_base.specs.declared.fault.Fault.TheVariants as fault
use Rattle.link_base.specs.declared.fault.FileRole.TheVariants as role
use Rattle.pair_decisions.specs.Words.{IsRuleOf}
use Rattle.link_plan.specs.Plan.{PlainShares}
use Rattle.link_plan.specs.Ranges.{KeepsRanges}
use Rattle.link_plan.specs.declared.plan.Plan.{Plan}
use Rattle.review_journal.specs.declared.entry.Entry.{Entry}
use Rattle.standard_files.specs.Files.{StandardPair}
use Rattle.link_core.specs.Rules.{decided, Decisions, decisions_of, IsDecidedIn, IsPreparedFor}
use Rattle.link_core.specs.Prepared.{files_of, PreparedView}
use Rattle.link_core.specs.Results.{IsDecidedFor, KeepsRows}
use Rattle.link_core.specs.Review.{IsJournalOf, journal_in_files}
use Rattle.command_scripts.specs.Words.{Put, ◌>>=◌, file, gives, Steps}
use Rattle.command_steps.specs.Front.{plan_file, prepared_files, shares_over}
use Rattle.command_steps.specs.declared.reviewed.DecidedPlan.{DecidedPlan}
use Rattle.command_steps.specs.declared.reviewed.Reviewed.{Reviewed}
use Rattle.command_steps.specs.declared.reviewed.ReviewedSettings.{ReviewedSettings}

-- the two files of a plan in standard values, the shares of its fields, the decisions on the compared pairs, and the entries of the journal
pub record Review : Type 0 where
  pub files : StandardPair
  pub shares : List PlainShares
  pub decided : Decisions
  pub journal : List Entry

-- machinery: as a body holds it
abbrev pub review_of : Reviewed → Review
review_of r = record { files = files_of r.files; shares = r.shares; decided = decisions_of r.files r.decided; journal = r.journal }

-- the entries of the journal that a plan names, over its two files
abbrev pub journal_file : StandardPair → Option (List ℕ) → Steps (List Entry)
journal_file files None = gives (Ok [])
journal_file files (Some name) = do
  bytes ← file role.Journal name
  gives (journal_in_files files bytes)

-- the shares of a plan's fields, and the decisions of its rule on the compared pairs
pub record SharedDecisions : Type 0 where
  pub shares : List PlainShares
  pub decided : Decisions

-- machinery: as a body holds them
abbrev pub shared_decisions_of : PreparedView → DecidedPlan → SharedDecisions
shared_decisions_of p d = record { shares = d.shares; decided = decisions_of p d.decided }

-- the decisions of the rule of a plan over its two files: the faults of the sample come before too many pairs
abbrev pub decided_plan : Plan → StandardPair → Steps SharedDecisions
decided_plan plan files = do
  shares ← shares_over plan files plan.sample
  decided ← gives (decided plan files shares)
  gives (Ok (record { shares = shares; decided = decided }))

-- machinery: decisions are those of a plan over its files, by the rule of the plan and of the shares, and have the rows of the compared pairs
-- where they are asked for
pub record IsDecidedPlan (plan : Plan) (files : PreparedView) (with_rows : Bool) (d : DecidedPlan) : Type 0 where
  pub of_files : IsDecidedIn files d.decided
  pub of_plan : IsDecidedFor plan files d.decided
  pub rule : IsRuleOf plan d.shares d.decided.rule.cells
  pub rows : with_rows ≡ true → KeepsRows plan files d.decided

-- machinery: the same with the files, and with the journal, whose entries are of them
pub record IsReviewedFor (plan : Plan) (with_rows : Bool) (r : Reviewed) : Type 0 where
  pub ready : IsPreparedFor plan r.files
  pub of_files : IsDecidedIn r.files r.decided
  pub of_plan : IsDecidedFor plan r.files r.decided
  pub rule : IsRuleOf plan r.shares r.decided.rule.cells
  pub rows : with_rows ≡ true → KeepsRows plan r.files r.decided
  pub journal : IsJournalOf r.files.files r.journal

-- the files of a plan with the decisions of its rule on the compared pairs, and the entries of its journal, whose faults come last
abbrev pub reviewed_plan : Plan → Steps Review
reviewed_plan plan = do
  files ← prepared_files plan
  found ← decided_plan plan files
  journal ← journal_file files plan.journal
  gives (Ok (record { files = files; shares = found.shares; decided = found.decided; journal = journal }))

-- a plan, with the decisions of its rule on the compared pairs and the entries of its journal
pub record ReviewedPlan : Type 0 where
  pub plan : Plan
  pub review : Review

-- machinery: as a body holds it
abbrev pub found_of : ReviewedSettings → ReviewedPlan
found_of s = record { plan = s.plan; review = review_of s.reviewed }

-- machinery: the files are those of the plan, and so are the decisions, by the rule of the plan and of the shares
pub record IsReviewed (s : ReviewedSettings) : Type 0 where
  pub ranges : KeepsRanges s.plan
  pub ready : IsPreparedFor s.plan s.reviewed.files
  pub of_files : IsDecidedIn s.reviewed.files s.reviewed.decided
  pub of_plan : IsDecidedFor s.plan s.reviewed.files s.reviewed.decided
  pub rule : IsRuleOf s.plan s.reviewed.shares s.reviewed.decided.rule.cells

-- the plan of a settings file, and then the files that it names
abbrev pub reviewed_settings : List ℕ → Steps ReviewedPlan
reviewed_settings name = do
  plan ← plan_file name
  review ← reviewed_plan plan
  gives (Ok (record { plan = plan; review = review }))

-- a plan that names a journal
abbrev pub with_journal : Plan → Result Plan Fault
with_journal plan = if is_some plan.journal then Ok plan else Err (fault.MissingKey (codes "journal"))

-- the plan of a settings file that must name a journal; that it does is tested after all other keys
abbrev pub journal_plan : List ℕ → Steps Plan
journal_plan name = do
  plan ← plan_file name
  gives (with_journal plan)

abbrev pub named_journal : Plan → List ℕ
named_journal plan = unwrap_or plan.journal []

-- the text of a journal under the name that its plan gives it
abbrev pub put_of_journal : Plan → List ℕ → Put
put_of_journal plan text = record { name = named_journal plan; bytes = text }
