-- What `yes` means, whoever wrote the three files: their rows are exactly those of the filled, hence least, rule, of one-to-one links of
-- greatest total weight, and of prices, one for each record, that certify it (clause `yes_means` of `linkage`, law `verify_tells`). Where names
-- hold such rows, in any form that CSV allows, `verify` says yes (clause `rows_say_yes`). The law `verified_means` of `written_check` says the
-- same of the five steps of `verified`.
use Rattle.std.specs.Prelude.{◌≡◌, ◌⊎◌, ◌++◌, ℕ, List, codes, Some, Ok, ◌≤◌, ℤ, length}
use Rattle.link_base.specs.declared.rule.Candidate.{Candidate}
use Rattle.link_outside.specs.Outside.{Held, Rose}
use Rattle.command_scripts.specs.Words.{SinkSeen, StoreSeen, outcome, Due, ended_of, prints}
use Rattle.link_shell.specs.Commands.{command_of, run_of_settings, verification_of_settings}
use Rattle.link_shell.specs.VerifySettings.{proved_by, verified_settings, WrittenPlan, IsTold, written_files}
use Rattle.link_base.specs.declared.rule.RuleCell.{RuleCell}
use Rattle.link_core.specs.Results.{compared_in}
use Rattle.link_limits.specs.declared.TheConstants.{MOST_PAIRS}
use Rattle.link_plan.specs.Plan.{PlainShares}
use Rattle.link_plan.specs.declared.plan.Plan.{Plan}
use Rattle.pair_decisions.specs.Words.{rares_of, rule_of_plan, FileRule}
use Rattle.review_journal.specs.declared.entry.Entry.{Entry}
use Rattle.written_check.specs.Laws.{HaveRows}
use Rattle.written_check.specs.Verified.{WrittenTexts}
use Rattle.standard_files.specs.Files.{StandardPair}
use Rattle.command_scripts.specs.declared.ends.Ended.TheVariants.{Done, Refuted}
use Rattle.link_shell.specs.Headline.{Accepted, AreGreatestLinks, IsLeastRule}

-- What a run leaves is verified: after a run at status 0 the three files that `verify` reads prove their links, and none is longer than it
-- may be (clause `proved_by_run` of `linkage`); and where files prove their links, `verify` says yes, unless memory is wanted (clause
-- `yes_where_proved`). `run_then_verify` makes both calls, and says so of the two.

-- what names hold proves its links, for the inputs of a settings file: all that `verify` loads is held and within its limit, and there is
-- no reason against the rule, the links and the prices
pub record HoldsProof (name : List ℕ) (held : Held) : Type 0 where
  pub found : WrittenPlan
  pub loaded : outcome (verified_settings name) held ≡ Ok found
  pub links : List Candidate
  pub proved : proved_by found ≡ Ok links

-- the words are `run` with a settings file, the answer is 0, and the store tells
abbrev pub ProvedByRun : List (List ℕ) → StoreSeen → ℕ → Type 0
ProvedByRun words store status =
    (name : List ℕ) → command_of words ≡ Some (run_of_settings name) → status ≡ 0 → store.tells → HoldsProof name store.held_after

-- `out` took the line `yes`, and the status is 0; or memory is wanted
abbrev pub SaysYes : SinkSeen → ℕ → Type 0
SaysYes out status = ((status ≡ 0) × (out.tells → out.taken_after ≡ out.taken_before ++ codes "yes\n")) ⊎ (status ≡ 8)

-- the words are `verify` with a settings file, the store tells, what it holds proves its links, and in this call neither it nor `out` failed
abbrev pub YesWhereProved : List (List ℕ) → StoreSeen → SinkSeen → ℕ → Type 0
YesWhereProved words store out status =
    (name : List ℕ) → command_of words ≡ Some (verification_of_settings name) → store.tells → HoldsProof name store.held_before
    → store.faults_after ≡ store.faults_before → ¬ (Rose out.faults_before out.faults_after) → SaysYes out status

-- a run, and then `verify` with the same settings file over what the run has left: the run answered 0, the store tells, and in neither call
-- it or `out` failed
abbrev pub YesAfterRun : List (List ℕ) → List (List ℕ) → StoreSeen → SinkSeen → ℕ → ℕ → Type 0
YesAfterRun run verify store out ran verified =
    (name : List ℕ) → command_of run ≡ Some (run_of_settings name) → command_of verify ≡ Some (verification_of_settings name) → ran ≡ 0 → store.tells
    → store.faults_after ≡ store.faults_before → ¬ (Rose out.faults_before out.faults_after) → SaysYes out verified

-- the rule of a plan with these cells, over its two files
abbrev pub rule_with : Plan → StandardPair → List RuleCell → FileRule
rule_with plan files cells = rule_of_plan plan files.a.records files.b.records cells

-- texts prove links for a plan, its two files, the shares of its fields and a journal: their rows are those of the filled table at the
-- asked levels, than which no randomised rule with levels at most its own has a smaller chance of a possible link; of one-to-one links,
-- each by rule or review, of greatest total weight; and of prices, one for each record, that certify it
pub record ProveByRows (plan : Plan) (files : StandardPair) (shares : List PlainShares) (journal : List Entry) (texts : WrittenTexts) : Type 0 where
  pub cells : List RuleCell
  pub links : List Candidate
  pub prices_a : List ℤ
  pub prices_b : List ℤ
  pub a_least_rule : IsLeastRule plan shares (rule_with plan files cells)
  pub greatest_links : AreGreatestLinks plan files (rule_with plan files cells) journal links prices_a prices_b
  pub rows : HaveRows (rares_of plan.fields) cells links prices_a prices_b files.a.records files.b.records texts

-- names hold an input that a run accepts, with not too many compared pairs, and three written files, each within its limit, that prove
-- links by their rows
pub record HoldsRows (name : List ℕ) (held : Held) : Type 0 where
  pub input : Accepted name held
  pub few : length (compared_in input.plan input.files) ≤ MOST_PAIRS
  pub texts : WrittenTexts
  pub of_texts : outcome written_files held ≡ Ok texts
  pub proof : ProveByRows input.plan input.files input.shares input.journal texts

-- the line `yes` is due, and names hold rows that prove links
pub record YesIsDue (name : List ℕ) (held : Held) (due : Due) : Type 0 where
  pub line : due ≡ prints Done (codes "yes\n")
  pub rows : HoldsRows name held

-- what is due ends with 0 only where names hold rows that prove links, and with 9 only where they do not
pub record TellsRows (name : List ℕ) (held : Held) (due : Due) : Type 0 where
  pub done : ended_of due ≡ Done → YesIsDue name held due
  pub refuted : ended_of due ≡ Refuted → ¬ HoldsRows name held

-- what is due of `verify` by what names hold: clause `told` of `verify_tells`
abbrev pub VerifyTells : Type 0
VerifyTells =
    (name : List ℕ) (held : Held) (w : WrittenPlan) (due : Due) → outcome (verified_settings name) held ≡ Ok w → IsTold w due → TellsRows name held due

-- rows that prove links are a proof by the five steps: clause `proved` of `verify_tells`
abbrev pub RowsAreProof : Type 0
RowsAreProof = (name : List ℕ) (held : Held) → HoldsRows name held → HoldsProof name held

-- names hold rows that prove links, `out` took the line `yes`, and no name has changed
pub record SaidYes (name : List ℕ) (store : StoreSeen) (out : SinkSeen) : Type 0 where
  pub rows : HoldsRows name store.held_before
  pub printed : out.tells → out.taken_after ≡ out.taken_before ++ codes "yes\n"
  pub unchanged : store.held_after ≡ store.held_before

-- the words are `verify` with a settings file, and the store tells: the status is 0 only where names hold rows that prove links, and 9 only
-- where they do not
abbrev pub YesMeans : List (List ℕ) → StoreSeen → SinkSeen → ℕ → Type 0
YesMeans words store out status =
    (name : List ℕ) → command_of words ≡ Some (verification_of_settings name) → store.tells
    → (status ≡ 0 → SaidYes name store out) × (status ≡ 9 → ¬ HoldsRows name store.held_before)

-- the words are `verify` with a settings file, the store tells, names hold rows that prove links, and in this call neither it nor `out`
-- failed
abbrev pub RowsSayYes : List (List ℕ) → StoreSeen → SinkSeen → ℕ → Type 0
RowsSayYes words store out status =
    (name : List ℕ) → command_of words ≡ Some (verification_of_settings name) → store.tells → HoldsRows name store.held_before
    → store.faults_after ≡ store.faults_before → ¬ (Rose out.faults_before out.faults_after) → SaysYes out status
