-- No verdict is lost, the clause `no_verdict_lost` of `linkage`: where `review` has ended with 0 over a store that tells, the journal that
-- then stands under its name loads as the old entries followed by one for each new verdict, and each other pair has the verdict that it
-- had; where `migrate` has, it loads as the entries that it had. However either ends, all of this holds, or no name holds anything else
-- than it did.
use Rattle.std.specs.Prelude.{◌≡◌, ◌≢◌, ◌⊎◌, ℕ, List, Some, Ok}
use Rattle.link_base.specs.declared.fault.FileRole.TheVariants as role
use Rattle.link_outside.specs.Outside.{Held}
use Rattle.link_plan.specs.declared.plan.Plan.{Plan}
use Rattle.review_journal.specs.Batch.{verdicts_of}
use Rattle.review_journal.specs.Kept.{KeepsAll}
use Rattle.review_journal.specs.declared.batch.NewVerdict.{NewVerdict}
use Rattle.review_journal.specs.declared.entry.Entry.{Entry}
use Rattle.standard_files.specs.Files.{StandardPair}
use Rattle.command_steps.specs.Front.{prepared_files}
use Rattle.command_steps.specs.Reviewed.{journal_file, journal_plan, named_journal}
use Rattle.command_scripts.specs.Words.{StoreSeen, ◌>>=◌, file, gives, outcome, Steps}
use Rattle.link_shell.specs.Commands.{command_of, migration_of_settings, review_of_settings}
use Rattle.link_shell.specs.ReviewSettings.{NewReview}

-- the journal that a plan names loads as these entries, over the two files of the plan, by what names hold
pub record LoadsAs (plan : Plan) (files : StandardPair) (entries : List Entry) (held : Held) : Type 0 where
  pub of_files : outcome (prepared_files plan) held ≡ Ok files
  pub of_journal : outcome (journal_file files plan.journal) held ≡ Ok entries

-- a settings file still gives its plan, unless the plan's journal is put under the name of the settings file itself
abbrev pub StillGives : List ℕ → Plan → Held → Type 0
StillGives name plan held = name ≢ named_journal plan → outcome (journal_plan name) held ≡ Ok plan

-- the new verdicts in a file, over the two files of a plan
abbrev pub verdicts_file : StandardPair → List ℕ → Steps (List NewVerdict)
verdicts_file files name = do
  bytes ← file role.Verdicts name
  gives (verdicts_of files.a.records files.b.records bytes)

-- what `review` keeps: the journal loaded as the old entries, and loads as the new ones, which are the old ones and one for each of the
-- new verdicts, by the reviewer and of the day of the words
pub record ReviewKeeps (w : NewReview) (store : StoreSeen) : Type 0 where
  pub plan : Plan
  pub files : StandardPair
  pub old : List Entry
  pub batch : List NewVerdict
  pub new : List Entry
  pub of_settings : outcome (journal_plan w.name) store.held_before ≡ Ok plan
  pub of_verdicts : outcome (verdicts_file files w.verdicts) store.held_before ≡ Ok batch
  pub before : LoadsAs plan files old store.held_before
  pub after : LoadsAs plan files new store.held_after
  pub kept : KeepsAll plan.terms.double w.date w.reviewer old batch new
  pub again : StillGives w.name plan store.held_after

-- what `migrate` keeps: the journal loads as the entries that it loaded as, so that each pair has the verdict that it had
pub record MigrateKeeps (name : List ℕ) (store : StoreSeen) : Type 0 where
  pub plan : Plan
  pub files : StandardPair
  pub entries : List Entry
  pub of_settings : outcome (journal_plan name) store.held_before ≡ Ok plan
  pub before : LoadsAs plan files entries store.held_before
  pub after : LoadsAs plan files entries store.held_after
  pub again : StillGives name plan store.held_after

-- the words are `review` or `migrate`, and the store tells: at the answer 0, and at any
pub record NoVerdictLost (words : List (List ℕ)) (store : StoreSeen) (status : ℕ) : Type 0 where
  pub by_review : (w : NewReview) → command_of words ≡ Some (review_of_settings w) → status ≡ 0 → store.tells → ReviewKeeps w store
  pub by_migrate : (name : List ℕ) → command_of words ≡ Some (migration_of_settings name) → status ≡ 0 → store.tells → MigrateKeeps name store
  pub by_any_review : (w : NewReview) → command_of words ≡ Some (review_of_settings w) → store.tells
      → (store.held_after ≡ store.held_before) ⊎ ReviewKeeps w store
  pub by_any_migrate : (name : List ℕ) → command_of words ≡ Some (migration_of_settings name) → store.tells
      → (store.held_after ≡ store.held_before) ⊎ MigrateKeeps name store
