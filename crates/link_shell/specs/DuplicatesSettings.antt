-- The command `duplicates SETTINGS`: its steps and what is due, by the part `follows` of the clause `performed` of `perform`. A is read as both
-- files of the plan of A with itself; no step is a load of B or of the journal.
use Rattle.std.specs.Prelude.{◌≡◌, ◌≤◌, ℕ, List, length, Ok, Bool, ◌==◌, ◌&&◌}
use Rattle.dedup_groups.specs.Groups.{AreLeaders}
use Rattle.link_core.specs.Rules.{Decisions, decisions_of, IsDecidedIn}
use Rattle.link_core.specs.Prepared.{IsGroupsText, links_within, files_of, prepared}
use Rattle.link_limits.specs.declared.TheConstants.{MOST_DISTINCT_BYTES, MOST_PAIRS, MOST_ROWS}
use Rattle.link_plan.specs.Plan.{PlainShares}
use Rattle.link_plan.specs.Within.{plan_within}
use Rattle.link_plan.specs.declared.plan.Plan.{Plan}
use Rattle.standard_files.specs.Files.{StandardPair}
use Rattle.command_scripts.specs.Words.{Script, Due, prints, ◌>>=◌, file, gives, Steps}
use Rattle.command_steps.specs.Front.{plan_file}
use Rattle.command_steps.specs.Reviewed.{decided_plan, reviewed_settings, ReviewedPlan}
use Rattle.command_scripts.specs.declared.ends.Ended.TheVariants.{Done}
use Rattle.link_shell.specs.declared.duplicates_settings.DecidedWithin.{DecidedWithin}
use Rattle.link_core.specs.Many.{capacities_in_file, IsManyText}
use Rattle.link_shell.specs.Words.{is_settings_word, is_short_word, word}
use Rattle.link_shell.specs.declared.many_settings.ManyRequest.{ManyRequest}
use Rattle.link_base.specs.declared.fault.FileRole.TheVariants as role

-- machinery: a plan is that of a file with itself
abbrev pub IsOfOneFile : Plan → Type 0
IsOfOneFile plan = (whole : Plan) × (plan ≡ plan_within whole)

-- a file in standard values, as both files, the shares of the fields, and the decisions on its compared pairs
pub record Within : Type 0 where
  pub files : StandardPair
  pub shares : List PlainShares
  pub decided : Decisions

-- machinery: as a body holds it
abbrev pub within_of : DecidedWithin → Within
within_of d = record { files = files_of d.files; shares = d.shares; decided = decisions_of d.files d.decided }

-- machinery: the decisions are those of the files, which are one file of few records, and the links are few
pub record IsDecidedWithin (d : DecidedWithin) : Type 0 where
  pub same : length d.files.files.b.records ≡ length d.files.files.a.records
  pub few : length d.files.files.a.records ≤ MOST_ROWS
  pub few_links : length d.decided.links ≤ MOST_PAIRS
  pub of_file : IsDecidedIn d.files d.decided

-- one step loads A, and its bytes stand as both files: the faults of A come first, then unreadable dates of a strict plan, and want of room for
-- its texts
abbrev pub prepared_within : Plan → Steps StandardPair
prepared_within plan = do
  bytes ← file role.A plan.file_a
  gives (prepared plan MOST_DISTINCT_BYTES bytes bytes)

-- the decisions of a plan's rule on the compared pairs of A with itself: the faults of the sample come before too many pairs
abbrev pub decided_within : Plan → Steps Within
decided_within plan = do
  files ← prepared_within plan
  found ← decided_plan plan files
  gives (Ok (record { files = files; shares = found.shares; decided = found.decided }))

-- the groups that the links within A join are printed: each under its leader, the least of the records that chains of links join, and each
-- record with the one through which a forest reaches it
pub record AreGroupsPrinted (found : Within) (due : Due) : Type 0 where
  pub text : List ℕ
  pub groups : IsGroupsText found.files.a.records found.decided.links text
  pub leaders : AreLeaders (length found.files.a.records) (links_within found.decided.links) groups.lists.leaders
  pub so : due ≡ prints Done text

-- the settings, and then A by the plan of A with itself
abbrev pub duplicates_script : List ℕ → Script
duplicates_script name = record {
  Found = Within;
  steps = do
    plan ← plan_file name
    decided_within (plan_within plan);
  due = AreGroupsPrinted;
}

-- The command `many SETTINGS CAPACITIES`: its words, its steps and what is due, by the part `follows` of the clause `performed` of `perform`. Links
-- are of greatest total within the capacities of the records of B; which list of that total is printed is not said.

-- a settings file, and a file of capacities
abbrev pub are_many_words : List (List ℕ) → Bool
are_many_words words =
    (length words == 3) && is_settings_word (word words 1) && is_short_word (word words 2)

-- the files
pub record ManyFiles : Type 0 where
  pub name : List ℕ
  pub capacities : List ℕ

abbrev pub many_in : List (List ℕ) → ManyFiles
many_in words = record { name = word words 1; capacities = word words 2 }

-- machinery: the words as a body holds them
abbrev pub many_of_request : ManyRequest → ManyFiles
many_of_request r = record { name = r.name.now; capacities = r.capacities.now }

-- a plan with its decisions and its journal, and the capacity of each record of B
pub record CapacityPlan : Type 0 where
  pub found : ReviewedPlan
  pub capacities : List ℕ

-- the capacities in a file, over the two files of a plan
abbrev pub capacity_file : StandardPair → List ℕ → Steps (List ℕ)
capacity_file files name = do
  bytes ← file role.Capacities name
  gives (capacities_in_file files bytes)

abbrev pub within_capacities : ReviewedPlan → List ℕ → CapacityPlan
within_capacities found capacities = record { found = found; capacities = capacities }

-- the capacities, after a plan with its decisions and its journal
abbrev pub capacity_plan : ReviewedPlan → List ℕ → Steps CapacityPlan
capacity_plan found name = do
  capacities ← capacity_file found.review.files name
  gives (Ok (within_capacities found capacities))

-- the plan, its decisions, its journal, and then the capacities, whose faults come last
abbrev pub capacity_settings : ManyFiles → Steps CapacityPlan
capacity_settings w = do
  found ← reviewed_settings w.name
  capacity_plan found w.capacities

-- the text of links of greatest total within the capacities, and of prices that certify it
abbrev pub IsLinksText : CapacityPlan → List ℕ → Type 0
IsLinksText within text = IsManyText within.found.plan within.found.review.files within.found.review.decided.rule within.found.review.journal within.capacities text

-- such a text is printed
pub record AreLinksPrinted (within : CapacityPlan) (due : Due) : Type 0 where
  pub text : List ℕ
  pub lines : IsLinksText within text
  pub so : due ≡ prints Done text

abbrev pub many_script : ManyFiles → Script
many_script w = record { Found = CapacityPlan; steps = capacity_settings w; due = AreLinksPrinted }
