-- What several commands load at their front, first steps of their scripts: `load_both`, `load_plan`, `load_prepared`, `load_described` and
-- `load_shared` go through them (their clauses by `Takes`).
use Rattle.std.specs.Prelude.{ℕ, List, Option, Some, None, Ok}
use Rattle.link_base.specs.declared.fault.FileRole.TheVariants as role
use Rattle.settings.specs.Settings.{settings}
use Rattle.link_plan.specs.declared.plan.Plan.{Plan}
use Rattle.link_limits.specs.declared.TheConstants.{MOST_DISTINCT_BYTES}
use Rattle.link_core.specs.Prepared.{files_of, prepared}
use Rattle.link_core.specs.Rules.{counted_by}
use Rattle.pair_decisions.specs.Words.{given_in}
use Rattle.link_plan.specs.Plan.{PlainShares}
use Rattle.standard_files.specs.Files.{StandardPair}
use Rattle.command_scripts.specs.Words.{◌>>=◌, file, gives, Steps}
use Rattle.command_steps.specs.declared.front.Described.{Described}
use Rattle.command_steps.specs.declared.front.Inputs.{Inputs}
use Rattle.command_steps.specs.declared.front.Shared.{Shared}

-- both files by their names, A first
abbrev pub both_files : List ℕ → List ℕ → Steps Inputs
both_files name_a name_b = do
  a ← file role.A name_a
  b ← file role.B name_b
  gives (Ok (record { a = a; b = b }))

-- the plan of a settings file, or its first key at fault
abbrev pub plan_file : List ℕ → Steps Plan
plan_file name = do
  bytes ← file role.Settings name
  gives (settings bytes)

-- the two files of a plan in standard values: the faults of A come first, then those of B, unreadable dates of a strict plan, and want
-- of room for their texts
abbrev pub prepared_files : Plan → Steps StandardPair
prepared_files plan = do
  inputs ← both_files plan.file_a plan.file_b
  gives (prepared plan MOST_DISTINCT_BYTES inputs.a inputs.b)

-- a plan, and its two files in standard values
pub record DescribedFiles : Type 0 where
  pub plan : Plan
  pub files : StandardPair

-- machinery: as a body holds them
abbrev pub described_of : Described → DescribedFiles
described_of d = record { plan = d.plan; files = files_of d.files }

-- the plan of a settings file, and then the two files that it names
abbrev pub described_files : List ℕ → Steps DescribedFiles
described_files name = do
  plan ← plan_file name
  files ← prepared_files plan
  gives (Ok (record { plan = plan; files = files }))

-- the shares of a plan's fields over its two files: those of its settings, or where a sample is named those of the sample
abbrev pub shares_over : Plan → StandardPair → Option (List ℕ) → Steps (List PlainShares)
shares_over plan files None = gives (Ok (given_in plan.fields))
shares_over plan files (Some name) = do
  sample ← file role.Sample name
  gives (counted_by plan files sample)

-- the shares of a plan's fields; the two files are loaded only for a sample
abbrev pub shares_of : Plan → Option (List ℕ) → Steps (List PlainShares)
shares_of plan None = gives (Ok (given_in plan.fields))
shares_of plan (Some name) = do
  files ← prepared_files plan
  shares_over plan files (Some name)

-- the plan of a settings file with the shares of its fields
abbrev pub shared_plan : List ℕ → Steps Shared
shared_plan name = do
  plan ← plan_file name
  shares ← shares_of plan plan.sample
  gives (Ok (record { plan = plan; shares = shares }))
