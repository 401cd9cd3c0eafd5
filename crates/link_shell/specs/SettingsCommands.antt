-- The commands of a settings file alone, `VERB SETTINGS`: which verb the words name, and the script of each, by the part `follows` of the clause
-- `performed` of `perform`; of those that print one text of the settings, `pairs`, `rule` and `open`, their steps and what is due too. The law
-- `printed_rule_is_least` says that what `rule` prints is least.
use Rattle.std.specs.Prelude.{◌≡◌, ◌+◌, ℕ, List, [], ◌∷◌, length, drop, map, Bool, true, ◌&&◌, nat_le, string_bytes, Ok, codes, ◌==◌, if◌then◌else◌, Option, None, option_map}
use Rattle.link_limits.specs.declared.TheConstants.{PER_MILLION}
use Rattle.link_core.specs.Rules.{IsFrontierText, IsRuleText}
use Rattle.command_scripts.specs.Words.{Script, Due, prints, Put, puts, a_put, is_printed, ◌>>=◌, gives, Steps}
use Rattle.command_steps.specs.Front.{shared_plan, prepared_files, described_files}
use Rattle.csv_rows.specs.Numbers.{is_decimal, number_in}
use Rattle.command_scripts.specs.declared.ends.Ended.TheVariants.{Done}
use Rattle.command_steps.specs.declared.front.Shared.{Shared}
use Rattle.link_shell.specs.Words.{is_settings_word, word}
use Rattle.link_shell.specs.declared.frontier_settings.FrontierRequest.{FrontierRequest}
use Rattle.link_shell.specs.declared.words.TheConstants.{MOST_LISTED}
use Rattle.link_core.specs.Review.{journal_lines_of, open_text_of}
use Rattle.link_plan.specs.declared.plan.Plan.{Plan}
use Rattle.standard_files.specs.Files.{StandardPair}
use Rattle.command_steps.specs.Reviewed.{journal_file, journal_plan, put_of_journal, reviewed_settings, ReviewedPlan}
use Rattle.pair_decisions.specs.Words.{IsRuleOf, rares_of}
use Rattle.link_core.specs.Results.{AreRunTexts, RunTexts}
use Rattle.decision_rule.specs.Filled.{IsLeast}
use Rattle.link_base.specs.declared.rule.RuleCell.{RuleCell}
use Rattle.link_core.specs.Pairs.{ids_of_prepared}
use Rattle.link_report.specs.LinksText.{text_of_rule}
use Rattle.settings_readers.specs.Values.{named_in}
use Rattle.link_shell.specs.DuplicatesSettings.{duplicates_script}
use Rattle.link_shell.specs.VerifySettings.{verify_script}
use Rattle.link_shell.specs.declared.settings_commands.SettingsRequest.{SettingsRequest}
use Rattle.link_shell.specs.declared.settings_commands.SettingsVerb.{SettingsVerb}
use Rattle.link_shell.specs.declared.settings_commands.SettingsVerb.TheVariants as ask

-- The command `frontier SETTINGS MU..`: its words, its steps and what is due, by the part `follows` of the clause `performed` of `perform`.

-- a level in parts per million
abbrev pub is_level_word : List ℕ → Bool
is_level_word w = is_decimal w && nat_le (number_in w) PER_MILLION

-- levels of which the first is at least this, and each above the one before
abbrev pub are_levels_from : ℕ → List (List ℕ) → Bool
are_levels_from least [] = true
are_levels_from least (w ∷ ws) = is_level_word w && nat_le least (number_in w) && are_levels_from (number_in w + 1) ws

-- a verb, a settings file, and 1 to 100 levels that rise
abbrev pub are_frontier_words : List (List ℕ) → Bool
are_frontier_words words =
    nat_le 3 (length words) && nat_le (length words) (MOST_LISTED + 2) && is_settings_word (word words 1) && are_levels_from 0 (drop 2 words)

-- the settings file, and the asked levels of links
pub record Asked : Type 0 where
  pub name : List ℕ
  pub levels : List ℕ

abbrev pub asked_in : List (List ℕ) → Asked
asked_in words = record { name = word words 1; levels = map number_in (drop 2 words) }

-- machinery: the words as a body holds them
abbrev pub asked_of_request : FrontierRequest → Asked
asked_of_request r = record { name = r.name.now; levels = map number_in (map string_bytes r.levels.now) }

-- the text of the frontier of the plan at these levels is printed
abbrev pub frontier_is_printed : List ℕ → Shared → Due → Type 0
frontier_is_printed levels shared due = (text : List ℕ) × IsFrontierText shared.plan shared.shares levels text × (due ≡ prints Done text)

abbrev pub frontier_script : Asked → Script
frontier_script asked = record { Found = Shared; steps = shared_plan asked.name; due = frontier_is_printed asked.levels }

-- The command `migrate SETTINGS`: its steps and what is due, by the part `follows` of the clause `performed` of `perform`: the journal as it is
-- read, written in the newest version.

-- the bytes that were found are put under their name
abbrev pub is_one_put : Put → Due → Type 0
is_one_put put due = due ≡ puts (put ∷ [])

-- the text of the journal of a plan, over its two files, within the limit of a file
abbrev pub journal_text : Plan → StandardPair → Steps (List ℕ)
journal_text plan files = do
  journal ← journal_file files plan.journal
  gives (journal_lines_of files journal)

abbrev pub written_journal : Plan → Steps (List ℕ)
written_journal plan = do
  files ← prepared_files plan
  journal_text plan files

-- the plan, which names a journal, its two files, the journal, and its text
abbrev pub migrate_script : List ℕ → Script
migrate_script name = record {
  Found = Put;
  steps = do
    plan ← journal_plan name
    text ← written_journal plan
    gives (Ok (put_of_journal plan text));
  due = is_one_put;
}

-- The command `run SETTINGS`: its steps, and the five files that it writes, by the part `follows` of the clause `performed` of `perform`.
-- `Headline` says what they are.

-- the five files with their texts, in the order in which they are put
abbrev pub run_puts : RunTexts → List Put
run_puts texts =
    a_put (codes "pairs.csv") texts.pairs ∷ a_put (codes "rule.csv") texts.rule ∷ a_put (codes "links.csv") texts.links
    ∷ a_put (codes "prices.csv") texts.prices ∷ a_put (codes "report.txt") texts.report ∷ []

-- the texts of a run of the plan, of which there may be several, are put; the rule is the filled table of the plan and its shares
pub record ArePut (found : ReviewedPlan) (due : Due) : Type 0 where
  pub texts : RunTexts
  pub made : AreRunTexts found.plan found.review.files found.review.decided.rule found.review.journal texts
  pub rule : IsRuleOf found.plan found.review.shares found.review.decided.rule.cells
  pub so : due ≡ puts (run_puts texts)

abbrev pub run_script : List ℕ → Script
run_script name = record { Found = ReviewedPlan; steps = reviewed_settings name; due = ArePut }

abbrev pub settings_verbs : List (List ℕ × SettingsVerb)
settings_verbs = (codes "pairs", ask.Pairs) ∷ (codes "rule", ask.Rule) ∷ (codes "open", ask.Open) ∷ (codes "migrate", ask.Migrate)
    ∷ (codes "run", ask.Run) ∷ (codes "verify", ask.Verify) ∷ (codes "duplicates", ask.Duplicates) ∷ []

-- a settings file, and what it is asked for
pub record OfFile : Type 0 where
  pub verb : SettingsVerb
  pub name : List ℕ

-- machinery: the words as a body holds them
abbrev pub of_file : SettingsRequest → OfFile
of_file r = record { verb = r.verb; name = r.name.now }

-- a verb, and the settings file that is all it takes
abbrev pub are_verb_and_settings : List (List ℕ) → Bool
are_verb_and_settings words = (length words == 2) && is_settings_word (word words 1)

abbrev pub settings_named : List (List ℕ) → Option OfFile
settings_named words =
    if are_verb_and_settings words
    then option_map (λ v. record { verb = v; name = word words 1 }) (named_in settings_verbs (word words 0)) else None

-- `pairs`: the settings and the files that they name; then the faults of A, those of B, unreadable dates of a strict plan, want of room
-- for their texts, and then the pairs
abbrev pub pairs_script : List ℕ → Script
pairs_script name = record {
  Found = List ℕ;
  steps = do
    described ← described_files name
    gives (ids_of_prepared described.plan.passes described.files);
  due = is_printed;
}

-- the text of the plan's rule, of which there is one, is printed
abbrev pub rule_is_printed : Shared → Due → Type 0
rule_is_printed shared due = (text : List ℕ) × IsRuleText shared.plan shared.shares text × (due ≡ prints Done text)

abbrev pub rule_script : List ℕ → Script
rule_script name = record { Found = Shared; steps = shared_plan name; due = rule_is_printed }

-- what is printed is the text of cells that are filled for the plan and its shares, and least: no randomised rule of any
-- denominator with levels at most theirs has a smaller chance of a possible link, for matched or for unmatched pairs
pub record PrintsLeastRule (shared : Shared) (due : Due) : Type 0 where
  pub cells : List RuleCell
  pub rule : IsRuleOf shared.plan shared.shares cells
  pub least : IsLeast rule.by_shares cells
  pub printed : due ≡ prints Done (text_of_rule (rares_of shared.plan.fields) cells)

-- `open`: the plan, the decisions of its rule on the compared pairs, the journal, and then the text of the possible links that wait for a
-- verdict
abbrev pub open_script : List ℕ → Script
open_script name = record {
  Found = ReviewedPlan;
  steps = reviewed_settings name;
  due = λ found. is_printed (open_text_of found.review.files found.review.decided found.review.journal);
}

-- the script of a verb
abbrev pub settings_script : SettingsVerb → List ℕ → Script
settings_script ask.Pairs = pairs_script
settings_script ask.Rule = rule_script
settings_script ask.Open = open_script
settings_script ask.Migrate = migrate_script
settings_script ask.Run = run_script
settings_script ask.Verify = verify_script
settings_script ask.Duplicates = duplicates_script
