-- The headline, the clause `headline` of `linkage`: for every accepted input, `run` writes exactly the pairs that share a key in some
-- pass, each once; a rule that, among all randomised rules whose error levels are at most its own, has the least chance of 'possible
-- link' for matched and for unmatched pairs; and one-to-one links, each by rule or review, of greatest total weight, awards of review
-- included, with prices that certify it.
--
-- Chances are those of the plan's shares, under independence of the fields (Fellegi and Sunter 1969, section 2), not those of a population.
use Rattle.std.specs.Prelude.{◌≡◌, ℕ, List, Ok, ◌⊎◌, ◌≤ℤ◌, ℤ, length, filter, All, AllPairs, Some}
use Rattle.link_core.specs.Rules.{Decisions, rule_over}
use Rattle.link_outside.specs.Outside.{Held}
use Rattle.link_plan.specs.Plan.{PlainShares}
use Rattle.link_plan.specs.Within.{plan_within}
use Rattle.link_plan.specs.declared.plan.Plan.{Plan}
use Rattle.pair_decisions.specs.Words.{IsRuleOf, decision_at, FileRule, pair_rows_of, rares_of}
use Rattle.command_steps.specs.Front.{plan_file, prepared_files, shares_over}
use Rattle.command_steps.specs.Reviewed.{journal_plan, Review, reviewed_plan, reviewed_settings, ReviewedPlan, journal_file}
use Rattle.command_scripts.specs.Words.{outcome, IsUncalled, SinkSeen, StoreSeen, after_puts}
use Rattle.link_shell.specs.DuplicatesSettings.{decided_within, Within}
use Rattle.link_shell.specs.Generate.{decided_input}
use Rattle.price_check.specs.Assignment.{Certifies, IsOneToOne, worth}
use Rattle.decision_rule.specs.Filled.{IsLeast}
use Rattle.link_base.specs.declared.rule.Candidate.{Candidate}
use Rattle.link_base.specs.declared.rule.Decision.TheVariants.{Link, Possible}
use Rattle.link_base.specs.declared.rule.PairAt.{PairAt}
use Rattle.link_core.specs.Results.{candidates_in, IsReportOf, RunTexts}
use Rattle.link_report.specs.LinksText.{text_of_links, text_of_prices, text_of_rule}
use Rattle.link_report.specs.PairsText.{text_of_pairs}
use Rattle.link_report.specs.ReportText.{text_of_report}
use Rattle.link_report.specs.declared.report.Report.{Report}
use Rattle.link_base.specs.Words.{IsPairBefore}
use Rattle.pair_walk.specs.Rows.{is_compared, product_from}
use Rattle.review_journal.specs.Verdict.{verdict_on}
use Rattle.review_journal.specs.declared.entry.Entry.{Entry}
use Rattle.standard_files.specs.Files.{StandardPair}
use Rattle.link_shell.specs.Commands.{command_of, run_of_settings}
use Rattle.link_shell.specs.SettingsCommands.{run_puts}
use Rattle.link_base.specs.declared.rule.Verdict.TheVariants as verdict

-- Each command that decides goes by the filled table of its plan and of the shares of its fields, of which there is one (Fellegi and Sunter
-- 1969, section 2), whatever names hold: the clause `always` of `linkage`, by the law `commands_go_by_filled_rule`.

-- decisions go by the filled table of a plan and of the shares of its fields
abbrev pub AreByFilledRule : Plan → List PlainShares → Decisions → Type 0
AreByFilledRule plan shares decided = IsRuleOf plan shares decided.rule.cells

-- of `run`, `verify`, `open` and `many`; of `review`; of `duplicates`, by the plan of the file with itself; and of `generate`
pub record FilledRule : Type 0 where
  pub of_settings : (name : List ℕ) (held : Held) (found : ReviewedPlan) → outcome (reviewed_settings name) held ≡ Ok found
      → AreByFilledRule found.plan found.review.shares found.review.decided
  pub of_review : (name : List ℕ) (held : Held) (plan : Plan) (review : Review) → outcome (journal_plan name) held ≡ Ok plan
      → outcome (reviewed_plan plan) held ≡ Ok review → AreByFilledRule plan review.shares review.decided
  pub of_one_file : (name : List ℕ) (held : Held) (plan : Plan) (found : Within) → outcome (plan_file name) held ≡ Ok plan
      → outcome (decided_within (plan_within plan)) held ≡ Ok found → AreByFilledRule (plan_within plan) found.shares found.decided
  pub of_made_input : (settings a b sample : List ℕ) (found : ReviewedPlan) → decided_input settings a b sample ≡ Ok found
      → AreByFilledRule found.plan found.review.shares found.review.decided

-- an accepted input: what names hold has a plan, two files, the shares of the plan's fields, and a journal
pub record Accepted (name : List ℕ) (held : Held) : Type 0 where
  pub plan : Plan
  pub files : StandardPair
  pub shares : List PlainShares
  pub journal : List Entry
  pub of_settings : outcome (plan_file name) held ≡ Ok plan
  pub of_files : outcome (prepared_files plan) held ≡ Ok files
  pub of_shares : outcome (shares_over plan files plan.sample) held ≡ Ok shares
  pub of_journal : outcome (journal_file files plan.journal) held ≡ Ok journal

-- exactly the pairs that share a key in some pass: the filter of the product, which rises, so that each stands there once
pub record AreExactlyThePairs (plan : Plan) (files : StandardPair) (pairs : List PairAt) : Type 0 where
  pub exactly : pairs ≡ filter (is_compared files.a.records files.b.records plan.passes)
      (product_from (length files.b.records) 0 (length files.a.records))
  pub once : AllPairs IsPairBefore pairs

-- a rule: the filled table at the asked levels; among all randomised rules, of every denominator, whose error levels are at most its
-- own, none has a smaller chance of a possible link, for matched or for unmatched pairs
pub record IsLeastRule (plan : Plan) (shares : List PlainShares) (rule : FileRule) : Type 0 where
  pub filled : IsRuleOf plan shares rule.cells
  pub least : IsLeast filled.by_shares rule.cells

-- a link by the rule, or by review: the rule calls its pair a link, or a possible link on which the verdict is that it is one
abbrev pub IsByRuleOrReview : FileRule → List Entry → Candidate → Type 0
IsByRuleOrReview rule journal c =
    let decision = decision_at rule (record { a = c.a; b = c.b }) in
    (decision ≡ Link) ⊎ ((decision ≡ Possible) × (verdict_on journal c.a c.b ≡ Some verdict.Link))

-- one-to-one links, each by rule or review, of greatest total weight, with prices that certify it, one for each record
pub record AreGreatestLinks (plan : Plan) (files : StandardPair) (rule : FileRule) (journal : List Entry) (links : List Candidate) (prices_a prices_b : List ℤ) : Type 0 where
  pub one_to_one : IsOneToOne (candidates_in plan files rule journal) links
  pub by_rule_or_review : All (IsByRuleOrReview rule journal) links
  pub greatest : (others : List Candidate) → IsOneToOne (candidates_in plan files rule journal) others → worth others ≤ℤ worth links
  pub certified : Certifies (candidates_in plan files rule journal) links prices_a prices_b
  pub priced_a : length prices_a ≡ length files.a.records
  pub priced_b : length prices_b ≡ length files.b.records

-- the texts of the five files of a run
abbrev pub written_texts : Plan → StandardPair → FileRule → List Entry → List PairAt → List Candidate → List ℤ → List ℤ → Report → RunTexts
written_texts plan files rule journal pairs links prices_a prices_b report = record {
  pairs = text_of_pairs (rares_of plan.fields) files.a.records files.b.records (pair_rows_of rule journal pairs);
  rule = text_of_rule (rares_of plan.fields) rule.cells;
  links = text_of_links files.a.records files.b.records links;
  prices = text_of_prices prices_a prices_b files.a.records files.b.records;
  report = text_of_report files.a.records files.b.records report;
}

-- what `run` has written
pub record RunWrites (name : List ℕ) (store : StoreSeen) (out err : SinkSeen) : Type 0 where
  pub input : Accepted name store.held_before
  pub rule : FileRule
  pub pairs : List PairAt
  pub links : List Candidate
  pub prices_a : List ℤ
  pub prices_b : List ℤ
  pub report : Report
  pub of_plan : rule ≡ rule_over input.plan input.files input.shares
  pub exactly_the_pairs : AreExactlyThePairs input.plan input.files pairs
  pub a_least_rule : IsLeastRule input.plan input.shares rule
  pub greatest_links : AreGreatestLinks input.plan input.files rule input.journal links prices_a prices_b
  pub reported : IsReportOf input.plan input.files rule input.journal links report
  pub writes : store.held_after
      ≡ after_puts (run_puts (written_texts input.plan input.files rule input.journal pairs links prices_a prices_b report)) store.held_before
  pub nothing_out : IsUncalled out
  pub nothing_said : IsUncalled err

-- the words are `run` with a settings file, the answer is 0, and the store tells
abbrev pub Headline : List (List ℕ) → StoreSeen → SinkSeen → SinkSeen → ℕ → Type 0
Headline words store out err status =
    (name : List ℕ) → command_of words ≡ Some (run_of_settings name) → status ≡ 0 → store.tells → RunWrites name store out err
