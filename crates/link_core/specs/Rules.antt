-- What a plan's rule comes to: the shares of its fields by its sample of two prepared files (`counted`, clause `answer`),
-- and the texts of the rule (`rule_lines`) and of its frontier of levels (`frontier_lines`) for given shares.
use Rattle.std.specs.Prelude.{◌≡◌, ℕ, List, All, AllPairs, length, Result, Ok, ◌<◌, ◌≤◌, Bool, map, slice_index, slice_index_or}
use Rattle.link_base.specs.Words.{and_then, IsPairBefore}
use Rattle.link_base.specs.declared.fault.Fault.{Fault}
use Rattle.link_base.specs.declared.rule.Decision.TheVariants.{Link, Possible}
use Rattle.link_base.specs.declared.rule.PairAt.{PairAt}
use Rattle.pair_decisions.specs.Words.{DecidedView, pairs_with, IsInside, AreRowsIn, rule_of_plan, pattern_of_pair, AreSidesFor, FileRule, side_rule, the_rule, rares_of, IsRuleOf, counted_in, plain_all}
use Rattle.link_plan.specs.Plan.{PlainShares}
use Rattle.link_plan.specs.declared.plan.Plan.{Plan}
use Rattle.standard_files.specs.Files.{StandardPair, AreOfPlan}
use Rattle.link_core.specs.Pairs.{plan_pairs}
use Rattle.link_core.specs.Prepared.{PreparedView, kinds_of}
use Rattle.link_base.specs.declared.rule.RuleCell.{RuleCell}
use Rattle.link_base.specs.declared.shares.FieldShares.{FieldShares}
use Rattle.decision_rule.specs.Filled.{IsLeast}
use Rattle.level_frontier.specs.Frontier.{FallsTo, IsFrontierRow, IsNearLeast}
use Rattle.level_frontier.specs.declared.levels.FrontierRow.{FrontierRow}
use Rattle.link_report.specs.LinksText.{text_of_frontier, text_of_rule}
use Rattle.pair_walk.specs.Rows.{AreAllReady}
use Rattle.standard_files.specs.Ready.{ArePooled}

-- The decisions of a plan's rule on the compared pairs of its prepared files (Fellegi and Sunter 1969, section 2). `decide_all`
-- carries them (clause `answer`, by `decided`), and says what later steps need (`IsDecidedIn`).

-- the rule of a plan for these shares, over its two files
abbrev pub rule_over : Plan → StandardPair → List PlainShares → FileRule
rule_over plan files shares = rule_of_plan plan files.a.records files.b.records (the_rule plan.terms.mu_ppm plan.terms.lambda_ppm shares)

-- decisions: the rule, how many pairs were compared, the links and the possible links
pub record Decisions : Type 0 where
  pub rule : FileRule
  pub compared : ℕ
  pub links : List PairAt
  pub possible : List PairAt

-- the decisions of a rule on these pairs
abbrev pub decided_by : FileRule → List PairAt → Decisions
decided_by rule pairs = record {
  rule = rule;
  compared = length pairs;
  links = pairs_with Link rule pairs;
  possible = pairs_with Possible rule pairs;
}

-- the decisions of a plan's rule on the compared pairs, where these are not too many
abbrev pub decided : Plan → StandardPair → List PlainShares → Result Decisions Fault
decided plan files shares = and_then (plan_pairs plan files) (λ pairs. Ok (decided_by (rule_over plan files shares) pairs))

-- machinery: the rule of decisions on prepared files, and the decisions, as a body holds them
abbrev pub rule_in : PreparedView → DecidedView → FileRule
rule_in p d = side_rule d.rule p.values.a.rows p.values.b.rows

abbrev pub decisions_of : PreparedView → DecidedView → Decisions
decisions_of p d = record { rule = rule_in p d; compared = d.compared; links = d.links; possible = d.possible }

-- machinery: decisions are of these files: the rule reads what their rows are compared by, and the pairs stand in them, rising, as do the
-- rows that are kept
pub record IsDecidedIn (p : PreparedView) (d : DecidedView) : Type 0 where
  pub rows_a : length p.values.a.rows ≡ length p.files.a.records
  pub rows_b : length p.values.b.rows ≡ length p.files.b.records
  pub sides_a : All (AreSidesFor d.rule) p.values.a.rows
  pub sides_b : All (AreSidesFor d.rule) p.values.b.rows
  pub links : All (IsInside (length p.files.a.records) (length p.files.b.records)) d.links
  pub possible : All (IsInside (length p.files.a.records) (length p.files.b.records)) d.possible
  pub rising : AllPairs IsPairBefore d.possible
  pub rows : AreRowsIn (length p.files.a.records) (length p.files.b.records) (length d.rule.cells) d.rows

-- machinery: prepared files are those of a plan, with keys in its passes, and the pool has what is compared of them: a side for each of their
-- values, which stands for it and is valid for its kind of comparison, and the parts of their keys, whose ids are at hand
pub record IsPreparedFor (plan : Plan) (p : PreparedView) : Type 0 where
  pub of_a : AreOfPlan plan p.files.a.records
  pub of_b : AreOfPlan plan p.files.b.records
  pub ready_a : AreAllReady plan.passes p.files.a.records
  pub ready_b : AreAllReady plan.passes p.files.b.records
  pub pooled : ArePooled (kinds_of plan) plan.passes p.files.a.records p.files.b.records p.values

-- in which fields agreement on a rare value is an outcome of its own
abbrev pub shared_rares : List PlainShares → List Bool
shared_rares shares = map (λ (s : PlainShares). s.rare) shares

-- the shares of a plan's fields by its sample of these files, or the first fault of the sample
abbrev pub counted_by : Plan → StandardPair → List ℕ → Result (List PlainShares) Fault
counted_by plan files sample =
    counted_in plan.fields (pattern_of_pair plan.fields files.a.records files.b.records) files.a.records files.b.records sample

-- the text of the filled table of a plan for these shares, of which there is one: of all randomised rules with levels at most
-- its own, none has a smaller chance of a possible link (Fellegi and Sunter 1969, section 2)
pub record IsRuleText (plan : Plan) (shares : List PlainShares) (text : List ℕ) : Type 0 where
  pub cells : List RuleCell
  pub rule : IsRuleOf plan shares cells
  pub least : IsLeast rule.by_shares cells
  pub lines : text ≡ text_of_rule (rares_of plan.fields) cells

-- the text of the frontier of a plan at these asked levels of links: each row is that of its filled table, the chances of a
-- possible link never rise with the asked level, and no rule at the asked levels does better by more than the slack
pub record IsFrontierText (plan : Plan) (shares : List PlainShares) (mus : List ℕ) (text : List ℕ) : Type 0 where
  pub by_shares : List FieldShares
  pub same : plain_all by_shares ≡ shares
  pub rows : List FrontierRow
  pub as_many : length rows ≡ length mus
  pub each : (k : ℕ) (d : FrontierRow) → k < length mus → IsFrontierRow by_shares (slice_index mus k) plan.terms.lambda_ppm (slice_index_or rows k d)
  pub falling : (j k : ℕ) (d : FrontierRow) → j < length mus → k < length mus → slice_index mus j ≤ slice_index mus k
      → FallsTo (slice_index_or rows j d) (slice_index_or rows k d)
  pub near_least : (k : ℕ) (d : FrontierRow) → k < length mus → IsNearLeast by_shares (slice_index mus k) plan.terms.lambda_ppm (slice_index_or rows k d)
  pub lines : text ≡ text_of_frontier mus rows
