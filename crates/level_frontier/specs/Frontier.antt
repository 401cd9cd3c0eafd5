-- The rows of the frontier: `frontier` carries them by its clauses `rows`, `falling` and `near_least`.
use Rattle.std.specs.Prelude.{ℕ, ◌*◌, ◌^◌, ◌≤◌, List, length, ◌≡◌, ◌+◌}
use Rattle.link_limits.specs.declared.TheConstants.{PER_MILLION, WHOLE_FIELD, WHOLE_RULE}
use Rattle.link_base.specs.declared.shares.FieldShares.{FieldShares}
use Rattle.patterns.specs.Patterns.{pattern_count_of, m_of, u_of}
use Rattle.decision_rule.specs.Rule.{Rule, IsRule, AreLevelsOf}
use Rattle.decision_rule.specs.Filled.{sum_over, IsFilled}
use Rattle.link_base.specs.declared.rule.RuleCell.{RuleCell}
use Rattle.level_frontier.specs.declared.levels.FrontierRow.{FrontierRow}
use Rattle.level_frontier.specs.Borders.{slack_m_of, slack_u_of}

-- Randomised rules at asked levels (Fellegi and Sunter 1969, section 2), among which the clause `near_least` of `frontier`
-- and the law `filled_levels` speak.

-- a rule of some denominator whose two levels are at most what is asked, in parts per million
pub record IsWithinAsked (shares : List FieldShares) (mu_ppm lambda_ppm denominator : ℕ) (r : Rule) : Type 0 where
  pub is_rule : IsRule denominator (pattern_count_of shares) r
  pub mu : sum_over shares (u_of shares) r.link * PER_MILLION ≤ mu_ppm * WHOLE_FIELD ^ length shares * denominator
  pub lambda : sum_over shares (m_of shares) r.nonlink * PER_MILLION ≤ lambda_ppm * WHOLE_FIELD ^ length shares * denominator

-- the four sums and the slack of a table
pub record HasLevelsOf (shares : List FieldShares) (cells : List RuleCell) (row : FrontierRow) : Type 0 where
  pub levels : AreLevelsOf (length shares) cells row.levels
  pub slack_m : row.slack_m ≡ slack_m_of cells
  pub slack_u : row.slack_u ≡ slack_u_of cells

-- the row of asked levels is that of their filled table
abbrev pub IsFrontierRow : List FieldShares → ℕ → ℕ → FrontierRow → Type 0
IsFrontierRow shares mu_ppm lambda_ppm row = (cells : List RuleCell) × IsFilled shares mu_ppm lambda_ppm cells × HasLevelsOf shares cells row

-- the chances of a possible link fall from one row to another, or stay
pub record FallsTo (before after : FrontierRow) : Type 0 where
  pub matched : after.levels.possible_m ≤ before.levels.possible_m
  pub unmatched : after.levels.possible_u ≤ before.levels.possible_u

-- no rule at the asked levels has a chance of a possible link that is lower than that of the row by more than its slack
pub record IsNearLeast (shares : List FieldShares) (mu_ppm lambda_ppm : ℕ) (row : FrontierRow) : Type 0 where
  pub matched : (denominator : ℕ) (r : Rule) → IsWithinAsked shares mu_ppm lambda_ppm denominator r
      → denominator * row.levels.possible_m ≤ WHOLE_RULE * sum_over shares (m_of shares) r.possible + denominator * row.slack_m
  pub unmatched : (denominator : ℕ) (r : Rule) → IsWithinAsked shares mu_ppm lambda_ppm denominator r
      → denominator * row.levels.possible_u ≤ WHOLE_RULE * sum_over shares (u_of shares) r.possible + denominator * row.slack_u
