-- Randomised decision rules (Fellegi and Sunter 1969, section 2), and the two error levels and two chances of a possible
-- link of a table and of a rule. `attained` carries those of a table by its clause `levels`; the laws `exchange` and `filled` set them against those of every rule.
use Rattle.std.specs.Prelude.{◌≡◌, ℕ, ◌+◌, ◌-◌, ◌*◌, ◌^◌, ◌<◌, List, sum_by, All, ◌%◌, nat_lt, nat_le, if◌then◌else◌, ◌⊎◌}
use Rattle.link_limits.specs.declared.TheConstants.{WHOLE_FIELD, WHOLE_RULE}
use Rattle.link_base.specs.declared.rule.Levels.{Levels}
use Rattle.link_base.specs.declared.rule.RuleCell.{RuleCell}
use Rattle.link_base.specs.declared.rule.Decision.{Decision}
use Rattle.link_base.specs.declared.rule.Decision.TheVariants.{Link, Possible, NonLink}

-- the share of a possible link in a cell, in 65,536ths
abbrev pub possible_of : RuleCell → ℕ
possible_of c = WHOLE_RULE - c.link - c.nonlink

-- the two error levels of a table, and its chances of a possible link among matched and unmatched pairs
abbrev pub mu_of : List RuleCell → ℕ
mu_of cells = sum_by (λ c. c.u * c.link) cells

abbrev pub lambda_of : List RuleCell → ℕ
lambda_of cells = sum_by (λ c. c.m * c.nonlink) cells

abbrev pub possible_m_of : List RuleCell → ℕ
possible_m_of cells = sum_by (λ c. c.m * possible_of c) cells

abbrev pub possible_u_of : List RuleCell → ℕ
possible_u_of cells = sum_by (λ c. c.u * possible_of c) cells

-- the attained levels of a table of so many fields, as sums over one denominator
pub record AreLevelsOf (fields : ℕ) (cells : List RuleCell) (levels : Levels) : Type 0 where
  pub denominator : levels.denominator ≡ WHOLE_FIELD ^ fields * WHOLE_RULE
  pub mu : levels.mu ≡ mu_of cells
  pub lambda : levels.lambda ≡ lambda_of cells
  pub possible_m : levels.possible_m ≡ possible_m_of cells
  pub possible_u : levels.possible_u ≡ possible_u_of cells

-- a randomised rule gives each pattern three shares
pub record Rule : Type 0 where
  pub link : ℕ → ℕ
  pub possible : ℕ → ℕ
  pub nonlink : ℕ → ℕ

-- the three shares of each of so many patterns add up to the denominator
abbrev pub IsRule : ℕ → ℕ → Rule → Type 0
IsRule denominator count r = (pattern : ℕ) → pattern < count → r.link pattern + r.possible pattern + r.nonlink pattern ≡ denominator

-- the same of the patterns of these cells
abbrev pub IsRuleOver : ℕ → List RuleCell → Rule → Type 0
IsRuleOver denominator cells r = All (λ (c : RuleCell). r.link c.pattern + r.possible c.pattern + r.nonlink c.pattern ≡ denominator) cells

-- the two levels and the two chances of a possible link of a rule over the patterns of a table
abbrev pub rule_mu : Rule → List RuleCell → ℕ
rule_mu r cells = sum_by (λ c. c.u * r.link c.pattern) cells

abbrev pub rule_lambda : Rule → List RuleCell → ℕ
rule_lambda r cells = sum_by (λ c. c.m * r.nonlink c.pattern) cells

abbrev pub rule_possible_m : Rule → List RuleCell → ℕ
rule_possible_m r cells = sum_by (λ c. c.m * r.possible c.pattern) cells

abbrev pub rule_possible_u : Rule → List RuleCell → ℕ
rule_possible_u r cells = sum_by (λ c. c.u * r.possible c.pattern) cells

-- The decision on a pair (Fellegi and Sunter 1969, section 2), which `decide` carries by its one clause.

-- by the low 16 bits of the border word: a link below the cell's share of links, a non-link in the last part, as long as
-- its share of non-links, and else a possible link
abbrev pub decision_of : RuleCell → ℕ → Decision
decision_of cell word =
    if nat_lt (word % WHOLE_RULE) cell.link then Link
    else (if nat_le (WHOLE_RULE - cell.nonlink) (word % WHOLE_RULE) then NonLink else Possible)

-- The order of the cells of a rule (Fellegi and Sunter 1969, section 2): `cut_rule` carries it by the part `in_order` of
-- its clause `filled`.

-- the first cell has the greater m/u, or an equal one and the smaller pattern
abbrev pub RanksBefore : RuleCell → RuleCell → Type 0
RanksBefore c d = (d.m * c.u < c.m * d.u) ⊎ ((c.m * d.u ≡ d.m * c.u) × (c.pattern < d.pattern))
