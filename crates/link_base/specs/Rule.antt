-- The cells of a rule: `RuleTable` keeps the ranges of each by its ghost field `in_range`, `cells` tells them by its
-- clause `in_range`, and `with_patterns` makes the empty ones. Pairs stand in the order of their positions.
use Rattle.std.specs.Prelude.{◌≡◌, ◌⊎◌, ◌<◌, pos, ◌+◌, ◌^◌, ◌≤◌, ◌≤ℤ◌}
use Rattle.link_limits.specs.declared.TheConstants.{GREATEST_WEIGHT, LEAST_WEIGHT, WHOLE_RULE}
use Rattle.link_base.specs.declared.rule.Levels.{Levels}
use Rattle.link_base.specs.declared.rule.PairAt.{PairAt}
use Rattle.link_base.specs.declared.rule.RuleCell.{RuleCell}

-- the weight is within its range, and link, possible and non-link share a whole (after Newcombe et al. 1959; Fellegi and
-- Sunter 1969, section 2)
pub record IsWithinRanges (cell : RuleCell) : Type 0 where
  pub weight_low : LEAST_WEIGHT ≤ℤ cell.weight
  pub weight_high : cell.weight ≤ℤ GREATEST_WEIGHT
  pub shares : cell.link + cell.nonlink ≤ WHOLE_RULE

-- a cell before its table is filled
abbrev pub empty_cell : RuleCell
empty_cell = record { pattern = 0; m = 0; u = 0; weight = pos 0; link = 0; nonlink = 0 }

-- what the four sums of a table come to at most: 4,096 cells, chances below 2 ^ 64 and shares of at most 65,536. The
-- clause `bounded` of `attained` in decision_rule carries it
pub record HasBoundedSums (levels : Levels) : Type 0 where
  pub denominator : 1 ≤ levels.denominator
  pub mu : levels.mu ≤ 2 ^ 92
  pub lambda : levels.lambda ≤ 2 ^ 92
  pub possible_m : levels.possible_m ≤ 2 ^ 92
  pub possible_u : levels.possible_u ≤ 2 ^ 92

-- one pair stands before another by its positions
abbrev pub IsPairBefore : PairAt → PairAt → Type 0
IsPairBefore x y = (x.a < y.a) ⊎ ((x.a ≡ y.a) × (x.b < y.b))
