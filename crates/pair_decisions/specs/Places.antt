-- The places of the cells of a rule by their patterns: the machinery of `PairRule`, whose contracts speak of `cell_of` alone.
use Rattle.std.specs.Prelude.{◌≡◌, ◌<◌, ◌≤◌, ℕ, Bool, List, length, map, slice_index}
use Rattle.std.specs.List.{list_all, position_or_len}
use Rattle.comparators.specs.Fields.{field_rare}
use Rattle.comparators.specs.declared.ids.FieldById.{FieldById}
use Rattle.link_base.specs.declared.rule.RuleCell.{RuleCell}
use Rattle.link_limits.specs.declared.TheConstants.{MOST_FIELDS}
use Rattle.patterns.specs.Patterns.{pattern_count_by}
use Rattle.pair_decisions.specs.Comparators.{is_same_id}
use Rattle.pair_decisions.specs.PairRule.{has_pattern}

-- the place of the first cell of a pattern
abbrev pub place_of : List RuleCell → ℕ → ℕ
place_of cells pattern = position_or_len (has_pattern pattern) cells

-- the place of each pattern that has a cell
pub record ArePlaces (cells : List RuleCell) (places : List ℕ) : Type 0 where
  pub as_many : length places ≡ length cells
  pub told : (pattern : ℕ) → place_of cells pattern < length cells → slice_index places pattern ≡ place_of cells pattern

-- each pattern has a cell, whose place is told, and whether all fields are compared by their ids alone is known
pub record KeepsPlaces (by_id : Bool) (comparators : List FieldById) (cells : List RuleCell) (places : List ℕ) : Type 0 where
  pub same : by_id ≡ list_all is_same_id comparators
  pub few : length comparators ≤ MOST_FIELDS
  pub patterns : length cells ≡ pattern_count_by (map field_rare comparators)
  pub as_many : length places ≡ length cells
  pub told : (pattern : ℕ) → pattern < length cells → slice_index places pattern ≡ place_of cells pattern
  pub stands : (pattern : ℕ) → pattern < length cells → place_of cells pattern < length cells
