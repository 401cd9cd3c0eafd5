-- Tables whose links stand before their non-links, and what such a table and another rule have of the links among
-- matched pairs and of the non-links among unmatched pairs (Fellegi and Sunter 1969, section 2): the law `exchange` and
-- `ExchangeLaws` speak of them, and the law `filled` says that a filled table is one (clause `cut_form`).
use Rattle.std.specs.Prelude.{◌≡◌, ℕ, ◌+◌, ◌*◌, ◌<◌, ◌≤◌, List, length, slice_index_or, sum_by, All, AllPairs}
use Rattle.link_base.specs.Words.{empty_cell}
use Rattle.link_limits.specs.declared.TheConstants.{WHOLE_RULE}
use Rattle.link_base.specs.declared.rule.RuleCell.{RuleCell}
use Rattle.decision_rule.specs.Rule.{Rule, RanksBefore}

-- the cell at a place
abbrev pub cell_at : List RuleCell → ℕ → RuleCell
cell_at cells k = slice_index_or cells k empty_cell

-- the shares of a cell are within the whole, and its chances are at least 1
pub record IsCell (c : RuleCell) : Type 0 where
  pub shares : c.link + c.nonlink ≤ WHOLE_RULE
  pub m_pos : 0 < c.m
  pub u_pos : 0 < c.u

-- every cell before i is a link, no cell after i is
pub record LinksEndAt (cells : List RuleCell) (i : ℕ) : Type 0 where
  pub in_order : AllPairs RanksBefore cells
  pub shares : All IsCell cells
  pub in_table : i < length cells
  pub before : (k : ℕ) → k < i → (cell_at cells k).link ≡ WHOLE_RULE
  pub after : (k : ℕ) → i < k → k < length cells → (cell_at cells k).link ≡ 0

-- every cell after j is a non-link, no cell before j is
pub record NonlinksStartAt (cells : List RuleCell) (j : ℕ) : Type 0 where
  pub in_order : AllPairs RanksBefore cells
  pub shares : All IsCell cells
  pub in_table : j < length cells
  pub before : (k : ℕ) → k < j → (cell_at cells k).nonlink ≡ 0
  pub after : (k : ℕ) → j < k → k < length cells → (cell_at cells k).nonlink ≡ WHOLE_RULE

-- cut form: all links before i, all non-links after j, all possible links between
pub record IsCutForm (cells : List RuleCell) (i j : ℕ) : Type 0 where
  pub in_order : AllPairs RanksBefore cells
  pub shares : All IsCell cells
  pub places : i ≤ j
  pub in_table : j < length cells
  pub before : (k : ℕ) (d : RuleCell) → k < i → (slice_index_or cells k d).link ≡ WHOLE_RULE
  pub after : (k : ℕ) (d : RuleCell) → j < k → k < length cells → (slice_index_or cells k d).nonlink ≡ WHOLE_RULE
  pub between_link : (k : ℕ) (d : RuleCell) → i < k → k < j → (slice_index_or cells k d).link ≡ 0
  pub between_nonlink : (k : ℕ) (d : RuleCell) → i < k → k < j → (slice_index_or cells k d).nonlink ≡ 0
  pub link_border : (d : RuleCell) → i < j → (slice_index_or cells i d).nonlink ≡ 0
  pub nonlink_border : (d : RuleCell) → i < j → (slice_index_or cells j d).link ≡ 0

-- the links among matched pairs, and the non-links among unmatched pairs, of a table and of a rule over its patterns
abbrev pub matched_links_of : List RuleCell → ℕ
matched_links_of cells = sum_by (λ c. c.m * c.link) cells

abbrev pub unmatched_nonlinks_of : List RuleCell → ℕ
unmatched_nonlinks_of cells = sum_by (λ c. c.u * c.nonlink) cells

abbrev pub rule_matched_links : Rule → List RuleCell → ℕ
rule_matched_links r cells = sum_by (λ c. c.m * r.link c.pattern) cells

abbrev pub rule_unmatched_nonlinks : Rule → List RuleCell → ℕ
rule_unmatched_nonlinks r cells = sum_by (λ c. c.u * r.nonlink c.pattern) cells
