-- A decision rule over two files (Fellegi and Sunter 1969, section 2), and the one that a `PairRule` is seen as (`PairRule::new`,
-- its lone clause): the pattern of two rows by it (`PairRule::pattern`, clause `number`), and the cell
-- of a pattern (`PairRule::cell`, clause `found`).
use Rattle.std.specs.Prelude.{◌≡◌, All, ℕ, ◌==◌, Bool, List, [], map, find, slice_index_or, unwrap_or, IsPermutation, ◌+◌, true, false, filter, length, Option, Some, None, bytes_eq, nat_le}
use Rattle.std.specs.List.{range_with_len, enumerate_from}
use Rattle.comparators.specs.Fields.{IsFieldSide, kind_outcome, rare_where}
use Rattle.comparators.specs.declared.ids.FieldById.{FieldById}
use Rattle.comparators.specs.declared.ids.IdValue.{IdValue}
use Rattle.link_base.specs.Words.{empty_cell, Record, absent_value}
use Rattle.link_base.specs.declared.rule.PairAt.{PairAt}
use Rattle.link_base.specs.declared.rule.RuleCell.{RuleCell}
use Rattle.patterns.specs.Patterns.{AreSides, number_of, outcomes}
use Rattle.link_plan.specs.declared.plan.Plan.{Plan}
use Rattle.pair_decisions.specs.Comparators.{answers_of, comparators_of, SideComparator}
use Rattle.value_forms.specs.declared.canons.CompareKind.{CompareKind}
use Rattle.link_base.specs.declared.standard.Value.{Value}
use Rattle.link_plan.specs.Plan.{FieldKeys}
use Rattle.value_forms.specs.Canons.{canon_of}

-- the comparators, the cells of the filled table, and the seed of the border words
pub record PairRuleView : Type 0 where
  pub comparators : List FieldById
  pub cells : List RuleCell
  pub seed : ℕ

-- one side for each comparator, of which it may be asked
abbrev pub AreSidesFor : PairRuleView → List IdValue → Type 0
AreSidesFor rule sides = AreSides IsFieldSide rule.comparators sides

-- a decision rule over two files: the comparison pattern of each pair of records, by their positions; the cells of its table; and the
-- seed of its border words
pub record FileRule : Type 0 where
  pub pattern : PairAt → ℕ
  pub cells : List RuleCell
  pub seed : ℕ

-- which comparators answer `Rare`
abbrev pub rares_in : {S : Type 0} → List (SideComparator S) → List Bool
rares_in {S = S} comparators = map (λ (c : SideComparator S). c.rare) comparators

-- the comparison pattern of two rows of sides
abbrev pub pattern_by : {S : Type 0} → List (SideComparator S) → List S → List S → ℕ
pattern_by {S = S} comparators a b = number_of (rares_in comparators) (outcomes (λ (c : SideComparator S). c.outcome) comparators a b)

-- the comparison pattern of the rows at a pair of positions
abbrev pub pattern_over : {S : Type 0} → List (SideComparator S) → List (List S) → List (List S) → PairAt → ℕ
pattern_over comparators rows_a rows_b at = pattern_by comparators (slice_index_or rows_a at.a []) (slice_index_or rows_b at.b [])

-- machinery: the decision rule that is seen in a `PairRule` over rows of sides
abbrev pub side_rule : PairRuleView → List (List IdValue) → List (List IdValue) → FileRule
side_rule rule rows_a rows_b = record {
  pattern = pattern_over (map answers_of rule.comparators) rows_a rows_b;
  cells = rule.cells;
  seed = rule.seed;
}

-- the cell of a pattern: the one whose pattern it is, and an empty one where there is none
abbrev pub has_pattern : ℕ → RuleCell → Bool
has_pattern pattern cell = cell.pattern == pattern

abbrev pub cell_of : List RuleCell → ℕ → RuleCell
cell_of cells pattern = unwrap_or (find (has_pattern pattern) cells) empty_cell

-- each of so many patterns stands in one cell
abbrev pub AreCellsOf : ℕ → List RuleCell → Type 0
AreCellsOf patterns cells = IsPermutation (range_with_len 0 patterns) (map (λ (c : RuleCell). c.pattern) cells)

-- the rule of a plan over these rows of sides, which name so many texts, by the cells of its table
pub record IsRuleOver (plan : Plan) (texts : ℕ) (table : List RuleCell) (rows_a rows_b : List (List IdValue)) (rule : PairRuleView) : Type 0 where
  pub comparators : map answers_of rule.comparators ≡ comparators_of texts plan.fields rows_a rows_b
  pub cells : rule.cells ≡ table
  pub seed : rule.seed ≡ plan.terms.seed
  pub sides_a : All (AreSidesFor rule) rows_a
  pub sides_b : All (AreSidesFor rule) rows_b

-- How a plan compares two records, by their standard values: the outcome in each field, their comparison pattern, and the decision rule of
-- the plan over its two files (Fellegi and Sunter 1969, section 2). A field with a rare number tells agreement on a value that at most so
-- many records of both files together have from other agreement (Newcombe et al. 1959). The law `same_patterns` says that ids of canons
-- give these patterns.

-- whether a canon is there and is this text
abbrev pub is_canon : List ℕ → Option (List ℕ) → Bool
is_canon text None = false
is_canon text (Some canon) = bytes_eq canon text

-- how many records of a file have a value with this canon in a field
abbrev pub records_with : CompareKind → ℕ → List ℕ → List Record → ℕ
records_with kind field text file = length (filter (λ (r : Record). is_canon text (canon_of kind (slice_index_or r.row field absent_value))) file)

-- how many of both files together
abbrev pub holders_of : CompareKind → ℕ → List Record → List Record → List ℕ → ℕ
holders_of kind field a b text = records_with kind field text a + records_with kind field text b

-- whether a canon is there and at most so many records have it
abbrev pub is_rare_canon : ℕ → (List ℕ → ℕ) → Option (List ℕ) → Bool
is_rare_canon most holders None = false
is_rare_canon most holders (Some canon) = nat_le (holders canon) most

-- the comparator of a kind, and where there is a rare number the one that tells rare agreement from other agreement
abbrev pub field_comparator : CompareKind → Option ℕ → (List ℕ → ℕ) → SideComparator Value
field_comparator kind None holders = record { rare = false; outcome = kind_outcome kind }
field_comparator kind (Some most) holders = record {
  rare = true;
  outcome = λ x y. rare_where (is_rare_canon most holders (canon_of kind x)) (kind_outcome kind x y);
}

-- the comparator of the field at a place, and those of all fields
abbrev pub field_comparator_at : List Record → List Record → ℕ × FieldKeys → SideComparator Value
field_comparator_at a b at = field_comparator at.1.compare at.1.rare (holders_of at.1.compare at.0 a b)

abbrev pub field_comparators : List FieldKeys → List Record → List Record → List (SideComparator Value)
field_comparators fields a b = map (field_comparator_at a b) (enumerate_from 0 fields)

-- the values of the records of a file
abbrev pub values_of : List Record → List (List Value)
values_of file = map (λ (r : Record). r.row) file

-- the comparison pattern of the records at a pair of positions
abbrev pub pattern_of_pair : List FieldKeys → List Record → List Record → PairAt → ℕ
pattern_of_pair fields a b = pattern_over (field_comparators fields a b) (values_of a) (values_of b)

-- the decision rule of a plan with these cells, over its two files
abbrev pub rule_of_plan : Plan → List Record → List Record → List RuleCell → FileRule
rule_of_plan plan a b cells = record { pattern = pattern_of_pair plan.fields a b; cells = cells; seed = plan.terms.seed }
