-- The decisions of a rule on pairs of two files (Fellegi and Sunter 1969, section 2). `decide_pairs` carries them (clause
-- `decided`); the decision on one pair is by `decide_in_cell`.
use Rattle.std.specs.Prelude.{◌<◌, ℕ, List, length, nat_le, if◌then◌else◌, Result, Ok, Err, ◌≡◌, ◌+◌, ◌-◌, ◌≤◌, Bool, true, false, All, AllPairs, filter}
use Rattle.link_limits.specs.declared.TheConstants.{MOST_PAIRS}
use Rattle.link_base.specs.declared.fault.Fault.{Fault}
use Rattle.link_base.specs.declared.rule.PairAt.{PairAt}
use Rattle.comparators.specs.declared.ids.IdValue.{IdValue}
use Rattle.decision_rule.specs.Border.{border_word}
use Rattle.decision_rule.specs.Rule.{decision_of}
use Rattle.link_base.specs.declared.rule.Decision.{Decision}
use Rattle.link_base.specs.declared.rule.Decision.TheVariants.{Link, NonLink, Possible}
use Rattle.link_base.specs.Words.{IsPairBefore}
use Rattle.pair_decisions.specs.PairRule.{cell_of, FileRule, PairRuleView, side_rule}
use Rattle.pair_decisions.specs.declared.rows.DecidedRow.{DecidedRow}
use Rattle.link_base.specs.declared.fault.Fault.TheVariants as fault

-- Lists of pairs: the compared pairs where they are not too many (`decide_pairs`, clause `answer`), and pairs that stand in two files (clause
-- `decided`).

-- pairs, where they are not too many
abbrev pub pairs_within : List PairAt → Result (List PairAt) Fault
pairs_within pairs = if nat_le (length pairs) MOST_PAIRS then Ok pairs else Err (fault.TooManyPairs MOST_PAIRS)

-- a pair of positions in files of so many records
abbrev pub IsInside : ℕ → ℕ → PairAt → Type 0
IsInside rows_a rows_b at = (at.a < rows_a) × (at.b < rows_b)

-- the decision on the pair at positions, by the cell of its comparison pattern and its border word
unfoldable pub decision_at : FileRule → PairAt → Decision
decision_at rule at = decision_of (cell_of rule.cells (rule.pattern at)) (border_word rule.seed at.a at.b)

abbrev pub is_same : Decision → Decision → Bool
is_same Link Link = true
is_same Possible Possible = true
is_same NonLink NonLink = true
is_same kind other = false

-- the pairs of a list with a decision
abbrev pub pairs_with : Decision → FileRule → List PairAt → List PairAt
pairs_with kind rule pairs = filter (λ at. is_same kind (decision_at rule at)) pairs

-- what is seen of decided pairs: the rule, the rows of the pairs where they are kept, how many pairs were compared, the links and
-- the possible links
pub record DecidedView : Type 0 where
  pub rule : PairRuleView
  pub rows : List DecidedRow
  pub compared : ℕ
  pub links : List PairAt
  pub possible : List PairAt

-- how many pairs have a decision
abbrev pub count_with : DecidedView → Decision → ℕ
count_with d Link = length d.links
count_with d Possible = length d.possible
count_with d NonLink = d.compared - (length d.links + length d.possible)

-- decided pairs are the decisions of their rule on these pairs, which rise, over these rows of sides
pub record AreDecisionsOn (rows_a rows_b : List (List IdValue)) (pairs : List PairAt) (d : DecidedView) : Type 0 where
  pub few : length pairs ≤ MOST_PAIRS
  pub rising : AllPairs IsPairBefore pairs
  pub inside : All (IsInside (length rows_a) (length rows_b)) pairs
  pub compared : d.compared ≡ length pairs
  pub links : d.links ≡ pairs_with Link (side_rule d.rule rows_a rows_b) pairs
  pub possible : d.possible ≡ pairs_with Possible (side_rule d.rule rows_a rows_b) pairs

-- the lists of decided pairs stand in files of so many records, and rise
pub record AreListsIn (rows_a rows_b : ℕ) (d : DecidedView) : Type 0 where
  pub links : All (IsInside rows_a rows_b) d.links
  pub possible : All (IsInside rows_a rows_b) d.possible
  pub links_rise : AllPairs IsPairBefore d.links
  pub possible_rise : AllPairs IsPairBefore d.possible
