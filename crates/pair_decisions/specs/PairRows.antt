-- The rows of compared pairs: each with its comparison pattern and the decision of the pattern's cell (Fellegi and Sunter 1969,
-- section 2), as `decide_pairs` finds them before review (clause `decided`), and with the weight of the cell and the verdict of
-- clerical review, as `pair_lines` writes them (its lone clause).
use Rattle.std.specs.Prelude.{◌≡◌, ◌<◌, ℕ, Bool, true, false, List, [], All, AllPairs, length, map, Option, None}
use Rattle.comparators.specs.declared.ids.IdValue.{IdValue}
use Rattle.link_base.specs.declared.rule.Decision.{Decision}
use Rattle.link_base.specs.declared.rule.Decision.TheVariants.{Possible}
use Rattle.link_base.specs.declared.rule.PairAt.{PairAt}
use Rattle.link_base.specs.declared.rule.RuleCell.{RuleCell}
use Rattle.link_base.specs.declared.rule.Verdict.{Verdict}
use Rattle.link_base.specs.Words.{IsPairBefore}
use Rattle.link_report.specs.declared.open.PairRow.{PairRow}
use Rattle.pair_decisions.specs.Decisions.{AreDecisionsOn, AreListsIn, count_with, DecidedView, decision_at, pairs_with}
use Rattle.pair_decisions.specs.PairRule.{cell_of, FileRule, PairRuleView, side_rule}
use Rattle.pair_decisions.specs.declared.rows.DecidedRow.{DecidedRow}
use Rattle.review_journal.specs.Verdict.{verdict_on}
use Rattle.review_journal.specs.declared.entry.Entry.{Entry}

-- the verdict that is shown at a pair: that of the journal on a possible link, and none on any other pair
abbrev pub shown_verdict : List Entry → PairAt → Decision → Option Verdict
shown_verdict entries at Possible = verdict_on entries at.a at.b
shown_verdict entries at decision = None

-- the row of a pair before review, and those of pairs
abbrev pub decided_row : FileRule → PairAt → DecidedRow
decided_row rule at = record { at = at; pattern = rule.pattern at; decision = decision_at rule at }

abbrev pub decided_rows : FileRule → List PairAt → List DecidedRow
decided_rows rule pairs = map (decided_row rule) pairs

-- rows where they are kept: all of them, or none
abbrev pub kept_rows : Bool → List DecidedRow → List DecidedRow
kept_rows true rows = rows
kept_rows false rows = []

-- a row with the weight of its pattern's cell, and the verdict that is shown at it
abbrev pub shown_row : List RuleCell → List Entry → DecidedRow → PairRow
shown_row cells entries row = record {
  at = row.at;
  pattern = row.pattern;
  weight = (cell_of cells row.pattern).weight;
  decision = row.decision;
  verdict = shown_verdict entries row.at row.decision;
}

abbrev pub shown_rows : List RuleCell → List Entry → List DecidedRow → List PairRow
shown_rows cells entries rows = map (shown_row cells entries) rows

-- the rows of pairs with their weights, and the verdicts that are shown at them
abbrev pub pair_rows_of : FileRule → List Entry → List PairAt → List PairRow
pair_rows_of rule entries pairs = shown_rows rule.cells entries (decided_rows rule pairs)

-- rows that can be written: they rise, stand in files of so many records, and have some of so many patterns
pub record AreRowsIn (rows_a rows_b patterns : ℕ) (rows : List DecidedRow) : Type 0 where
  pub in_a : All (λ (r : DecidedRow). r.at.a < rows_a) rows
  pub in_b : All (λ (r : DecidedRow). r.at.b < rows_b) rows
  pub patterns_in : All (λ (r : DecidedRow). r.pattern < patterns) rows
  pub rising : AllPairs (λ (r s : DecidedRow). IsPairBefore r.at s.at) rows

-- decided pairs are those of a rule on these pairs, over these rows of sides: its decisions, how many pairs have each, and the rows of the
-- pairs where they are kept, all within the files
pub record IsDecidedOn (rule : PairRuleView) (with_rows : Bool) (rows_a rows_b : List (List IdValue)) (pairs : List PairAt) (d : DecidedView) : Type 0 where
  pub by_rule : d.rule ≡ rule
  pub decisions : AreDecisionsOn rows_a rows_b pairs d
  pub counts : (kind : Decision) → count_with d kind ≡ length (pairs_with kind (side_rule rule rows_a rows_b) pairs)
  pub lists : AreListsIn (length rows_a) (length rows_b) d
  pub rows : d.rows ≡ kept_rows with_rows (decided_rows (side_rule rule rows_a rows_b) pairs)
  pub rows_in : AreRowsIn (length rows_a) (length rows_b) (length d.rule.cells) d.rows
