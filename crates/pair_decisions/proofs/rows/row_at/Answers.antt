use Rattle.std.proofs.Common.{◌≡◌, ◌∙◌, ap, map, sym, unwrap_or}
use Rattle.decision_rule.specs.Border.{border_word}
use Rattle.decision_rule.specs.Rule.{decision_of}
use Rattle.link_base.specs.Words.{empty_cell}
use Rattle.pair_decisions.specs.Words.{answers_of, cell_of, pattern_by, side_rule}
use Rattle.pair_decisions.specs.Decisions.{decision_at}
use Rattle.pair_decisions.proofs.rows.row_at.Goals as goal

pub returns-clause-row : goal.returns-clause-row
unfolding decision_at
returns-clause-row c =
    let rule = side_rule c.args.rule.now c.args.sides_a.now.rows c.args.sides_b.now.rows in
    let by = map answers_of c.args.rule.now.comparators in
    let at = c.args.at in
    let rows : pattern_by by c.sides.result.now c.sides-2.result.now ≡ rule.pattern at = λ i. pattern_by by (c.sides.ensures i) (c.sides-2.ensures i) in
    let pattern : c.pattern-pattern.result ≡ rule.pattern at = c.pattern-pattern.ensures.number ∙ rows in
    let cell : c.cell.result.now ≡ cell_of rule.cells (rule.pattern at) = sym (ap (λ o. unwrap_or o empty_cell) c.cell.ensures.found) ∙ ap (cell_of rule.cells) pattern in
    let decision : c.decide_in_cell.result ≡ decision_at rule at = c.decide_in_cell.ensures.decision ∙ (λ i. decision_of (cell i) (border_word (c.requires.words i) at.a at.b)) in
    λ i. record { at = at; pattern = pattern i; decision = decision i }
