use Rattle.std.proofs.Common.{◌≡◌, ◌<◌, ◌∙◌, List, Some, ap, arith, get_or, length, subst, sym, find}
use Rattle.std.proofs.lemmas.List.{get_or_default}
use Rattle.link_base.specs.Words.{empty_cell}
use Rattle.link_base.specs.declared.rule.RuleCell.{RuleCell}
use Rattle.pair_decisions.proofs.ComparatorLemmas.{found_at}
use Rattle.pair_decisions.specs.Words.{PairRuleView, has_pattern, place_of}
use Rattle.pair_decisions.proofs.pair_rule.PairRule.cell.Goals as goal

pub returns-clause-found : goal.returns-clause-found
returns-clause-found c =
    let pattern = c.args.pattern in
    let place = c.from-2.result in
    let places = c.self.inside.places.items in
    let cells = c.self.inside.table.cells.items in
    let same : cells ≡ c.args.self.now.cells = ap (λ (v : PairRuleView). v.cells) c.self.view_is in
    let lt : pattern < length cells = omega (arith, ap length same) in
    let within : c.from.result < length places = omega (arith, c.from.ensures, c.self.invariant.as_many) in
    let read : c.index-place.result.now ≡ get_or places pattern 0 = c.index-place.ensures ∙ get_or_default places c.from.result c.index-place.result.now 0 within ∙ ap (λ k. get_or places k 0) c.from.ensures in
    let is : place ≡ place_of cells pattern = c.from-2.ensures ∙ read ∙ c.self.invariant.told pattern lt in
    let here = found_at cells pattern place empty_cell is (c.self.invariant.stands pattern lt) ∙ ap (λ cs. Some (get_or cs place empty_cell)) (sym c.cells.ensures.all) in
    let P : List RuleCell → Type 0 = λ cs. find (has_pattern pattern) cs ≡ Some (get_or c.cells.result.now place empty_cell) in
    subst P same here
