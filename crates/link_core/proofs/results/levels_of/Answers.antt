use Rattle.std.proofs.Common.{◌≡◌, ◌∙◌, ap, arith, length}
use Rattle.pair_decisions.specs.Words.{cells_many, few_patterns, PairRuleView, rares_of}
use Rattle.patterns.specs.Patterns.{pattern_count_by}
use Rattle.link_core.proofs.results.levels_of.Goals as goal

pub attained-requires-clause-size : goal.attained-requires-clause-size
attained-requires-clause-size c =
    let fields = c.args.plan.now.fields in
    let all = c.args.decided.now.rule.cells in
    let cells : c.table.result.now.cells.items ≡ all = c.table.ensures ∙ ap (λ (r : PairRuleView). r.cells) c.rule.ensures in
    let many = cells_many (pattern_count_by (rares_of fields)) all c.requires.cells in
    let few = few_patterns fields c.requires.ranges.few_fields in
    omega (arith, ap length cells, many, few)
