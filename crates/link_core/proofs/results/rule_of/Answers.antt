use Rattle.std.proofs.Common.{◌≡◌, ◌<◌, ◌∙◌, Bool, List, ap, subst, sym, All}
use Rattle.link_base.specs.declared.rule.RuleCell.{RuleCell}
use Rattle.link_report.specs.LinksText.{text_of_rule}
use Rattle.pair_decisions.specs.Words.{cells_below, shape_rares, PairRuleView, rares_of}
use Rattle.patterns.specs.Patterns.{pattern_count_by, rare_of}
use Rattle.link_core.proofs.ResultLemmas.{if_ok}
use Rattle.link_core.proofs.results.rule_of.Goals as goal

pub rule_text-requires : goal.rule_text-requires
rule_text-requires c =
    let fields = c.args.plan.now.fields in
    let all = c.args.decided.now.rule.cells in
    let flags : rare_of c.shape.result ≡ rares_of fields = shape_rares fields c.shape.result c.shape.ensures.fields c.shape.ensures.rare in
    let cells : c.table.result.now.cells.items ≡ all = c.table.ensures ∙ ap (λ (r : PairRuleView). r.cells) c.rule.ensures in
    let below = cells_below (pattern_count_by (rares_of fields)) all c.requires.cells in
    let P : List Bool → Type 0 = λ rares. All (λ (x : RuleCell). x.pattern < pattern_count_by rares) all in
    let Q : List RuleCell → Type 0 = λ cs. All (λ (x : RuleCell). x.pattern < pattern_count_by (rare_of c.shape.result)) cs in
    subst Q (sym cells) (subst P (sym flags) below)

pub returns : goal.returns
returns c =
    let fields = c.args.plan.now.fields in
    let all = c.args.decided.now.rule.cells in
    let flags : rare_of c.shape.result ≡ rares_of fields = shape_rares fields c.shape.result c.shape.ensures.fields c.shape.ensures.rare in
    let cells : c.table.result.now.cells.items ≡ all = c.table.ensures ∙ ap (λ (r : PairRuleView). r.cells) c.rule.ensures in
    if_ok (λ text. text ≡ text_of_rule (rare_of c.shape.result) c.table.result.now.cells.items) (λ text. text ≡ text_of_rule (rares_of fields) all) c.rule_text.result
    (λ text e. e ∙ (λ i. text_of_rule (flags i) (cells i))) c.rule_text.ensures
