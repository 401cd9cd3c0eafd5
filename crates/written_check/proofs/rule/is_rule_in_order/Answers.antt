use Rattle.std.proofs.Common.{◌∙◌, sym}
use Rattle.patterns.specs.Patterns.{rare_of}
use Rattle.written_check.proofs.FormLemmas.{none_is, rule_in_order}
use Rattle.written_check.proofs.rule.is_rule_in_order.Goals as goal

pub returns-in_ok-difference_in-in-Some : goal.returns-in_ok-difference_in-in-Some
returns-in_ok-difference_in-in-Some c = λ is.
    let difference = c.in_ok-difference_in-in-Some in
    rule_in_order (rare_of c.args.shape.now) c.args.table.now.cells.items c.args.text.now c.in-Some.rows (sym c.in-Some.is ∙ c.in_ok-rows.ensures.rows)
    (sym difference.ensures ∙ none_is difference.field-0 c.is_none.result c.is_none.ensures is)
