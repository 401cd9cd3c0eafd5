use Rattle.std.proofs.Common.{◌≡◌, ◌++◌, ◌∙◌, ap, length, sym, flat_map}
use Rattle.link_report.specs.PairsText.{pair_row}
use Rattle.patterns.specs.Patterns.{pattern_count_by}
use Rattle.pair_decisions.specs.Words.{cells_many, shape_rares, rares_of, shown_rows, PairRuleView}
use Rattle.pair_decisions.proofs.lines.pair_lines.Goals as goal

pub write_lines-requires-clause-cells : goal.write_lines-requires-clause-cells
write_lines-requires-clause-cells c =
    let fields = c.args.plan.now.fields in
    let rares : c.in_ok-writer.writer.rares ≡ rares_of fields = c.in_ok-writer.ensures.rares ∙ shape_rares fields c.shape.result c.shape.ensures.fields c.shape.ensures.rare in
    ap (λ (r : PairRuleView). length r.cells) c.rule.ensures ∙ cells_many (pattern_count_by (rares_of fields)) c.args.decided.now.rule.cells c.requires.cells ∙ ap pattern_count_by (sym rares)

pub returns : goal.returns
returns c =
    let fields = c.args.plan.now.fields in
    let rares : c.in_ok-writer.writer.rares ≡ rares_of fields = c.in_ok-writer.ensures.rares ∙ shape_rares fields c.shape.result c.shape.ensures.fields c.shape.ensures.rare in
    c.finish.ensures ∙ c.in_ok-write_lines.ensures
    ∙ (λ i. c.in_ok-writer.ensures.text i ++ flat_map (pair_row (rares i) c.args.a.now c.args.b.now) (shown_rows (c.rule.ensures i).cells c.args.journal.now (c.rows-2.ensures i)))
