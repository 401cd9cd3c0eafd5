use Rattle.std.proofs.Common.{◌≡◌, ap, arith, ◌∙◌}
use Rattle.patterns.specs.PatternLaws.{pattern_count_small}
use Rattle.level_frontier.specs.Borders.{border_m, border_u, link_border_of, nonlink_border_of}
use Rattle.level_frontier.proofs.Lemmas.{slack_small}
use Rattle.level_frontier.proofs.levels.row_of.Goals as goal

pub attained-requires-clause-size : goal.attained-requires-clause-size
attained-requires-clause-size c = omega (arith, pattern_count_small c.args.shares.now c.requires.fields, c.cut_rule.ensures.size, c.requires.size)

pub overflow_add-result : goal.overflow_add-result
overflow_add-result c =
    let cells = c.cut_rule.new.table.cells.items in
    let small = slack_small c.args.shares.now c.args.mu_ppm c.args.lambda_ppm cells c.requires.fields c.cut_rule.ensures.filled in
    let link : c.chances-link_m.result.0 ≡ border_m (link_border_of cells) = c.chances-link_m.ensures.matched ∙ ap border_m c.link_border.ensures ∙ ap (λ xs. border_m (link_border_of xs)) c.cells.ensures.all in
    let nonlink : c.chances-nonlink_m.result.0 ≡ border_m (nonlink_border_of cells) = c.chances-nonlink_m.ensures.matched ∙ ap border_m c.nonlink_border.ensures ∙ ap (λ xs. border_m (nonlink_border_of xs)) c.cells-2.ensures.all in
    omega (arith, small.0, link, nonlink)

pub overflow_add-result-2 : goal.overflow_add-result-2
overflow_add-result-2 c =
    let cells = c.cut_rule.new.table.cells.items in
    let small = slack_small c.args.shares.now c.args.mu_ppm c.args.lambda_ppm cells c.requires.fields c.cut_rule.ensures.filled in
    let link : c.chances-link_m.result.1 ≡ border_u (link_border_of cells) = c.chances-link_m.ensures.unmatched ∙ ap border_u c.link_border.ensures ∙ ap (λ xs. border_u (link_border_of xs)) c.cells.ensures.all in
    let nonlink : c.chances-nonlink_m.result.1 ≡ border_u (nonlink_border_of cells) = c.chances-nonlink_m.ensures.unmatched ∙ ap border_u c.nonlink_border.ensures ∙ ap (λ xs. border_u (nonlink_border_of xs)) c.cells-2.ensures.all in
    omega (arith, small.1, link, nonlink)
