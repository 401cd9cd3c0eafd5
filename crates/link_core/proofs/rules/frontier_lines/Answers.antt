use Rattle.std.proofs.Common.{◌≡◌, ◌∙◌, ap, length, rules}
use Rattle.link_core.proofs.ResultLemmas.{frontier_text_is, written_whole}
use Rattle.pair_decisions.specs.Words.{plain_all}
use Rattle.link_core.proofs.rules.frontier_lines.Goals as goal

pub returns : goal.returns
returns c =
    let f = c.frontier.ensures in
    let full : c.in_ok-rows.rows.len ≡ length c.frontier.new.rows = search rules in
    let many : length c.frontier.new.rows ≡ length c.args.mus.now = search rules in
    frontier_text_is c.frontier_text.result c.args.plan.now c.args.shares.now c.deref-2.result.now c.args.mus.now c.frontier.new.rows c.deref-3.result.now (ap plain_all c.deref-2.ensures.value ∙ c.shares.view_is) many (c.deref-3.ensures.value ∙ written_whole c.frontier.new.rows _ c.in_ok-rows.rows.len full) f.rows f.falling f.near_least c.frontier_text.ensures
