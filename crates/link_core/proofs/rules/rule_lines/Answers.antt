use Rattle.std.proofs.Common.{◌∙◌, ap, sym}
use Rattle.link_core.proofs.ResultLemmas.{rares_seen, rule_text_is}
use Rattle.link_core.specs.Rules.{shared_rares}
use Rattle.patterns.specs.Patterns.{rare_in}
use Rattle.pair_decisions.specs.Words.{shape_rares, plain_all}
use Rattle.link_core.proofs.rules.rule_lines.Goals as goal

pub rule_of_shares-requires-clause-rares : goal.rule_of_shares-requires-clause-rares
rule_of_shares-requires-clause-rares c =
    ap rare_in c.deref.ensures.value ∙ sym (rares_seen c.shares.inside.all.items) ∙ ap shared_rares c.shares.view_is ∙ c.requires.rares

pub returns : goal.returns
returns c =
    let t = c.in_ok-table.ensures in
    rule_text_is c.rule_text.result c.args.plan.now c.args.shares.now c.deref.result.now _ _ (ap plain_all c.deref.ensures.value ∙ c.shares.view_is) t.filled t.least (shape_rares c.args.plan.now.fields c.shape.result c.shape.ensures.fields c.shape.ensures.rare) c.rule_text.ensures
