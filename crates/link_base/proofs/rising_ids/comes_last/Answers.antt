use Rattle.std.proofs.Common.{◌∙◌, ◌-◌, [], ap, get_or, sym}
use Rattle.link_base.proofs.RisingFacts.{after_last}
use Rattle.link_base.specs.Words.{comes_before}
use Rattle.link_base.proofs.rising_ids.comes_last.Goals as goal

pub returns : goal.returns
returns c told =
    after_last c.args.ids.now c.args.id.now c.requires (λ none. c.if-count-eq0.false (c.len-count.ensures ∙ none))
    (ap (λ n. comes_before (get_or c.args.ids.now (n - 1) []) c.args.id.now) (sym c.len-count.ensures) ∙ ap (λ last. comes_before last c.args.id.now) (sym c.get.ensures) ∙ sym c.comes_before.ensures ∙ told)
