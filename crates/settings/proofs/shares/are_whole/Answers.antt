use Rattle.std.proofs.Common.{◌∙◌, rules, sym, tests}
use Rattle.std.proofs.lemmas.Iterator.{YieldsList-from_slice}
use Rattle.std.proofs.lemmas.Iterator.Search.{all_from_yields_List}
use Rattle.settings.proofs.Ranges.{wholes_by_all}
use Rattle.settings.proofs.shares.are_whole.Goals as goal

pub returns : goal.returns
returns c =
    all_from_yields_List _ _ _ _ c.all.ensures.ran (YieldsList-from_slice c.args.items.now cc) (λ x b q k. search (rules, tests)) ∙ sym (wholes_by_all c.args.items.now)
