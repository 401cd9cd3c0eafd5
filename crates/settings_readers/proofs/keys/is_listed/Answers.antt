use Rattle.std.proofs.Common.{◌∙◌, rules, sym, tests, bytes_eq}
use Rattle.std.proofs.lemmas.Iterator.{YieldsList-from_slice}
use Rattle.std.proofs.lemmas.Iterator.Search.{any_from_yields_List}
use Rattle.settings_readers.proofs.Lemmas.{any-map}
use Rattle.settings_readers.proofs.keys.is_listed.Goals as goal

pub returns : goal.returns
returns c =
    any_from_yields_List _ _ _ _ c.any.ensures.ran (YieldsList-from_slice c.args.listed.now cc) (λ x b q k. search (rules, tests)) ∙ sym (any-map (λ held. bytes_eq held c.args.key.now) (λ k. k.now) c.args.listed.now)
