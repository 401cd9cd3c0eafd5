use Rattle.std.proofs.Common.{rules}
use Rattle.std.proofs.lemmas.Fn.{always_returns_same}
use Rattle.standardise.specs.Names.{text_cmp}
use Rattle.standardise.proofs.pairs.place_in.Goals as goal

-- the closure gives the order of what is held and the text, and stays as it is
pub returns-clause-place : goal.returns-clause-place
returns-clause-place c = c.binary_search_by.ensures.position (λ p. text_cmp p.from c.args.word.now) (always_returns_same _ _ _ (λ a r g called. (search rules, search rules)))
