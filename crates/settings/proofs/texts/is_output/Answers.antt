use Rattle.std.proofs.Common.{◌≡◌, ◌∙◌, ℕ, List, [], ◌∷◌, codes, arith, ◌||◌, bytes_eq}
use Rattle.std.specs.Cmp.Lexicographic.{nat_list_eq_equiv}
use Rattle.link_texts.specs.Texts.{stands_among}
use Rattle.settings.proofs.texts.is_output.Goals as goal

one_of_five : (a b c d e s : List ℕ) → stands_among (a ∷ b ∷ c ∷ d ∷ e ∷ []) s ≡ (bytes_eq s a || bytes_eq s b || bytes_eq s c || bytes_eq s d || bytes_eq s e)
one_of_five a b c d e s = grind (arith, nat_list_eq_equiv.symm)

pub returns : goal.returns
returns c = c.is_listed.ensures ∙ one_of_five (codes "pairs.csv") (codes "rule.csv") (codes "links.csv") (codes "prices.csv") (codes "report.txt") c.args.text.now
