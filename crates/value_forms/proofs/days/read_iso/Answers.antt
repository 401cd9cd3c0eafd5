use Rattle.std.proofs.Common.{◌≡◌, ℤ, List, ℕ, Option, Some, None, IfSome, MatchOption, sym, ◌∙◌}
use Rattle.value_forms.specs.Days.{iso_day, IsDayText, text_of_day}
use Rattle.value_forms.proofs.TextLemmas.{iso_from_text, iso_to_text, text_is}
use Rattle.value_forms.proofs.days.read_iso.Goals as goal

exact : (t : List ℕ) (r : Option ℤ) → r ≡ iso_day t → MatchOption r ((day : ℤ) → ¬ IsDayText day t) (λ day. IsDayText day t)
exact t None is = λ day text. let e : None ≡ Some day = is ∙ iso_from_text t day text in cc
exact t (Some day) is = iso_to_text t day (sym is)

pub returns-clause-text : goal.returns-clause-text
returns-clause-text c = exact c.args.text.now c.iso.result c.iso.ensures.value

same : (t : List ℕ) (r : Option ℤ) → r ≡ iso_day t → IfSome r (λ day. t ≡ text_of_day day)
same t None is = tt
same t (Some day) is = text_is t day (iso_to_text t day (sym is))

pub returns-clause-same : goal.returns-clause-same
returns-clause-same c = same c.args.text.now c.iso.result c.iso.ensures.value
