use Rattle.std.proofs.Common.{◌≡◌, ℕ, ℤ, Option, Some, None, IfSome, sym}
use Rattle.value_forms.specs.Days.{civil_day, month_day_of_day, month_of_day, year_of_day}
use Rattle.value_forms.proofs.DayLemmas.{civil_day_parts}
use Rattle.value_forms.proofs.days.day_of.Goals as goal

parts : (r : Option ℤ) (y m d : ℕ) → r ≡ civil_day y m d → IfSome r (λ number. (y ≡ year_of_day number) × (m ≡ month_of_day number) × (d ≡ month_day_of_day number))
parts None y m d is = tt
parts (Some day) y m d is = civil_day_parts y m d day (sym is)

pub returns-clause-parts : goal.returns-clause-parts
returns-clause-parts c = parts c.day_number.result c.args.year c.args.month c.args.day c.day_number.ensures.day
