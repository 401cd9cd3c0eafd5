use Rattle.std.proofs.Common.{◌≡◌, Some, ap, sym, ◌∙◌, arith}
use Rattle.std.proofs.lemmas.Int.{ints}
use Rattle.jiff_core.specs.Date.{epoch_day}
use Rattle.value_forms.specs.Days.{civil_day, month_day_of_day, month_of_day, year_of_day}
use Rattle.value_forms.proofs.DayLemmas.{month_day_is, month_is, year_is, late_year, natural_year, civil_day_of, year_bits}
use Rattle.value_forms.proofs.days.civil_of.Goals as goal

pub overflow_cast-result : goal.overflow_cast-result
overflow_cast-result c =
    let date = c.from_days_since_min-date.result in
    let is : epoch_day date ≡ c.args.day = omega (arith, ints) in
    let late = late_year date (omega (arith, ints)) in
    let within = date.year_in in
    omega (arith, ints)

pub returns-clause-day : goal.returns-clause-day
returns-clause-day c =
    let date = c.from_days_since_min-date.result in
    let is : epoch_day date ≡ c.args.day = omega (arith, ints) in
    let year = natural_year date.year (late_year date (omega (arith, ints))) date.year_in in
    ap (λ y. civil_day y c.from_days_since_min-date.result.month c.from_days_since_min-date.result.day) {y = year.number} (year_bits date.year year) ∙ civil_day_of date year ∙ ap Some is

pub returns-clause-year : goal.returns-clause-year
returns-clause-year c =
    let date = c.from_days_since_min-date.result in
    let is : epoch_day date ≡ c.args.day = omega (arith, ints) in
    let year = natural_year date.year (late_year date (omega (arith, ints))) date.year_in in
    let bits = year_bits date.year year in
    let high = year.high in
    omega arith

pub returns-clause-parts : goal.returns-clause-parts
returns-clause-parts c =
    let date = c.from_days_since_min-date.result in
    let is : epoch_day date ≡ c.args.day = omega (arith, ints) in
    let year = natural_year date.year (late_year date (omega (arith, ints))) date.year_in in (
      year_bits date.year year ∙ sym (year_is date year.number year.is year.low year.high) ∙ ap year_of_day is,
      sym (month_is date year.number year.is year.low year.high) ∙ ap month_of_day is,
      sym (month_day_is date year.number year.is year.low year.high) ∙ ap month_day_of_day is,
    )
