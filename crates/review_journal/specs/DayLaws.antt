-- Law of the days of entries: the day that a text writes is one of the years 0001 to 9999. Proofs of the crates above cite it here.
use Rattle.std.proofs.Common.{◌≡◌, ℕ, ◌≤◌, ◌&&◌, nat_le, true, List, Some, subst, arith, ℤ, pos, ◌≤ℤ◌}
use Rattle.std.proofs.lemmas.Bool.Decides.{nat_tests}
use Rattle.std.proofs.lemmas.Option.{cond_some}
use Rattle.jiff_core.specs.declared.civil.date.Date.{Date}
use Rattle.jiff_core.specs.Calendar.{days_from_civil, days_in_month}
use Rattle.jiff_core.specs.Date.{epoch_day}
use Rattle.jiff_core.proofs.DateLemmas.{epoch_day_range}
use Rattle.jiff_core.proofs.SignedLemmas.{signed_arith}
use Rattle.link_base.specs.Words.{IsDay}
use Rattle.value_forms.specs.Days.{civil_day, is_civil, iso_day}
use Rattle.value_forms.proofs.DayLemmas.{near_year, from_first_day}
use Rattle.value_forms.proofs.TextLemmas.{iso_to_text}

-- what the test of a civil date says
civil_if : (y m d last : ℕ) → (nat_le 1 y && nat_le y 9999 && nat_le 1 m && nat_le m 12 && nat_le 1 d && nat_le d last) ≡ true → (1 ≤ y) × (y ≤ 9999) × (1 ≤ m) × (m ≤ 12) × (1 ≤ d) × (d ≤ last)
civil_if y m d last h = (grind (arith, nat_tests), grind (arith, nat_tests), grind (arith, nat_tests), grind (arith, nat_tests), grind (arith, nat_tests), grind (arith, nat_tests))

civil_date : (y m d : ℕ) → (1 ≤ y) × (y ≤ 9999) × (1 ≤ m) × (m ≤ 12) × (1 ≤ d) × (d ≤ days_in_month (pos y) m) → Date
civil_date y m d h = record { year = pos y; month = m; day = d; year_in = near_year y h.1; month_in = (h.2, h.3); day_in = (h.4, h.5) }

civil_is_day : (y m d : ℕ) (day : ℤ) → civil_day y m d ≡ Some day → IsDay day
unfolding civil_date
civil_is_day y m d day is =
    let found = cond_some (is_civil y m d) (days_from_civil (pos y) m d) day is in
    let h = civil_if y m d (days_in_month (pos y) m) found.0 in
    let date = civil_date y m d h in
    let same : epoch_day date ≡ day = found.1 in
    let first = h.0 in
    let late : pos 1 ≤ℤ pos y = omega (arith, signed_arith) in
    subst IsDay same (record { low = from_first_day date late; high = (epoch_day_range date).1 })

pub iso_is_day : (text : List ℕ) (day : ℤ) → iso_day text ≡ Some day → IsDay day
iso_is_day text day is = let t = iso_to_text text day is in civil_is_day t.year t.month t.month_day day t.day_is
