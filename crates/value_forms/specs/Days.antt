-- Civil dates of the years 0001 to 9999, their day numbers and their texts (ISO 8601). `day_of` and `civil_of` carry the
-- day numbers (clauses `day`, `parts`), `day_text` and `read_iso` the texts (clauses `text`, `date`, `value`).
use Rattle.std.specs.Prelude.{◌≡◌, ℕ, List, [], ◌∷◌, ◌++◌, ◌+◌, ◌*◌, ◌/◌, ◌%◌, Bool, ◌&&◌, nat_le, ◌==◌, ◌-◌, length, filter, int_le, slice_index, if◌then◌else◌, Option, Some, None, ℤ, pos, option_and_then}
use Rattle.std.specs.List.{range_with_len}
use Rattle.jiff_core.specs.Calendar.{days_in_month, days_from_civil}

-- the calendar has this date, in the years 0001 to 9999
abbrev pub is_civil : ℕ → ℕ → ℕ → Bool
is_civil y m d = nat_le 1 y && nat_le y 9999 && nat_le 1 m && nat_le m 12 && nat_le 1 d && nat_le d (days_in_month (pos y) m)

-- the day number of a date, from 1970-01-01, which is 0; none where there is no such date
abbrev pub civil_day : ℕ → ℕ → ℕ → Option ℤ
civil_day y m d = if is_civil y m d then Some (days_from_civil (pos y) m d) else None

-- a number below 100 in two digits, and one below 10,000 in four
abbrev pub two_digits : ℕ → List ℕ
two_digits n = (48 + n / 10) ∷ (48 + n % 10) ∷ []

abbrev pub four_digits : ℕ → List ℕ
four_digits n = two_digits (n / 100) ++ two_digits (n % 100)

-- YYYY-MM-DD
abbrev pub date_text : ℕ → ℕ → ℕ → List ℕ
date_text y m d = four_digits y ++ 45 ∷ two_digits m ++ 45 ∷ two_digits d

-- how many of the numbers from 1 on have begun by a day, where these are the days on which they begin
abbrev pub begun_by : ℤ → (ℕ → ℤ) → ℕ → ℕ
begun_by day begins most = length (filter (λ n. int_le (begins n) day) (range_with_len 1 most))

-- the year of a day, its month, and its day of the month
unfoldable pub year_of_day : ℤ → ℕ
year_of_day day = begun_by day (λ year. days_from_civil (pos year) 1 1) 9999

unfoldable pub month_of_day : ℤ → ℕ
month_of_day day = begun_by day (λ month. days_from_civil (pos (year_of_day day)) month 1) 12

unfoldable pub month_day_of_day : ℤ → ℕ
month_day_of_day day = begun_by day (λ date. days_from_civil (pos (year_of_day day)) (month_of_day day) date) 31

-- the text of a day, YYYY-MM-DD
unfoldable pub text_of_day : ℤ → List ℕ
text_of_day day = date_text (year_of_day day) (month_of_day day) (month_day_of_day day)

-- it is the text of a day
pub record IsDayText (day : ℤ) (text : List ℕ) : Type 0 where
  pub year : ℕ
  pub month : ℕ
  pub month_day : ℕ
  pub day_is : civil_day year month month_day ≡ Some day
  pub text_is : text ≡ date_text year month month_day

infixl 10 ◌>>=◌
abbrev pub ◌>>=◌ : {A B : Type 0} → Option A → (A → Option B) → Option B
o >>= f = option_and_then f o

-- the number of a digit, and of two
abbrev pub one_of : ℕ → Option ℕ
one_of a = if nat_le 48 a && nat_le a 57 then Some (a - 48) else None

abbrev pub two_of : ℕ → ℕ → Option ℕ
two_of a b = if nat_le 48 a && nat_le a 57 && nat_le 48 b && nat_le b 57 then Some (10 * (a - 48) + (b - 48)) else None

abbrev pub four_of : ℕ → ℕ → ℕ → ℕ → Option ℕ
four_of a b c d = do
  high ← two_of a b
  low ← two_of c d
  Some (100 * high + low)

-- the day of a text YYYY-MM-DD
unfoldable pub iso_day : List ℕ → Option ℤ
iso_day t =
    if length t == 10 && slice_index t 4 == 45 && slice_index t 7 == 45
    then (do
      year ← four_of (slice_index t 0) (slice_index t 1) (slice_index t 2) (slice_index t 3)
      month ← two_of (slice_index t 5) (slice_index t 6)
      day ← two_of (slice_index t 8) (slice_index t 9)
      civil_day year month day)
    else None
