-- Dates as people write them: three numbers in the order of a form. `read_date` carries them (clause `value`).
use Rattle.std.specs.Prelude.{ℕ, List, ◌+◌, Bool, ◌==◌, ◌||◌, length, slice_index, take, drop, position, is_some, if◌then◌else◌, Option, None, ℤ}
use Rattle.link_base.specs.declared.plan.DateForm.{DateForm}
use Rattle.link_base.specs.declared.plan.DateForm.TheVariants as form
use Rattle.value_forms.specs.Days.{civil_day, four_of, one_of, two_of, ◌>>=◌}

-- a month or day of one or two digits, a year of four
abbrev pub short_number : List ℕ → Option ℕ
short_number run =
    if length run == 1 then one_of (slice_index run 0)
    else (if length run == 2 then two_of (slice_index run 0) (slice_index run 1) else None)

abbrev pub year_number : List ℕ → Option ℕ
year_number run =
    if length run == 4 then four_of (slice_index run 0) (slice_index run 1) (slice_index run 2) (slice_index run 3) else None

unfoldable pub day_of_parts : List ℕ → List ℕ → List ℕ → Option ℤ
day_of_parts y m d = do
  year ← year_number y
  month ← short_number m
  day ← short_number d
  civil_day year month day

-- the three runs in the order of the form
unfoldable pub in_form : DateForm → List ℕ → List ℕ → List ℕ → Option ℤ
in_form form.Ymd a b c = day_of_parts a b c
in_form form.Dmy a b c = day_of_parts c b a
in_form form.Mdy a b c = day_of_parts c a b

-- - / .
abbrev pub in_signs : ℕ → Bool
in_signs c = c == 45 || c == 47 || c == 46

-- three runs parted by two equal signs
unfoldable pub day_with_signs : DateForm → List ℕ → Option ℤ
day_with_signs form t = do
  i ← position in_signs t
  j ← position (λ c. c == slice_index t i) (drop (i + 1) t)
  in_form form (take i t) (take j (drop (i + 1) t)) (drop (j + 1) (drop (i + 1) t))

-- how many digits come first where month and day have two each
abbrev pub first_length : DateForm → ℕ
first_length form.Ymd = 4
first_length form.Dmy = 2
first_length form.Mdy = 2

-- eight digits without signs
unfoldable pub day_without_signs : DateForm → List ℕ → Option ℤ
day_without_signs form t =
    if length t == 8
    then (let n = first_length form in in_form form (take n t) (take 2 (drop n t)) (drop (n + 2) t))
    else None

-- the day of one of the two shapes. A text of eight digits has no sign
unfoldable pub date_day : DateForm → List ℕ → Option ℤ
date_day form t = if is_some (day_with_signs form t) then day_with_signs form t else day_without_signs form t
