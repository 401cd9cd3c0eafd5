-- The text of a day is read back as that day, and no other text is.
use Rattle.std.proofs.Common.{◌≡◌, ℕ, ◌+◌, ◌-◌, ◌*◌, ◌/◌, ◌%◌, ◌<◌, ◌≤◌, Bool, true, false, ◌&&◌, cond, nat_le, ◌==◌, List, [], ◌∷◌, length, slice_index, Option, Some, None, refl, sym, ap, subst, ◌∙◌, arith, ℤ, pos, zero, suc, inl, inr, ◌++◌, rules, negsuc, neg_ℤ, ◌+ℤ◌, ◌≤ℤ◌, ◌<ℤ◌, take, drop, chars, encode_utf8_all, IsAscii, IsUtf8, drop-drop}
use Rattle.std.proofs.lemmas.Bool.Decides.{nat_tests}
use Rattle.std.proofs.lemmas.Option.{cond_some, option_and_then_some}
use Rattle.jiff_core.specs.Calendar.{days_from_civil, days_in_month}
use Rattle.value_forms.proofs.DayLemmas.{civil_day_parts, civil_day_of, first_day, late_year, natural_year}
use Rattle.value_forms.specs.Days.{civil_day, date_text, four_of, is_civil, iso_day, IsDayText, month_of_day, text_of_day, two_of, year_of_day, ◌>>=◌, two_digits}
use Rattle.std.proofs.lemmas.Bool.{cases_lt}
use Rattle.std.proofs.lemmas.Int.{by_lt_z}
use Rattle.std.proofs.lemmas.Str.Ascii.{IsAscii-cons, IsAscii-nil}
use Rattle.jiff_core.specs.declared.civil.date.Date.{Date}
use Rattle.jiff_core.specs.Date.{epoch_day}
use Rattle.jiff_core.proofs.SignedLemmas.{signed_arith}
use Rattle.jiff_core.proofs.CalendarLemmas.{days_in_month_bounds}
use Rattle.jiff_core.proofs.DateLemmas.{days_from_civil-day, days_from_civil-max, days_from_civil-next_month, days_from_civil-next_year}
use Rattle.link_base.specs.Words.{IsDay}
use Rattle.std.specs.Str.Iter.{chars_rest, chars_steps}
use Rattle.std.specs.declared.str.Chars.{Chars}
use Rattle.std.proofs.lemmas.Grind.{common_steps}
use Rattle.std.proofs.lemmas.Str.{cons_from_encodes, encodes-append, encodes-chars, length-le-encodes}
use Rattle.value_forms.specs.Initials.{first_characters, later_characters}

two_back : (n : ℕ) → n < 100 → two_of (48 + n / 10) (48 + n % 10) ≡ Some n
two_back n lt =
    let test : (nat_le 48 (48 + n / 10) && nat_le (48 + n / 10) 57 && nat_le 48 (48 + n % 10) && nat_le (48 + n % 10) 57) ≡ true = grind (arith, nat_tests) in
    ap (λ b. cond b (Some (10 * (48 + n / 10 - 48) + (48 + n % 10 - 48))) None) test ∙ ap Some (omega arith)

four_back : (y : ℕ) → y < 10000 → four_of (48 + y / 100 / 10) (48 + y / 100 % 10) (48 + y % 100 / 10) (48 + y % 100 % 10) ≡ Some y
four_back y lt =
    ap (λ o. o >>= λ high. two_of (48 + y % 100 / 10) (48 + y % 100 % 10) >>= λ low. Some (100 * high + low)) (two_back (y / 100) (omega arith))
    ∙ ap (λ o. o >>= λ low. Some (100 * (y / 100) + low)) (two_back (y % 100) (omega arith))
    ∙ ap Some (omega arith)

-- what a civil date's parts are at most
pub record Parts (y m d : ℕ) : Type 0 where
  pub year : y ≤ 9999
  pub month : m ≤ 12
  pub day : d ≤ 31

parts : (y m d : ℕ) → is_civil y m d ≡ true → Parts y m d
parts y m d h = record { year = grind (arith, nat_tests); month = grind (arith, nat_tests); day = grind (arith, nat_tests) }

pub civil_parts : (y m d : ℕ) (day : ℤ) → civil_day y m d ≡ Some day → Parts y m d
civil_parts y m d day h = parts y m d (cond_some (is_civil y m d) (days_from_civil (pos y) m d) day h).0

iso_of_text : (y m d : ℕ) (day : ℤ) → civil_day y m d ≡ Some day → iso_day (date_text y m d) ≡ Some day
unfolding iso_day
iso_of_text y m d day h =
    let p = civil_parts y m d day h in
    let year = four_back y (let a = p.year in omega arith) in
    let month = two_back m (let a = p.month in omega arith) in
    let month_day = two_back d (let a = p.day in omega arith) in
    rw (year, month, month_day) h

pub iso_from_text : (t : List ℕ) (day : ℤ) → IsDayText day t → iso_day t ≡ Some day
iso_from_text t day is = ap iso_day is.text_is ∙ iso_of_text is.year is.month is.month_day day is.day_is

-- two bytes that are read as a number are its digits
record Digits (a b n : ℕ) : Type 0 where
  pub high : a ≡ 48 + n / 10
  pub low : b ≡ 48 + n % 10
  pub small : n < 100

digits : (a b : ℕ) → (nat_le 48 a && nat_le a 57 && nat_le 48 b && nat_le b 57) ≡ true → Digits a b (10 * (a - 48) + (b - 48))
digits a b h =
    let la : 48 ≤ a = grind (arith, nat_tests) in
    let ha : a ≤ 57 = grind (arith, nat_tests) in
    let lb : 48 ≤ b = grind (arith, nat_tests) in
    let hb : b ≤ 57 = grind (arith, nat_tests) in
    record { high = omega arith; low = omega arith; small = omega arith }

two_read : (a b n : ℕ) → two_of a b ≡ Some n → Digits a b n
two_read a b n h =
    let w = cond_some (nat_le 48 a && nat_le a 57 && nat_le 48 b && nat_le b 57) (10 * (a - 48) + (b - 48)) n h in
    subst (Digits a b) w.1 (digits a b w.0)

record Four (a b c d y : ℕ) : Type 0 where
  pub high : Digits a b (y / 100)
  pub low : Digits c d (y % 100)

four_read : (a b c d y : ℕ) → four_of a b c d ≡ Some y → Four a b c d y
four_read a b c d y h =
    option_and_then_some (λ high. two_of c d >>= λ low. Some (100 * high + low)) (two_of a b) y h (λ high is rest.
    option_and_then_some (λ low. Some (100 * high + low)) (two_of c d) y rest (λ low is' e.
    let sum : 100 * high + low ≡ y = cc in
    let x = two_read a b high is in
    let z = two_read c d low is' in
    let sx = x.small in let sz = z.small in
    let q : high ≡ y / 100 = omega arith in
    let r : low ≡ y % 100 = omega arith in
    record { high = subst (Digits a b) q x; low = subst (Digits c d) r z }))

guarded : (b : Bool) (o : Option ℤ) (day : ℤ) → cond b o None ≡ Some day → (b ≡ true) × (o ≡ Some day)
guarded true o day h = (refl, h)
guarded false o day h = absurd (let none : None ≡ Some day = h in cc)

listed : (t : List ℕ) → length t ≡ 10 → t ≡ slice_index t 0 ∷ slice_index t 1 ∷ slice_index t 2 ∷ slice_index t 3 ∷ slice_index t 4 ∷ slice_index t 5 ∷ slice_index t 6 ∷ slice_index t 7 ∷ slice_index t 8 ∷ slice_index t 9 ∷ []
listed (a ∷ b ∷ c ∷ d ∷ e ∷ f ∷ g ∷ h ∷ i ∷ j ∷ []) size = refl
listed t size = absurd (omega arith)

-- the ten bytes by their parts
text_by_parts : (t : List ℕ) (y m d : ℕ) → length t ≡ 10 → slice_index t 4 ≡ 45 → slice_index t 7 ≡ 45 →
    Four (slice_index t 0) (slice_index t 1) (slice_index t 2) (slice_index t 3) y → Digits (slice_index t 5) (slice_index t 6) m → Digits (slice_index t 8) (slice_index t 9) d → t ≡ date_text y m d
text_by_parts t y m d size first second year month day =
    let a = year.high.high in let b = year.high.low in let c = year.low.high in let e = year.low.low in
    let f = month.high in let g = month.low in let i = day.high in let j = day.low in
    listed t size ∙ cc

record Dashes (t : List ℕ) : Type 0 where
  pub size : length t ≡ 10
  pub first : slice_index t 4 ≡ 45
  pub second : slice_index t 7 ≡ 45

dashes : (t : List ℕ) → (length t == 10 && slice_index t 4 == 45 && slice_index t 7 == 45) ≡ true → Dashes t
dashes t h = record { size = grind (arith, nat_tests); first = grind (arith, nat_tests); second = grind (arith, nat_tests) }

pub iso_to_text : (t : List ℕ) (day : ℤ) → iso_day t ≡ Some day → IsDayText day t
unfolding iso_day
iso_to_text t day h =
    let whole = guarded (length t == 10 && slice_index t 4 == 45 && slice_index t 7 == 45) _ day h in
    let at = dashes t whole.0 in
    option_and_then_some _ (four_of (slice_index t 0) (slice_index t 1) (slice_index t 2) (slice_index t 3)) day whole.1 (λ y is rest.
    option_and_then_some _ (two_of (slice_index t 5) (slice_index t 6)) day rest (λ m is' rest'.
    option_and_then_some _ (two_of (slice_index t 8) (slice_index t 9)) day rest' (λ d is'' found.
    record { year = y; month = m; month_day = d; day_is = found; text_is = text_by_parts t y m d at.size at.first at.second (four_read _ _ _ _ y is) (two_read _ _ m is') (two_read _ _ d is'') })))

-- a day has one text
pub text_is : (t : List ℕ) (day : ℤ) → IsDayText day t → t ≡ text_of_day day
unfolding text_of_day
text_is t day is =
    let parts = civil_day_parts is.year is.month is.month_day day is.day_is in
    is.text_is
    ∙ ap (λ y. date_text y is.month is.month_day) parts.0
    ∙ ap (λ m. date_text (year_of_day day) m is.month_day) parts.1
    ∙ ap (λ d. date_text (year_of_day day) (month_of_day day) d) parts.2

-- Each day of the years 0001 to 9999 is the day of a date, and reads from its text.

-- a date on the day after
record DayAfter (d : Date) : Type 0 where
  pub date : Date
  pub is : epoch_day date ≡ epoch_day d +ℤ pos 1

after_year : (d : Date) → epoch_day d <ℤ pos 2_932_896 → 12 ≤ d.month → days_in_month d.year d.month ≤ d.day → DayAfter d
after_year d early last_month last_day =
    let m = d.month_in in let a = d.day_in in let y = d.year_in in
    let december : d.month ≡ 12 = omega arith in
    let long : days_in_month d.year d.month ≡ 31 = ap (days_in_month d.year) december in
    let last : d.day ≡ 31 = omega arith in
    by_lt_z d.year (pos 9999)
    (λ lt. record {
      date = record { year = d.year +ℤ pos 1; month = 1; day = 1; year_in = (omega (arith, signed_arith), omega (arith, signed_arith)); month_in = (omega arith, omega arith); day_in = (omega arith, omega (arith, days_in_month_bounds (d.year +ℤ pos 1) 1)) };
      is = days_from_civil-next_year d.year (d.year +ℤ pos 1) (omega (arith, signed_arith)) refl ∙ (λ i. days_from_civil d.year (sym december i) (sym last i) +ℤ pos 1);
    })
    (λ ge.
    let year : d.year ≡ pos 9999 = omega (arith, signed_arith) in
    let same : epoch_day d ≡ days_from_civil (pos 9999) 12 31 = λ i. days_from_civil (year i) (december i) (last i) in
    absurd (omega (arith, signed_arith, same, days_from_civil-max)))

after_month : (d : Date) → epoch_day d <ℤ pos 2_932_896 → days_in_month d.year d.month ≤ d.day → DayAfter d
after_month d early last =
    let m = d.month_in in let a = d.day_in in
    elim (cases_lt d.month 12) [
      | inl lt ↦ record {
        date = record { year = d.year; month = d.month + 1; day = 1; year_in = d.year_in; month_in = (omega arith, omega arith); day_in = (omega arith, omega (arith, days_in_month_bounds d.year (d.month + 1))) };
        is = days_from_civil-next_month d.year d.month d.day m.0 (omega arith);
      }
      | inr ge ↦ after_year d early ge last
    ]

day_after : (d : Date) → epoch_day d <ℤ pos 2_932_896 → DayAfter d
day_after d early =
    let a = d.day_in in
    elim (cases_lt d.day (days_in_month d.year d.month)) [
      | inl lt ↦ record {
        date = record { year = d.year; month = d.month; day = d.day + 1; year_in = d.year_in; month_in = d.month_in; day_in = (omega arith, omega arith) };
        is = omega (arith, signed_arith, days_from_civil-day d.year d.month (d.day + 1) d.day (omega arith) a.0);
      }
      | inr ge ↦ after_month d early ge
    ]

-- the date of a day that is counted from 0001-01-01
record DateOf (n : ℕ) : Type 0 where
  pub date : Date
  pub is : epoch_day date +ℤ pos 719_162 ≡ pos n

first_date : Date
first_date = record { year = pos 1; month = 1; day = 1; year_in = search rules; month_in = search rules; day_in = search rules }

first_of : DateOf 0
unfolding first_date
first_of = record { date = first_date; is = omega (arith, signed_arith, first_day) }

date_of : (n : ℕ) → n ≤ 3_652_058 → DateOf n
date_of zero le = first_of
date_of (suc n) le =
    let before = date_of n (omega arith) in
    let is = before.is in
    let after = day_after before.date (omega (arith, signed_arith)) in
    let next = after.is in
    record { date = after.date; is = omega (arith, signed_arith) }

-- the date of a day
record CivilDay (day : ℤ) : Type 0 where
  pub date : Date
  pub is : epoch_day date ≡ day

civil_of_day : (day : ℤ) → IsDay day → CivilDay day
civil_of_day (pos n) h =
    let high = h.high in
    let d = date_of (n + 719_162) (omega (arith, signed_arith)) in
    let is = d.is in
    record { date = d.date; is = omega (arith, signed_arith) }
civil_of_day (negsuc n) h =
    let low = h.low in
    let d = date_of (719_161 - n) (omega (arith, signed_arith)) in
    let is = d.is in
    record { date = d.date; is = omega (arith, signed_arith) }

-- the text of a day is that of its date
written : (day : ℤ) → IsDay day → IsDayText day (text_of_day day)
written day h =
    let d = civil_of_day day h in
    let late : neg_ℤ (pos 719_162) ≤ℤ epoch_day d.date = let low = h.low in let is = d.is in omega (arith, signed_arith) in
    let year = natural_year d.date.year (late_year d.date late) d.date.year_in in
    let text : IsDayText day (date_text year.number d.date.month d.date.day) =
    record { year = year.number; month = d.date.month; month_day = d.date.day; day_is = civil_day_of d.date year ∙ ap Some d.is; text_is = refl } in
    subst (IsDayText day) (text_is (date_text year.number d.date.month d.date.day) day text) text

pub read_again : (day : ℤ) → IsDay day → iso_day (text_of_day day) ≡ Some day
read_again day h = iso_from_text (text_of_day day) day (written day h)

pub ten_bytes : (day : ℤ) → length (text_of_day day) ≡ 10
unfolding text_of_day
ten_bytes day = refl

two_ascii : (n : ℕ) (rest : List ℕ) → n ≤ 99 → IsAscii rest → IsAscii ((48 + n / 10) ∷ (48 + n % 10) ∷ rest)
two_ascii n rest small h = IsAscii-cons (48 + n / 10) ((48 + n % 10) ∷ rest) (omega arith) (IsAscii-cons (48 + n % 10) rest (omega arith) h)

date_ascii : (y m d : ℕ) → y ≤ 9999 → m ≤ 12 → d ≤ 31 → IsAscii (date_text y m d)
date_ascii y m d a b e =
    let day = two_ascii d [] (omega arith) IsAscii-nil in
    let month = two_ascii m (45 ∷ two_digits d) (omega arith) (IsAscii-cons 45 (two_digits d) (omega arith) day) in
    let low = two_ascii (y % 100) (45 ∷ two_digits m ++ 45 ∷ two_digits d) (omega arith) (IsAscii-cons 45 (two_digits m ++ 45 ∷ two_digits d) (omega arith) month) in
    two_ascii (y / 100) (two_digits (y % 100) ++ 45 ∷ two_digits m ++ 45 ∷ two_digits d) (omega arith) low

pub in_ascii : (day : ℤ) → IsDay day → IsAscii (text_of_day day)
in_ascii day h =
    let text = written day h in
    let p = civil_parts text.year text.month text.month_day day text.day_is in
    let a = p.year in let b = p.month in let e = p.day in
    subst IsAscii (sym text.text_is) (date_ascii text.year text.month text.month_day a b e)

-- Going over the characters of a text.

empty_end : (cs : List ℕ) (i : ℕ) → length (drop i cs) ≤ 0 → drop (i + 1) cs ≡ drop i cs
empty_end cs i h = grind (arith, common_steps)

next_drop : (cs es : List ℕ) (i c : ℕ) → drop i cs ≡ c ∷ es → drop (i + 1) cs ≡ es
next_drop cs es i c e = sym (drop-drop 1 i cs) ∙ ap (drop 1) e

pub one_later : (cs : List ℕ) (i : ℕ) (o : Option ℕ) (old new : Chars) → chars_rest old ≡ encode_utf8_all (drop i cs) → chars_steps old o new → chars_rest new ≡ encode_utf8_all (drop (i + 1) cs)
one_later cs i None old new at step =
    let none : length (drop i cs) ≤ 0 = omega (arith, length-le-encodes (drop i cs), ap length at, step.0.0) in
    ap chars_rest step.0.1 ∙ at ∙ ap encode_utf8_all (sym (empty_end cs i none))
one_later cs i (Some c) old new at step =
    let parts = cons_from_encodes (drop i cs) (chars_rest new) c (sym at ∙ step.0) in
    sym parts.2 ∙ ap encode_utf8_all (sym (next_drop cs parts.0 i c parts.1))

-- a text is its first characters and the later ones
pub first_and_later : (text : List ℕ) (n : ℕ) → IsUtf8 text → text ≡ first_characters n text ++ later_characters n text
first_and_later text n utf8 =
    let split : take n (chars text) ++ drop n (chars text) ≡ chars text = grind (arith, common_steps) in
    sym (encodes-chars text utf8) ∙ ap encode_utf8_all (sym split) ∙ encodes-append (take n (chars text)) (drop n (chars text))
