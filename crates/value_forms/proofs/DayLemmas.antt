-- The parts of a day's date, counted.
use Rattle.std.proofs.Common.{◌≡◌, ℕ, zero, suc, ◌+◌, ◌-◌, ◌<◌, ◌≤◌, min, inl, inr, List, ◌∷◌, Bool, true, false, cond, nat_le, filter, length, refl, ap, sym, ◌∙◌, arith, ℤ, pos, ◌≤ℤ◌, ◌<ℤ◌, int_le, ◌&&◌, Some, None, subst, rules, negsuc, neg_ℤ, to_z, of_z, w16, w32, ◌/◌, ◌%◌, ◌==◌, [], ◌++◌, not, ◌||◌, take, chars, encode_utf8_all, nat_lt, if◌then◌else◌, eqb-true, IsUtf8}
use Rattle.std.specs.Char.{encode_utf8}
use Rattle.std.specs.List.{range_with_len, flat_map}
use Rattle.std.proofs.lemmas.Bool.{cases_lt}
use Rattle.std.proofs.lemmas.Bool.Decides.{nat_tests}
use Rattle.std.proofs.lemmas.Int.{ints, by_lt_z}
use Rattle.jiff_core.specs.declared.civil.date.Date.{Date}
use Rattle.jiff_core.specs.Calendar.{days_from_civil, IsYear, IsEpochDay, days_in_month}
use Rattle.jiff_core.specs.Date.{epoch_day}
use Rattle.jiff_core.proofs.SignedLemmas.{signed_arith, back_small}
use Rattle.jiff_core.proofs.CalendarLemmas.{days_in_month_bounds, days_from_civil-day_count}
use Rattle.jiff_core.proofs.DateLemmas.{cases_date, days_from_civil-day, epoch_day-lt, epoch_day_same, IsEarlier}
use Rattle.value_forms.specs.Days.{begun_by, month_day_of_day, month_of_day, year_of_day, civil_day, is_civil}
use Rattle.jiff_core.proofs.MarchLemmas.{day_count-early}
use Rattle.link_base.specs.Words.{IsDay}
use Rattle.std.proofs.lemmas.Option.{cond_some}
use lib.IntN.{nat_abs}
use Rattle.std.specs.Prelude.{⊤}
use Rattle.std.proofs.lemmas.Str.{encodes-chars}
use Rattle.value_forms.specs.InitialBytes.{goes_on, initials_from}
use Rattle.value_forms.specs.Initials.{initials_of, words_after}

-- the numbers of a run that are at most y
one_step : (b : Bool) (k from y : ℕ) (rest : List ℕ) → nat_le from y ≡ b → length rest ≡ min k (y + 1 - (from + 1)) → length (cond b (from ∷ rest) rest) ≡ min (suc k) (y + 1 - from)
one_step true k from y rest is h = let le : from ≤ y = grind (arith, nat_tests) in omega arith
one_step false k from y rest is h = let gt : y < from = grind (arith, nat_tests) in omega arith

count_begun : (p : ℕ → Bool) (y k from : ℕ) → ((n : ℕ) → from ≤ n → n < from + k → p n ≡ nat_le n y) → length (filter p (range_with_len from k)) ≡ min k (y + 1 - from)
count_begun p y zero from is = omega arith
count_begun p y (suc k) from is =
    let rest = count_begun p y k (from + 1) (λ n le lt. is n (omega arith) (omega arith)) in
    ap (λ b. length (cond b (from ∷ filter p (range_with_len (from + 1) k)) (filter p (range_with_len (from + 1) k)))) (is from (omega arith) (omega arith))
    ∙ one_step (nat_le from y) k from y (filter p (range_with_len (from + 1) k)) refl rest

le_true : (a b : ℤ) → a ≤ℤ b → int_le a b ≡ true
le_true a b h = grind (arith, ints)

le_false : (a b : ℤ) → b <ℤ a → int_le a b ≡ false
le_false a b h = grind (arith, ints)

same_test : (a b : ℤ) (n y : ℕ) → (n ≤ y → a ≤ℤ b) → (y < n → b <ℤ a) → int_le a b ≡ nat_le n y
same_test a b n y up down =
    elim (cases_lt y n) [
      | inl lt ↦ le_false a b (down lt) ∙ sym (let f : nat_le n y ≡ false = grind (arith, nat_tests) in f)
      | inr le ↦ le_true a b (up le) ∙ sym (let t : nat_le n y ≡ true = grind (arith, nat_tests) in t)
    ]

-- what begins by a day, where the starts rise and the y-th is the last of them
begun : (day : ℤ) (begins : ℕ → ℤ) (y most : ℕ) → 1 ≤ y → y ≤ most → ((n : ℕ) → 1 ≤ n → n ≤ most → n ≤ y → begins n ≤ℤ day) → ((n : ℕ) → 1 ≤ n → n ≤ most → y < n → day <ℤ begins n) → begun_by day begins most ≡ y
begun day begins y most low high up down =
    count_begun (λ n. int_le (begins n) day) y most 1 (λ n le lt. same_test (begins n) day n y (up n le (omega arith)) (down n le (omega arith))) ∙ omega arith

-- the first day of a month
first_of : (y : ℤ) (m : ℕ) → IsYear y → 1 ≤ m → m ≤ 12 → Date
first_of y m year low high = record { year = y; month = m; day = 1; year_in = year; month_in = (low, high); day_in = (omega arith, omega (arith, days_in_month_bounds y m)) }

not_before : (s d : Date) → (IsEarlier d s → ⊥) → epoch_day s ≤ℤ epoch_day d
not_before s d never =
    elim (cases_date s d) [
      | inl earlier ↦ omega (arith, signed_arith, epoch_day-lt s d earlier)
      | inr (inl later) ↦ absurd (never later)
      | inr (inr same) ↦ omega (arith, signed_arith, epoch_day_same s d same.0 same.1 same.2)
    ]

pub near_year : (n : ℕ) → n ≤ 9999 → IsYear (pos n)
near_year n le = (omega (arith, signed_arith), omega (arith, signed_arith))

year_begins : (d : Date) (y n : ℕ) → d.year ≡ pos y → 1 ≤ n → n ≤ 9999 → n ≤ y → days_from_civil (pos n) 1 1 ≤ℤ epoch_day d
unfolding first_of
year_begins d y n is low high le =
    let s = first_of (pos n) 1 (near_year n high) (omega arith) (omega arith) in
    let m = d.month_in in let a = d.day_in in
    not_before s d (λ h. grind (arith, signed_arith))

year_later : (d : Date) (y n : ℕ) → d.year ≡ pos y → n ≤ 9999 → y < n → epoch_day d <ℤ days_from_civil (pos n) 1 1
unfolding first_of
year_later d y n is high lt = epoch_day-lt d (first_of (pos n) 1 (near_year n high) (omega arith) (omega arith)) (inl (omega (arith, signed_arith)))

pub year_is : (d : Date) (y : ℕ) → d.year ≡ pos y → 1 ≤ y → y ≤ 9999 → year_of_day (epoch_day d) ≡ y
unfolding year_of_day
year_is d y is low high = begun (epoch_day d) (λ n. days_from_civil (pos n) 1 1) y 9999 low high (λ n a b c. year_begins d y n is a b c) (λ n a b c. year_later d y n is b c)

month_begins : (d : Date) (n : ℕ) → 1 ≤ n → n ≤ 12 → n ≤ d.month → days_from_civil d.year n 1 ≤ℤ epoch_day d
unfolding first_of
month_begins d n low high le =
    let s = first_of d.year n d.year_in low high in
    let a = d.day_in in
    not_before s d (λ h. grind (arith, signed_arith))

month_later : (d : Date) (n : ℕ) → 1 ≤ n → n ≤ 12 → d.month < n → epoch_day d <ℤ days_from_civil d.year n 1
unfolding first_of
month_later d n low high lt = epoch_day-lt d (first_of d.year n d.year_in low high) (inr (refl, inl lt))

month_counted : (d : Date) → begun_by (epoch_day d) (λ n. days_from_civil d.year n 1) 12 ≡ d.month
month_counted d = begun (epoch_day d) (λ n. days_from_civil d.year n 1) d.month 12 d.month_in.0 d.month_in.1 (λ n a b c. month_begins d n a b c) (λ n a b c. month_later d n a b c)

pub month_is : (d : Date) (y : ℕ) → d.year ≡ pos y → 1 ≤ y → y ≤ 9999 → month_of_day (epoch_day d) ≡ d.month
unfolding month_of_day
month_is d y is low high =
    ap (λ z. begun_by (epoch_day d) (λ n. days_from_civil z n 1) 12) (ap pos (year_is d y is low high) ∙ sym is) ∙ month_counted d

day_counted : (d : Date) → begun_by (epoch_day d) (λ n. days_from_civil d.year d.month n) 31 ≡ d.day
day_counted d =
    begun (epoch_day d) (λ n. days_from_civil d.year d.month n) d.day 31 d.day_in.0 (omega (arith, d.day_in.1, days_in_month_bounds d.year d.month))
    (λ n a b c. omega (arith, signed_arith, days_from_civil-day d.year d.month n d.day a d.day_in.0))
    (λ n a b c. omega (arith, signed_arith, days_from_civil-day d.year d.month n d.day a d.day_in.0))

pub month_day_is : (d : Date) (y : ℕ) → d.year ≡ pos y → 1 ≤ y → y ≤ 9999 → month_day_of_day (epoch_day d) ≡ d.day
unfolding month_day_of_day
month_day_is d y is low high =
    ap (λ z. begun_by (epoch_day d) (λ n. days_from_civil z (month_of_day (epoch_day d)) n) 31) (ap pos (year_is d y is low high) ∙ sym is)
    ∙ ap (λ m. begun_by (epoch_day d) (λ n. days_from_civil d.year m n) 31) (month_is d y is low high)
    ∙ day_counted d

-- Day numbers of the years 0001 to 9999.

year_one : Date
year_one = record { year = pos 1; month = 1; day = 1; year_in = search rules; month_in = search rules; day_in = search rules }

pub first_day : days_from_civil (pos 1) 1 1 ≡ neg_ℤ (pos 719_162)
first_day = omega (arith, signed_arith, days_from_civil-day_count, day_count-early (pos 1) 10000 1 1 refl (omega arith) (omega arith) (omega arith))

-- a day from 0001-01-01 on is of a year from 1 on
pub late_year : (d : Date) → neg_ℤ (pos 719_162) ≤ℤ epoch_day d → pos 1 ≤ℤ d.year
unfolding year_one
late_year d late = by_lt_z d.year (pos 1) (λ lt. absurd (omega (arith, signed_arith, epoch_day-lt d year_one (inl lt), first_day))) (λ le. le)

-- such a year is a natural number
pub record NaturalYear (y : ℤ) : Type 0 where
  pub number : ℕ
  pub is : y ≡ pos number
  pub low : 1 ≤ number
  pub high : number ≤ 9999

pub natural_year : (y : ℤ) → pos 1 ≤ℤ y → IsYear y → NaturalYear y
natural_year (pos n) low h = record { number = n; is = refl; low = omega (arith, signed_arith); high = omega (arith, signed_arith) }
natural_year (negsuc n) low h = absurd (omega (arith, signed_arith))

civil_at : (y m d : ℕ) → 1 ≤ y → y ≤ 9999 → 1 ≤ m → m ≤ 12 → 1 ≤ d → d ≤ days_in_month (pos y) m → is_civil y m d ≡ true
civil_at y m d a b e f g h = grind (arith, nat_tests)

pub civil_day_of : (d : Date) (y : NaturalYear d.year) → civil_day y.number d.month d.day ≡ Some (epoch_day d)
civil_day_of d y =
    ap (λ t. cond t (Some (days_from_civil (pos y.number) d.month d.day)) None) (civil_at y.number d.month d.day y.low y.high d.month_in.0 d.month_in.1 d.day_in.0 (subst (λ z. d.day ≤ days_in_month z d.month) y.is d.day_in.1))
    ∙ ap (λ z. Some (days_from_civil z d.month d.day)) (sym y.is)

-- the year as the code holds it
pub year_bits : (z : ℤ) (y : NaturalYear z) → nat_abs (to_z w16 (of_z w16 z)) ≡ y.number
year_bits z y = ap (λ x. nat_abs (to_z w16 (of_z w16 x))) y.is ∙ ap nat_abs (back_small w16 (pos y.number) (let high = y.high in omega arith))

early : (d : Date) → pos 1 ≤ℤ d.year → IsEarlier d year_one → ⊥
unfolding year_one
early d low h = let m = d.month_in in let a = d.day_in in grind (arith, signed_arith)

-- a date of a year from 1 on is a day from 0001-01-01 on
pub from_first_day : (d : Date) → pos 1 ≤ℤ d.year → neg_ℤ (pos 719_162) ≤ℤ epoch_day d
unfolding year_one
from_first_day d low =
    elim (cases_date year_one d) [
      | inl after ↦ omega (arith, signed_arith, epoch_day-lt year_one d after, first_day)
      | inr (inl before) ↦ absurd (early d low before)
      | inr (inr same) ↦ omega (arith, signed_arith, epoch_day_same year_one d same.0 same.1 same.2, first_day)
    ]

back : (z : ℤ) → neg_ℤ (pos 719_162) ≤ℤ z → z ≤ℤ pos 2_932_896 → to_z w32 (of_z w32 z) ≡ z
back (pos n) low high = back_small w32 (pos n) (omega (arith, signed_arith))
back (negsuc n) low high = back_small w32 (negsuc n) (omega (arith, signed_arith))

-- the number of a day, as the code holds it
pub held_day : (d : Date) (z : ℤ) → pos 1 ≤ℤ d.year → z ≡ epoch_day d → IsEpochDay z → IsDay (to_z w32 (of_z w32 z))
held_day d z low is within =
    let first = from_first_day d low in
    let late : neg_ℤ (pos 719_162) ≤ℤ z = omega (arith, signed_arith) in
    subst IsDay (sym (back z late within.1)) (record { low = late; high = within.1 })

-- what the test of a civil date says
civil_if : (y m d dim : ℕ) → (nat_le 1 y && nat_le y 9999 && nat_le 1 m && nat_le m 12 && nat_le 1 d && nat_le d dim) ≡ true → (1 ≤ y) × (y ≤ 9999) × (1 ≤ m) × (m ≤ 12) × (1 ≤ d) × (d ≤ dim)
civil_if y m d dim h = (grind (arith, nat_tests), grind (arith, nat_tests), grind (arith, nat_tests), grind (arith, nat_tests), grind (arith, nat_tests), grind (arith, nat_tests))

civil_date : (y m d : ℕ) → (1 ≤ y) × (y ≤ 9999) × (1 ≤ m) × (m ≤ 12) × (1 ≤ d) × (d ≤ days_in_month (pos y) m) → Date
civil_date y m d h = record { year = pos y; month = m; day = d; year_in = near_year y h.1; month_in = (h.2, h.3); day_in = (h.4, h.5) }

-- the parts of a day's date are those that it was made of
pub civil_day_parts : (y m d : ℕ) (day : ℤ) → civil_day y m d ≡ Some day → (y ≡ year_of_day day) × (m ≡ month_of_day day) × (d ≡ month_day_of_day day)
unfolding civil_date
civil_day_parts y m d day is =
    let found = cond_some (is_civil y m d) (days_from_civil (pos y) m d) day is in
    let h = civil_if y m d (days_in_month (pos y) m) found.0 in
    let date = civil_date y m d h in
    let same : epoch_day date ≡ day = found.1 in (
      sym (year_is date y refl h.0 h.1) ∙ ap year_of_day same,
      sym (month_is date y refl h.0 h.1) ∙ ap month_of_day same,
      sym (month_day_is date y refl h.0 h.1) ∙ ap month_day_of_day same,
    )

-- The initials of a text, byte by byte and by its words.

-- the initials of characters, where a word may start
abbrev initials_on : Bool → List ℕ → List ℕ
initials_on starts [] = []
initials_on starts (c ∷ cs) = if c == 32 then initials_on true cs else (if starts then c ∷ initials_on false cs else initials_on false cs)

abbrev firsts : List (List ℕ) → List ℕ
firsts ws = flat_map (take 1) ws

-- a case of both lemmas on words
by_first : (t : Bool) (xs ys : List (List ℕ)) (zs ws : List ℕ) → firsts xs ≡ zs → firsts ys ≡ ws → firsts (if t then xs else ys) ≡ (if t then zs else ws)
by_first true xs ys zs ws h k = h
by_first false xs ys zs ws h k = k

behind : (t : Bool) (r : ℕ) (zs ws : List ℕ) → (if t then r ∷ zs else r ∷ ws) ≡ r ∷ (if t then zs else ws)
behind true r zs ws = refl
behind false r zs ws = refl

mutual
  firsts-words : (cs : List ℕ) → firsts (words_after [] cs) ≡ initials_on true cs
  firsts-words [] = refl
  firsts-words (c ∷ cs) = by_first (c == 32) (words_after [] cs) (words_after (c ∷ []) cs) (initials_on true cs) (c ∷ initials_on false cs) (firsts-words cs) (firsts-run c [] cs)

  firsts-run : (r : ℕ) (run cs : List ℕ) → firsts (words_after (r ∷ run) cs) ≡ r ∷ initials_on false cs
  firsts-run r run [] = refl
  firsts-run r run (c ∷ cs) =
      by_first (c == 32) ((r ∷ run) ∷ words_after [] cs) (words_after (r ∷ (run ++ c ∷ [])) cs) (r ∷ initials_on true cs) (r ∷ initials_on false cs)
      (ap (λ (xs : List ℕ). r ∷ xs) (firsts-words cs)) (firsts-run r (run ++ c ∷ []) cs)
      ∙ behind (c == 32) r (initials_on true cs) (initials_on false cs)

-- one byte of a text
step : (b : ℕ) (rest : List ℕ) (s f t o : Bool) → (b == 32) ≡ t → goes_on b ≡ o
    → initials_from (b ∷ rest) s f ≡ (if not t && (s || (f && o)) then b ∷ initials_from rest t true else initials_from rest t false)
step b rest s f t o e g = λ i. if not (e i) && (s || (f && g i)) then b ∷ initials_from rest (e i) true else initials_from rest (e i) false

-- bytes that go on with a character
abbrev GoOn : List ℕ → Type 0
GoOn [] = ⊤
GoOn (b ∷ bs) = (goes_on b ≡ true) × GoOn bs

no_space : (b : ℕ) → goes_on b ≡ true → (b == 32) ≡ false
no_space b h = grind (arith, nat_tests)

taken-on : (bs rest : List ℕ) → GoOn bs → initials_from (bs ++ rest) false true ≡ bs ++ initials_from rest false true
taken-on [] rest h = refl
taken-on (b ∷ bs) rest h = step b (bs ++ rest) false true false true (no_space b h.0) h.0 ∙ ap (λ (xs : List ℕ). b ∷ xs) (taken-on bs rest h.1)

left-on : (bs rest : List ℕ) → GoOn bs → initials_from (bs ++ rest) false false ≡ initials_from rest false false
left-on [] rest h = refl
left-on (b ∷ bs) rest h = step b (bs ++ rest) false false false true (no_space b h.0) h.0 ∙ left-on bs rest h.1

-- the bytes of a character: the first one goes on with none, and the others go on with it
record AreOfCharacter (bytes : List ℕ) : Type 0 where
  first : ℕ
  others : List ℕ
  are : bytes ≡ first ∷ others
  other : (first == 32) ≡ false
  begins : goes_on first ≡ false
  go_on : GoOn others

-- where a word may start, a character is taken
taken : (bytes rest : List ℕ) (f : Bool) → AreOfCharacter bytes → initials_from (bytes ++ rest) true f ≡ bytes ++ initials_from rest false true
taken bytes rest f h =
    ap (λ (xs : List ℕ). initials_from (xs ++ rest) true f) h.are
    ∙ step h.first (h.others ++ rest) true f false false h.other h.begins
    ∙ ap (λ (xs : List ℕ). h.first ∷ xs) (taken-on h.others rest h.go_on)
    ∙ ap (λ (xs : List ℕ). xs ++ initials_from rest false true) (sym h.are)

-- and elsewhere it is left out
left_out : (bytes rest : List ℕ) (f : Bool) → AreOfCharacter bytes → initials_from (bytes ++ rest) false f ≡ initials_from rest false false
left_out bytes rest f h = ap (λ (xs : List ℕ). initials_from (xs ++ rest) false f) h.are ∙ by_flag f ∙ left-on h.others rest h.go_on
  where
    by_flag : (f : Bool) → initials_from (h.first ∷ (h.others ++ rest)) false f ≡ initials_from (h.others ++ rest) false false
    by_flag true = step h.first (h.others ++ rest) false true false false h.other h.begins
    by_flag false = step h.first (h.others ++ rest) false false false false h.other h.begins

goes_on-next : (n : ℕ) → goes_on (128 + n % 64) ≡ true
goes_on-next n = grind (arith, nat_tests)

leads : (n : ℕ) → 192 ≤ n → ((n == 32) ≡ false) × (goes_on n ≡ false)
leads n h = (grind (arith, nat_tests), grind (arith, nat_tests))

of_character : (c : ℕ) → (c == 32) ≡ false → AreOfCharacter (encode_utf8 c)
unfolding encode_utf8
of_character c e = by_width (nat_lt c 128) (nat_lt c 2048) (nat_lt c 65536) refl
  where
    wide : (n : ℕ) (others : List ℕ) → 192 ≤ n → GoOn others → AreOfCharacter (n ∷ others)
    wide n others h go_on = record { first = n; others = others; are = refl; other = (leads n h).0; begins = (leads n h).1; go_on = go_on }

    by_width : (x y z : Bool) → nat_lt c 128 ≡ x
        → AreOfCharacter (cond x (c ∷ []) (cond y ((192 + c / 64) ∷ (128 + c % 64) ∷ []) (cond z ((224 + c / 4096) ∷ (128 + c / 64 % 64) ∷ (128 + c % 64) ∷ []) ((240 + c / 262144) ∷ (128 + c / 4096 % 64) ∷ (128 + c / 64 % 64) ∷ (128 + c % 64) ∷ []))))
    by_width true y z h = record { first = c; others = []; are = refl; other = e; begins = grind (arith, nat_tests); go_on = tt }
    by_width false true z h = wide (192 + c / 64) ((128 + c % 64) ∷ []) (omega arith) (goes_on-next c, tt)
    by_width false false true h = wide (224 + c / 4096) ((128 + c / 64 % 64) ∷ (128 + c % 64) ∷ []) (omega arith) (goes_on-next (c / 64), (goes_on-next c, tt))
    by_width false false false h =
        wide (240 + c / 262144) ((128 + c / 4096 % 64) ∷ (128 + c / 64 % 64) ∷ (128 + c % 64) ∷ []) (omega arith) (goes_on-next (c / 4096), (goes_on-next (c / 64), (goes_on-next c, tt)))

space : (c : ℕ) → (c == 32) ≡ true → encode_utf8 c ≡ 32 ∷ []
unfolding encode_utf8
space c e = ap encode_utf8 (eqb-true c 32 e)

abbrev on_character : Bool → Bool → ℕ → List ℕ → List ℕ
on_character t s c cs = if t then initials_on true cs else (if s then c ∷ initials_on false cs else initials_on false cs)

-- one character more: the rest is known in each state
one_more : (c : ℕ) (cs : List ℕ) (s f t : Bool) → (c == 32) ≡ t → ((s f : Bool) → initials_from (encode_utf8_all cs) s f ≡ encode_utf8_all (initials_on s cs))
    → initials_from (encode_utf8 c ++ encode_utf8_all cs) s f ≡ encode_utf8_all (on_character t s c cs)
one_more c cs s f true e rest = ap (λ (xs : List ℕ). initials_from (xs ++ encode_utf8_all cs) s f) (space c e) ∙ rest true false
one_more c cs true f false e rest = taken (encode_utf8 c) (encode_utf8_all cs) f (of_character c e) ∙ ap (λ (xs : List ℕ). encode_utf8 c ++ xs) (rest false true)
one_more c cs false f false e rest = left_out (encode_utf8 c) (encode_utf8_all cs) f (of_character c e) ∙ rest false false

bytes-on : (cs : List ℕ) (s f : Bool) → initials_from (encode_utf8_all cs) s f ≡ encode_utf8_all (initials_on s cs)
bytes-on [] s f = refl
bytes-on (c ∷ cs) s f = one_more c cs s f (c == 32) refl (λ s f. bytes-on cs s f)

-- byte by byte stand the first characters of the words
pub initials_bytes : (text : List ℕ) → IsUtf8 text → initials_from text true false ≡ initials_of text
initials_bytes text utf8 =
    ap (λ (t : List ℕ). initials_from t true false) (sym (encodes-chars text utf8))
    ∙ bytes-on (chars text) true false
    ∙ ap encode_utf8_all (sym (firsts-words (chars text)))
