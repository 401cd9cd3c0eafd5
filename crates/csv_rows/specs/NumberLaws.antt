-- Laws of the numbers that texts write in decimal digits: the digits of a number are read as it, and digits that are read are those of
-- their number. The first is law `decimals_are_read`; the proofs of the crates above cite both here.
use Rattle.std.proofs.Common.{◌≡◌, ◌<◌, ◌^◌, ◌∷◌, ℕ, zero, suc, List, [], Bool, true, false, get_or, length, ap, refl, arith, ◌==◌, ◌&&◌, ◌||◌, decimal, nat_le, not}
use Rattle.std.specs.Char.{is_ascii_digit}
use Rattle.std.specs.List.{list_all}
use Rattle.std.proofs.lemmas.Bool.{and_parts, leb-true}
use Rattle.std.proofs.lemmas.Bool.Decides.{nat_tests}
use Rattle.std.proofs.lemmas.Fmt.{decimal-digits_value, decimal_digit, decimal_nonempty, digits_decimal, digits_value-decimal, first_decimal}
use Rattle.std.proofs.lemmas.Str.Parse.{FoldsDigits, IsDigitsTest, IsNumeralModel, numerals_by_fold}
use Rattle.csv_rows.specs.Numbers.{is_decimal, number_after, number_in}

both_so : (s t : Bool) → s ≡ true → t ≡ true → (s && t) ≡ true
both_so true t e h = h
both_so false t e h = e

all_digits : IsDigitsTest (λ ds. list_all is_ascii_digit ds ≡ true)
all_digits = record {
  empty = refl;
  parts = λ c cs e. let parts = and_parts (is_ascii_digit c) (list_all is_ascii_digit cs) e in let digit = parts.0 in (grind (arith, nat_tests, digit), parts.1);
  more = λ c cs k e. both_so (is_ascii_digit c) (list_all is_ascii_digit cs) (grind (arith, nat_tests, k)) e;
}

folds : FoldsDigits number_after
folds = record { empty = λ n. refl; more = λ n c cs k. refl }

own : IsNumeralModel (λ ds. list_all is_ascii_digit ds ≡ true) number_in
own = numerals_by_fold (λ ds. list_all is_ascii_digit ds ≡ true) all_digits number_after folds

led : (ds : List ℕ) → 0 < length ds → 48 < get_or ds 0 0 → list_all is_ascii_digit ds ≡ true → is_decimal ds ≡ true
led [] some lead digits = absurd (omega arith)
led (c ∷ cs) some lead digits = grind (arith, nat_tests)

-- the digits of a number are read as it
pub decimal_is_decimal : (n : ℕ) → n < 2 ^ 64 → is_decimal (decimal n) ≡ true
decimal_is_decimal zero small = ap is_decimal (decimal_digit 0 (omega arith))
decimal_is_decimal (suc n) small = led (decimal (suc n)) (decimal_nonempty (suc n) small) (first_decimal (suc n) (omega arith) small) (digits_decimal own (suc n) small)

pub number_in_decimal : (n : ℕ) → n < 2 ^ 64 → number_in (decimal n) ≡ n
number_in_decimal n small = digits_value-decimal own n small

-- no digits but 0 alone begin with 0
alone : (text : List ℕ) → (length text == 1 || not (get_or text 0 48 == 48)) ≡ true → get_or text 0 0 ≡ 48 → length text ≡ 1
alone [] e h = absurd (omega (arith, h))
alone (c ∷ cs) e h = grind (arith, nat_tests)

-- digits that are read are those of their number
pub decimal_of_read : (text : List ℕ) → is_decimal text ≡ true → number_in text < 2 ^ 64 → decimal (number_in text) ≡ text
decimal_of_read text e small =
    let led = and_parts (nat_le 1 (length text) && list_all is_ascii_digit text) (length text == 1 || not (get_or text 0 48 == 48)) e in
    let digits = and_parts (nat_le 1 (length text)) (list_all is_ascii_digit text) led.0 in
    decimal-digits_value own text digits.1 (leb-true 1 (length text) digits.0) (alone text led.1) small
