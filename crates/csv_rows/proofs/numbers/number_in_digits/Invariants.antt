use Rattle.std.proofs.Common.{◌≡◌, ◌≤◌, drop}
use Rattle.std.specs.Char.{is_ascii_digit}
use Rattle.std.specs.List.{list_all}
use Rattle.csv_rows.specs.Numbers.{number_after, number_in}
use Rattle.csv_rows.proofs.numbers.number_in_digits.Given as goal

abbrev pub invariant-loop-digit : goal.invariant-loop-digit
invariant-loop-digit l = record {
  within : l.number ≤ l.most;
  value : number_in l.digits ≡ number_after l.number (drop l.digit-index l.digits);
  digits : list_all is_ascii_digit l.digits ≡ list_all is_ascii_digit (drop l.digit-index l.digits);
}
