use Rattle.std.proofs.Common.{◌≡◌, ◌+◌, ◌-◌, ◌*◌, ◌≤◌, ◌∷◌, ◌∙◌, suc, ap, arith, drop, get_or, drop-cons}
use Rattle.std.specs.Char.{is_ascii_digit}
use Rattle.std.specs.List.{list_all}
use Rattle.csv_rows.specs.Numbers.{number_after, number_in}
use Rattle.csv_rows.proofs.Lemmas.{beyond, number_after_least}
use Rattle.csv_rows.proofs.numbers.number_in_digits.Goals as goal

pub returns-then-number-most-clause-some : goal.returns-then-number-most-clause-some
returns-then-number-most-clause-some c =
    let digits = c.args.digits.now in
    let i = c.loop-digit.digit-index in
    let number = c.loop-digit.number * 10 + (get_or digits i 0 - 48) in
    let first : drop i digits ≡ get_or digits i 0 ∷ drop (suc i) digits = drop-cons digits i 0 c.loop-digit-test.true in
    let value : number_in digits ≡ number_after number (drop (suc i) digits) =
    c.loop-digit.invariant.value ∙ ap (number_after c.loop-digit.number) first in
    let least : number ≤ number_after number (drop (suc i) digits) = number_after_least number (drop (suc i) digits) in
    beyond number (number_in digits) c.args.most (list_all is_ascii_digit digits) (omega arith) (omega arith)
