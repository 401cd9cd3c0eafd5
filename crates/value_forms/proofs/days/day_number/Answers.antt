use Rattle.std.proofs.Common.{◌≤ℤ◌, pos, arith}
use Rattle.std.proofs.lemmas.Int.{ints}
use Rattle.value_forms.proofs.DayLemmas.{held_day}
use Rattle.value_forms.proofs.days.day_number.Goals as goal

pub returns-in-Ok-clause-valid : goal.returns-in-Ok-clause-valid
returns-in-Ok-clause-valid c =
    let is = c.in-Ok.ensures.value in
    let low : pos 1 ≤ℤ c.in-Ok.date.year = omega (arith, ints) in
    held_day c.in-Ok.date c.to_unix_epoch_day.result low c.to_unix_epoch_day.ensures.value c.to_unix_epoch_day.ensures.bound
