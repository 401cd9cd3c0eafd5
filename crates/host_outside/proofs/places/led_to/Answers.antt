use Rattle.std.proofs.Common.{arith, rules}
use Rattle.host_outside.proofs.Lemmas.{split_at_last}
use Rattle.host_outside.proofs.places.led_to.Goals as goal

pub returns-in-Some : goal.returns-in-Some
returns-in-Some c =
    let split = split_at_last 47 c.args.link.now _ c.rsplit_once.ensures.cases (omega arith) in
    rw (← split) (grind rules)

pub returns-in_default : goal.returns-in_default
returns-in_default c =
    let split = split_at_last 47 c.args.link.now _ c.rsplit_once.ensures.cases (omega arith) in
    rw (← split) (grind rules)
