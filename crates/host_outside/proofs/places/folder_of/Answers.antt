use Rattle.std.proofs.Common.{arith, rules}
use Rattle.host_outside.proofs.Lemmas.{split_at_last}
use Rattle.host_outside.proofs.places.folder_of.Goals as goal

pub returns-in-None : goal.returns-in-None
returns-in-None c =
    let split = split_at_last 47 c.args.name.now _ c.rsplit_once.ensures.cases (omega arith) in
    rw (← split) (grind rules)

pub returns-then-is_empty : goal.returns-then-is_empty
returns-then-is_empty c =
    let split = split_at_last 47 c.args.name.now _ c.rsplit_once.ensures.cases (omega arith) in
    rw (← split) (grind rules)

pub returns-else-is_empty : goal.returns-else-is_empty
returns-else-is_empty c =
    let split = split_at_last 47 c.args.name.now _ c.rsplit_once.ensures.cases (omega arith) in
    rw (← split) (grind rules)
