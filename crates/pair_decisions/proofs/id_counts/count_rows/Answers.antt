use Rattle.std.proofs.Common.{◌<◌, arith, length}
use Rattle.pair_decisions.specs.Words.{has_id}
use Rattle.pair_decisions.proofs.ListSteps.{filter_taken}
use Rattle.pair_decisions.proofs.id_counts.count_rows.Goals as goal

pub count_side-requires-clause-room : goal.count_side-requires-clause-room
count_side-requires-clause-room c = λ k lt.
    let here : k < length c.args.counts.now = omega (arith, c.loop-at.invariant.as_many) in
    let within : c.loop-at.at < length c.args.table.now.rows = omega (arith, c.count-at-end.ensures) in
    let few = filter_taken (has_id c.args.field k) c.args.table.now.rows c.loop-at.at (omega arith) in
    omega (arith, c.loop-at.invariant.counted k here, c.requires.room k here)
