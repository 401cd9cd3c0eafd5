use Rattle.std.proofs.Common.{refl}
use Rattle.workload.specs.Made.{paired_row}
use Rattle.workload.proofs.Lemmas.{text_more}
use Rattle.workload.proofs.samples.push_pairs.Goals as goal

pub loop-row-preserved : goal.loop-row-preserved
loop-row-preserved c =
    let row_of = paired_row c.args.on c.args.status.now in
    text_more row_of c.loop-row.row (row_of c.loop-row.row) c.args.text.now.items c.loop-row.text.items c.push_pair.new.text.items c.loop-row.invariant c.in_ok-push_pair.ensures refl
