use Rattle.std.proofs.Common.{[], arith}
use Rattle.file_reader.proofs.FindFacts.{made_more}
use Rattle.file_reader.proofs.layout.columns_of.Goals as goal

pub loop-name-preserved : goal.loop-name-preserved
loop-name-preserved c =
    let new = rw c.in_ok-new.ensures at c.in_ok-push.ensures.items in
    made_more (λ name. name.now) [] c.loop-name.columns.items _ c.args.names.now c.loop-name.name-index _ (omega arith) c.loop-name.invariant new
