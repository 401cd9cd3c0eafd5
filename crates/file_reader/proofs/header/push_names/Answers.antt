use Rattle.std.proofs.Common.{arith}
use Rattle.file_reader.proofs.FindFacts.{taken_more}
use Rattle.file_reader.proofs.header.push_names.Goals as goal

pub loop-name-preserved : goal.loop-name-preserved
loop-name-preserved c =
    taken_more c.args.names.now.items c.loop-name.names.items c.push_name.new.names.items c.args.more.now c.loop-name.name-index c.name-item.result (omega arith) c.loop-name.invariant (rw (← c.name-item.is) c.in_ok-push_name.ensures)
