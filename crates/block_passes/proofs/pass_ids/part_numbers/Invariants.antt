use Rattle.block_passes.specs.PassIds.{AreFirstIds}
use Rattle.block_passes.proofs.pass_ids.part_numbers.Given as goal

abbrev pub invariant-loop-at : goal.invariant-loop-at
invariant-loop-at l = AreFirstIds l.keys l.at l.numbers.items
