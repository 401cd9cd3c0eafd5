use Rattle.std.proofs.Common.{◌++◌, [], refl}
use Rattle.std.proofs.lemmas.List.{get_or_read}
use Rattle.block_passes.specs.Keys.{ids_in_pass, ids_of_row}
use Rattle.block_passes.proofs.StepLemmas.{joined_more}
use Rattle.block_passes.proofs.part_ids.push_row.Goals as goal

pub push_pass-requires-clause-in_range : goal.push_pass-requires-clause-in_range
push_pass-requires-clause-in_range c =
    rw (get_or_read c.args.passes.now c.loop-pass.pass-index c.pass-item.result c.loop-pass-test.true c.pass-item.is []) (c.requires.in_range c.loop-pass.pass-index c.loop-pass-test.true)

pub push_pass-requires-clause-readable : goal.push_pass-requires-clause-readable
push_pass-requires-clause-readable c =
    rw (get_or_read c.args.passes.now c.loop-pass.pass-index c.pass-item.result c.loop-pass-test.true c.pass-item.is []) (c.requires.readable c.loop-pass.pass-index c.loop-pass-test.true)

pub push_pass-requires-clause-held : goal.push_pass-requires-clause-held
push_pass-requires-clause-held c =
    rw (get_or_read c.args.passes.now c.loop-pass.pass-index c.pass-item.result c.loop-pass-test.true c.pass-item.is []) (c.requires.held c.loop-pass.pass-index c.loop-pass-test.true)

pub loop-pass-preserved : goal.loop-pass-preserved
loop-pass-preserved c =
    let texts = c.args.pool.now.texts in
    let row = c.args.row.now in
    let passes = c.args.passes.now in
    let pushed = rw c.pass-item.is at c.in_ok-push_pass.ensures in
    joined_more (ids_in_pass texts row) (λ ps. ids_of_row texts ps row) (λ p ps. refl) passes c.loop-pass.pass-index _ c.loop-pass.ids.items c.push_pass.new.ids.items (c.args.ids.now.items ++ ids_of_row texts passes row) c.loop-pass-test.true c.loop-pass.invariant pushed
