use Rattle.std.proofs.Common.{refl}
use Rattle.block_passes.specs.Keys.{ids_of_row, key_ids}
use Rattle.block_passes.proofs.StepLemmas.{joined_more}
use Rattle.link_base.specs.Words.{no_record}
use Rattle.block_passes.proofs.part_ids.key_ids.Goals as goal

pub push_row-requires-clause-in_range : goal.push_row-requires-clause-in_range
push_row-requires-clause-in_range c = λ k lt. rw (c.passes-passes.ensures, c.row.ensures) (c.requires.ready k (rw c.passes-passes.ensures at lt) c.loop-at.at (rw c.rows-at-end.ensures at c.loop-at-test.true)).0

pub push_row-requires-clause-readable : goal.push_row-requires-clause-readable
push_row-requires-clause-readable c = λ k lt. rw (c.passes-passes.ensures, c.row.ensures) (c.requires.ready k (rw c.passes-passes.ensures at lt) c.loop-at.at (rw c.rows-at-end.ensures at c.loop-at-test.true)).1

pub push_row-requires-clause-held : goal.push_row-requires-clause-held
push_row-requires-clause-held c = λ k lt. rw (c.passes-passes.ensures, c.row.ensures) (c.requires.held k (rw c.passes-passes.ensures at lt) c.loop-at.at (rw c.rows-at-end.ensures at c.loop-at-test.true))

pub loop-at-preserved : goal.loop-at-preserved
loop-at-preserved c =
    let texts = c.args.pool.now.texts in
    let passes = c.args.passes.now in
    let file = c.args.file.now in
    joined_more (λ r. ids_of_row texts passes r.row) (key_ids texts passes) (λ r rs. refl) file c.loop-at.at no_record c.loop-at.ids.items c.push_row.new.ids.items (key_ids texts passes file) (rw c.rows-at-end.ensures at c.loop-at-test.true) c.loop-at.invariant (rw (c.row.ensures, c.passes-passes.ensures) at c.in_ok-push_row.ensures)
