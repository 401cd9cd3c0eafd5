use Rattle.pair_walk.proofs.JoinLemmas.{item-at}
use Rattle.pair_walk.proofs.passes.pass_rows.Goals as goal

pub new-requires-clause-ready_a : goal.new-requires-clause-ready_a
new-requires-clause-ready_a c =
    rw (item-at c.args.passes.now c.index-passes-at.result c.args.at c.requires.at (rw c.passes.ensures at c.index-passes-at.is)) (c.requires.ready_a c.args.at c.requires.at)

pub new-requires-clause-ready_b : goal.new-requires-clause-ready_b
new-requires-clause-ready_b c =
    rw (item-at c.args.passes.now c.index-passes-at.result c.args.at c.requires.at (rw c.passes.ensures at c.index-passes-at.is)) (c.requires.ready_b c.args.at c.requires.at)

pub new_in-requires-clause-ready_a : goal.new_in-requires-clause-ready_a
new_in-requires-clause-ready_a c = c.requires.ready_a c.args.at c.requires.at

pub new_in-requires-clause-ready_b : goal.new_in-requires-clause-ready_b
new_in-requires-clause-ready_b c = c.requires.ready_b c.args.at c.requires.at
