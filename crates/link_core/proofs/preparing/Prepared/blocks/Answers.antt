use Rattle.std.proofs.Common.{List, subst, sym}
use Rattle.link_base.specs.Words.{Record}
use Rattle.pair_walk.specs.Rows.{AreAllReady}
use Rattle.link_core.proofs.preparing.Prepared.blocks.Goals as goal

pub new_in-requires-clause-ready_a : goal.new_in-requires-clause-ready_a
new_in-requires-clause-ready_a c =
    let ready : List Record → Type 0 = λ file. AreAllReady c.args.plan.now.passes file in
    subst ready (sym c.a.ensures) c.requires.ready_a

pub new_in-requires-clause-ready_b : goal.new_in-requires-clause-ready_b
new_in-requires-clause-ready_b c =
    let ready : List Record → Type 0 = λ file. AreAllReady c.args.plan.now.passes file in
    subst ready (sym c.b.ensures) c.requires.ready_b
