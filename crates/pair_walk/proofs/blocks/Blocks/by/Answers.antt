use Rattle.std.proofs.Common.{length, arith}
use Rattle.pair_walk.proofs.JoinLemmas.{joined-is, rising-is, rows-are}
use Rattle.pair_walk.proofs.blocks.Blocks.by.Goals as goal

pub invariant_of-result : goal.invariant_of-result
invariant_of-result c =
    let found = c.in_ok-found.ensures in (
      rw c.rows-2.ensures (rows-are c.args.passes.now c.in_ok-found.found.items c.args.a.now c.args.b.now found),
      rw (c.rows.ensures, c.rows-2.ensures) (rising-is c.args.passes.now c.in_ok-found.found.items c.args.a.now c.args.b.now found),
    )

pub returns : goal.returns
returns c =
    rw (c.rows.ensures, c.rows-2.ensures) (joined-is c.args.passes.now c.in_ok-found.found.items c.args.a.now c.args.b.now c.in_ok-found.ensures 0 (length c.args.a.now) (omega arith))
