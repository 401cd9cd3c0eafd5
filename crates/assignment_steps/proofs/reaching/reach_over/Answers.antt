use Rattle.std.proofs.Common.{◌<◌, length, arith}
use Rattle.std.proofs.lemmas.List.{get_or_default}
use Rattle.assignment_steps.specs.Words.{edge_of, far}
use Rattle.assignment_steps.proofs.reaching.reach_over.Goals as goal

pub returns : goal.returns
returns c =
    let e = edge_of c.args.field c.args.k in
    let lt : e.a < length c.args.dist_a.now = omega (arith, c.requires.records, c.requires.ready.in_range.record_a c.args.k c.requires.place) in
    omega (arith, get_or_default c.args.dist_a.now e.a far 0 lt, c.requires.ready.covered c.args.k c.requires.place)
