use Rattle.std.proofs.Common.{◌∙◌}
use Rattle.assignment.proofs.graph.run_sides.Goals as goal

pub run_other-requires : goal.run_other-requires
run_other-requires c = record {
  listed = rw (c.deref-3.ensures.value, c.deref-4.ensures.value) c.requires.graph.turned_listed;
  side = rw c.deref.ensures.value c.requires.sides.own.side;
  other = rw c.deref-3.ensures.value c.requires.sides.other;
}

pub run-requires : goal.run-requires
run-requires c = record {
  listed = rw (c.deref.ensures.value, c.deref-2.ensures.value, c.run_other.ensures.side.count_a) c.requires.graph.listed;
  side = c.run_other.ensures.side.side;
}

pub returns : goal.returns
returns c =
    let o = c.run_other.ensures.side in
    record { between = rw c.deref.ensures.value at c.run.ensures.between; rows_a = c.run.ensures.rows_a ∙ o.count_a; rows_b = c.run.ensures.rows_b ∙ o.count_b }
