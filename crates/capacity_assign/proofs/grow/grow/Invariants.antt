use Rattle.std.proofs.Common.{◌≡◌, ◌≤◌, None, length}
use Rattle.capacity_assign.specs.Growth.{IsTree, growth}
use Rattle.assignment_steps.specs.Words.{HasRoomForRecords, work, FitsQueue}
use Rattle.capacity_assign.proofs.grow.grow.Given as goal

abbrev pub invariant-loop-near : goal.invariant-loop-near
invariant-loop-near l = record {
  held : l.tree.held ≡ None;
  tree : IsTree l.ground 0 (length l.ground.field.edges.now) (growth l.tree);
  room : HasRoomForRecords (length l.ground.field.price_a.now) (length l.ground.field.price_b.now) l.tree.reached;
  fits : FitsQueue l.ground.field.edges.now 0 (length l.ground.field.edges.now) l.tree.reached;
  queue : l.fn.tree.reached.frontier.room ≤ l.tree.reached.frontier.room;
}

abbrev pub decreases-loop-near : goal.decreases-loop-near
decreases-loop-near l = work l.ground.field.edges.now 0 (length l.ground.field.edges.now) l.tree.reached
