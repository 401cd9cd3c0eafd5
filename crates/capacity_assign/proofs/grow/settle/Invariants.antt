use Rattle.std.proofs.Common.{◌≡◌, ℕ, ◌<◌, ◌≤◌, Some, length}
use Rattle.assignment_steps.specs.Words.{link, number, distance, far, edge_of, FitsQueue, HasRoomForRecords, work}
use Rattle.capacity_assign.specs.Growth.{IsTree, growth}
use Rattle.capacity_assign.proofs.Growing.{IsPast, steps_left}
use Rattle.capacity_assign.proofs.grow.settle.Given as goal

abbrev pub invariant-loop-next : goal.invariant-loop-next
invariant-loop-next l = record {
  held : l.tree.held ≡ Some l.near.position;
  current : l.tree.reached.current ≡ l.near.distance;
  tree : IsTree l.ground 0 (length l.ground.field.edges.now) (growth l.tree);
  room : HasRoomForRecords (length l.ground.field.price_a.now) (length l.ground.field.price_b.now) l.tree.reached;
  fits : FitsQueue l.ground.field.edges.now 0 (length l.ground.field.edges.now) l.tree.reached;
  work : work l.ground.field.edges.now 0 (length l.ground.field.edges.now) l.tree.reached ≤ work l.ground.field.edges.now 0 (length l.ground.field.edges.now) l.fn.tree.reached;
  queue : l.fn.tree.reached.frontier.room ≤ l.tree.reached.frontier.room;
  within : (n : ℕ) → l.next ≡ Some n → (n < l.ground.seats.now.count) × (number l.ground.seats.now.owner.items n ≡ l.near.position);
  done : (k : ℕ) → link l.ground.field.link_a.now (edge_of l.ground.field k).a ≡ Some k → (edge_of l.ground.field k).b ≡ l.near.position → IsPast l.next (number l.ground.seats.now.seat.items (edge_of l.ground.field k).a) → distance l.tree.reached.dist_a.items (edge_of l.ground.field k).a < far;
}

abbrev pub decreases-loop-next : goal.decreases-loop-next
decreases-loop-next l = steps_left l.next
