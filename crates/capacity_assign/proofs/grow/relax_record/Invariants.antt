use Rattle.std.proofs.Common.{◌≡◌, ℕ, ◌<◌, ◌≤◌, ◌-◌, length}
use Rattle.capacity_assign.specs.Growth.{Relaxes}
use Rattle.assignment_steps.specs.Words.{edge_of, distance}
use Rattle.capacity_assign.proofs.grow.relax_record.Given as goal

abbrev pub invariant-loop-k : goal.invariant-loop-k
invariant-loop-k l = record {
  within : l.k ≤ length l.ground.field.edges.now;
  above : (j : ℕ) → l.k ≤ j → j < length l.ground.field.edges.now → l.position ≤ (edge_of l.ground.field j).a;
  last : distance l.tree.reached.dist_a.items l.position ≡ l.tree.reached.current;
  relaxes : Relaxes l.ground l.position 0 l.k l.fn.tree l.tree;
}

abbrev pub decreases-loop-k : goal.decreases-loop-k
decreases-loop-k l = length l.ground.field.edges.now - l.k
