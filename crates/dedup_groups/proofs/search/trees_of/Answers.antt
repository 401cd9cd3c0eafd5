use Rattle.std.proofs.Common.{◌∙◌, arith}
use Rattle.std.proofs.lemmas.List.{get_or_read}
use Rattle.dedup_groups.specs.Forest.{lists_of}
use Rattle.dedup_groups.proofs.SearchLemmas.{found_first, found_next}
use Rattle.dedup_groups.proofs.search.trees_of.Goals as goal
use Rattle.dedup_groups.proofs.search.trees_of.Goals.{then-index-leader+in_ok-search_from, else-index-leader}

pub loop-leader-init : goal.loop-leader-init
loop-leader-init c = found_first c.args.near.now (lists_of c.in_ok-trees.trees) (rw c.requires.rows c.in_ok-trees.ensures)

pub loop-leader-preserved : goal.loop-leader-preserved
loop-leader-preserved c =
    let found = c.loop-leader.invariant in
    elim c.if-index-leader.branch [
      | then-index-leader+in_ok-search_from w ↦ rw w.trees-is w.in_ok-search_from.ensures
      | else-index-leader w ↦ rw w.trees-is (found_next c.args.near.now (lists_of c.loop-leader.trees) c.loop-leader.leader found (λ e. w.if-index-leader.false (get_or_read c.loop-leader.trees.leaders.items c.loop-leader.leader c.index.result.now (omega (arith, found.rows.leaders, c.requires.rows)) c.index.ensures 0 ∙ e)))
    ]
