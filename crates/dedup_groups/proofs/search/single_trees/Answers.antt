use Rattle.std.proofs.Common.{◌∙◌, length-set}
use Rattle.std.proofs.lemmas.List.Edits.{fill_by_more}
use Rattle.dedup_groups.proofs.search.single_trees.Goals as goal

pub loop-at-preserved : goal.loop-at-preserved
loop-at-preserved c =
    let leaders = c.loop-at.leaders.items in
    let at = c.loop-at.at in
    record {
      count = length-set leaders at at ∙ c.loop-at.invariant.count;
      single = fill_by_more (λ x. x) leaders at 0 (rw c.loop-at.invariant.count c.loop-at-test.true) c.loop-at.invariant.single;
    }
