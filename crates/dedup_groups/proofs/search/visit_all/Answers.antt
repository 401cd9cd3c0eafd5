use Rattle.std.proofs.Common.{◌∙◌, refl, sym, ap, arith, slice_index}
use Rattle.std.proofs.lemmas.List.{get_or_read}
use Rattle.dedup_groups.specs.Groups.{depth_of}
use Rattle.dedup_groups.specs.Forest.{lists_of}
use Rattle.dedup_groups.proofs.SearchLemmas.{all_visited, head_within, visit_passed, visit_reached}
use Rattle.dedup_groups.proofs.search.visit_all.Goals as goal
use Rattle.dedup_groups.proofs.search.visit_all.Goals.{then-index-leader+in_ok-reach, else-index-leader}

pub loop-at-init : goal.loop-at-init
loop-at-init c = record {
  search = c.requires.search;
  within = c.requires.done;
  first = sym (get_or_read c.args.trees.now.queue.items c.args.done c.index-from.result.now c.requires.done c.index-from.ensures 0);
  told = λ k lt. absurd (omega (arith, lt));
  kept = refl;
}

pub index-requires : goal.index-requires
index-requires c = (let within = head_within _ _ _ _ _ _ _ _ _ c.requires.neighbours c.loop-at.invariant c.rows-heads.ensures c.loop-at-test.true in omega arith)

pub reach-requires : goal.reach-requires
reach-requires c =
    let v = c.loop-at.invariant in
    let rows = v.search.rows in
    let first = v.search.reached c.args.done v.within in
    record {
      rows = record { leaders = refl; vias = rows.vias ∙ sym rows.leaders; depths = rows.depths ∙ sym rows.leaders };
      at = head_within _ _ _ _ _ _ _ _ _ c.requires.neighbours v c.rows-heads.ensures c.loop-at-test.true;
      from = rw (← v.first) (omega (arith, first.0, rows.leaders));
      depth = omega (arith, ap (depth_of (lists_of c.loop-at.trees)) v.first, first.2, v.within, v.kept, c.requires.room);
    }

pub loop-at-preserved : goal.loop-at-preserved
loop-at-preserved c =
    let v = c.loop-at.invariant in
    let leaders = c.loop-at.trees.leaders.items in
    let within = head_within _ _ _ _ _ _ _ _ _ c.requires.neighbours v c.rows-heads.ensures c.loop-at-test.true in
    let is = get_or_read leaders (slice_index c.rows-heads.result.now c.loop-at.at-index) c.index.result.now within c.index.ensures 0 in
    elim c.if-index-leader.branch [
      | then-index-leader+in_ok-reach w ↦ rw w.trees-is (visit_reached _ _ _ _ _ _ _ _ _ c.requires.neighbours v c.rows-heads.ensures c.loop-at-test.true _ _ (omega (arith, is, w.if-index-leader.true)) w.in_ok-reach.ensures.lists w.in_ok-reach.ensures.queue)
      | else-index-leader w ↦ rw w.trees-is (visit_passed _ _ _ _ _ _ _ _ _ c.requires.neighbours v c.rows-heads.ensures c.loop-at-test.true (omega (arith, is, w.if-index-leader.false)))
    ]

pub returns-clause-search : goal.returns-clause-search
returns-clause-search c = all_visited _ _ _ _ _ _ _ _ _ c.requires.neighbours c.loop-at.invariant c.rows-heads.ensures c.loop-at-test.false
