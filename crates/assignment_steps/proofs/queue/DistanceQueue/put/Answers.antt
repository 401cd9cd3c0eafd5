use Rattle.std.proofs.Common.{◌≡◌, ◌-◌, ◌*◌, ◌/◌, ◌∙◌, ℕ, ap, heap_items, rules}
use Rattle.assignment_steps.specs.Words.{ranked_of, waiting_of}
use Rattle.assignment_steps.specs.declared.queue.TheConstants.{LAST, TURNS}
use Rattle.assignment_steps.proofs.Members.{mapped_stays, mapped_added, mapped_only, rank_of_entry}
use Rattle.assignment_steps.proofs.queue.DistanceQueue.put.Goals as goal

pub returns : goal.returns
returns c =
    let near : (LAST - (LAST - c.rank_of-rank.result)) / (2 * TURNS) ≡ c.args.distance = ap (λ (n : ℕ). n / (2 * TURNS)) (rank_of_entry _ c.rank_of-rank.ensures.within) ∙ c.rank_of-rank.ensures.distance in
    let waits = ap (λ d. (d, c.args.position)) near in
    let ranks = ap (λ r. (r, c.args.position)) (rank_of_entry _ c.rank_of-rank.ensures.within ∙ c.rank_of-rank.ensures.rank) in
    let old = heap_items c.self.inside.heap in
    let new = heap_items c.push.new.self in
    let permuted = c.in-Ok.ensures.permutation in
    record {
      count = search rules;
      room = search rules;
      stays = rw (← c.self.view_is) (mapped_stays waiting_of old new _ permuted);
      added = mapped_added waiting_of old new _ (c.args.distance, c.args.position) waits permuted;
      only = rw (← c.self.view_is) (mapped_only waiting_of old new _ (c.args.distance, c.args.position) waits permuted);
      ranked = rw (← c.self.view_is) (record {
        added = mapped_added ranked_of old new _ _ ranks permuted;
        stays = mapped_stays ranked_of old new _ permuted;
        only = mapped_only ranked_of old new _ _ ranks permuted;
      });
      turn = search rules;
    }
