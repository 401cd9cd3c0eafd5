use Rattle.std.proofs.Common.{◌*◌, ◌/◌, ℕ, ◌≤◌, ap, sym, refl, heap_items, rules, All, nat_cmp}
use Rattle.std.proofs.lemmas.List.Sorted.{first_le_from_greatest}
use Rattle.std.proofs.lemmas.List.Elements.{All-map}
use Rattle.assignment_steps.specs.Words.{ranked_of, waiting_of}
use Rattle.assignment_steps.specs.declared.queue.TheConstants.{TURNS}
use Rattle.assignment_steps.proofs.Members.{falls_with_entry, distances_rise, left_inside, left_only, left_stays}
use Rattle.assignment_steps.proofs.queue.DistanceQueue.take.Goals as goal

pub returns : goal.returns
returns c =
    let entry : ℕ × ℕ = (c.in_ok-left.left, c.in_ok-left.position) in
    let old = heap_items c.self.inside.heap in
    let new = heap_items c.pop.new.self in
    let permuted = c.in_ok-left.ensures.permutation in
    let rank = sym c.saturating_sub-rank.ensures in
    let waits = ap (λ (r : ℕ). (r / (2 * TURNS), c.in_ok-left.position)) rank in
    let ranks = ap (λ (r : ℕ). (r, c.in_ok-left.position)) rank in
    let below : All (λ (y : ℕ × ℕ). y.0 ≤ c.in_ok-left.left) new = first_le_from_greatest nat_cmp entry new (c.in_ok-left.ensures.below_top c.self.invariant.1) in
    record {
      room = search rules;
      count = search rules;
      inside = rw (← c.self.view_is) (left_inside waiting_of old new entry _ waits permuted);
      least = rw c.saturating_sub-rank.ensures (All-map (λ (x : ℕ × ℕ). (waiting_of entry).0 ≤ x.0) waiting_of new (λ k d lt. distances_rise _ _ (falls_with_entry _ _ (below k d lt))));
      stays = rw (← c.self.view_is) (left_stays waiting_of old new entry (c.saturating_sub-rank.result / (2 * TURNS), c.in_ok-left.position) waits permuted);
      only = rw (← c.self.view_is) (left_only waiting_of old new entry permuted);
      ranked = rw (← c.self.view_is) (record {
        rank = c.saturating_sub-rank.result;
        at = refl;
        inside = left_inside ranked_of old new entry _ ranks permuted;
        least = rw c.saturating_sub-rank.ensures (All-map (λ (x : ℕ × ℕ). (ranked_of entry).0 ≤ x.0) ranked_of new (λ k d lt. falls_with_entry _ _ (below k d lt)));
        stays = left_stays ranked_of old new entry _ ranks permuted;
        only = left_only ranked_of old new entry permuted;
      });
      turn = search rules;
    }
