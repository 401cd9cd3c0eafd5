use Rattle.std.proofs.Common.{◌≡◌, ◌+◌, ℕ, List, length, get_or, refl, arith, rules, ap, sym, ◌∙◌, set, length-set, slice_range}
use Rattle.std.proofs.Math.Seq.{map-set_same}
use Rattle.std.proofs.lemmas.List.{get_or-map, get_or-set_other, get_or-set_same, length-map, map-set}
use Rattle.std.proofs.lemmas.List.Elements.{All-set}
use Rattle.value_pool.specs.declared.chains.Slot.{Slot}
use Rattle.value_pool.specs.Table.{bucket_of, IsSlotWithin, hashes_of, nexts_of}
use Rattle.value_pool.proofs.ChainLemmas.{threaded_step}
use Rattle.value_pool.proofs.chains.thread.Goals as goal

pub loop-place-preserved : goal.loop-place-preserved
loop-place-preserved c =
    let slots = c.loop-place.slots in
    let heads = c.loop-place.heads in
    let place = c.loop-place.place in
    let none : Slot = record { start = 0; end = 0; next = 0; hash = 0; last = 0 } in
    let old = get_or slots place none in
    let next = get_or heads c.bucket-bucket.result 0 in
    let new : Slot = record { start = old.start; end = old.end; next = next; hash = old.hash; last = old.last } in
    let long : length (nexts_of slots) ≡ length slots = length-map slots (λ (s : Slot). s.next) in
    let here = sym (get_or-map (λ (s : Slot). s.hash) slots place none 0 (omega arith)) ∙ ap (λ (hs : List ℕ). get_or hs place 0) c.loop-place.invariant.hashes in
    record {
      texts = λ bytes. map-set_same (λ (s : Slot). slice_range bytes s.start s.end) slots place new none refl ∙ c.loop-place.invariant.texts bytes;
      within = λ bytes before. let all = c.loop-place.invariant.within bytes before in let own = all place none (omega arith) in All-set (IsSlotWithin bytes) slots place new (record { ordered = own.ordered; within = own.within; last = own.last }) all;
      hashes = map-set_same (λ (s : Slot). s.hash) slots place new none refl ∙ c.loop-place.invariant.hashes;
      threaded = rw (map-set (λ (s : Slot). s.next) slots place new, length-set heads c.bucket-bucket.result (place + 1)) (threaded_step (length heads) heads (hashes_of c.args.slots.now) (nexts_of slots) (hashes_of c.args.slots.now) (set (nexts_of slots) place next) place c.bucket-bucket.result next (place + 1) (place + 1) c.loop-place.invariant.threaded
          (λ q lt. refl) (λ q lt. get_or-set_other (nexts_of slots) place q next 0 (λ e. omega (arith, lt, e))) (get_or-set_same (nexts_of slots) place next 0 (omega (arith, long)))
          (search rules) (c.bucket-bucket.ensures.value ∙ ap (bucket_of (length heads)) here) (search rules) (omega arith) (omega arith));
    }
