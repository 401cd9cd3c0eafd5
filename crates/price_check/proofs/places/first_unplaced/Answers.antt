use Rattle.std.proofs.Common.{◌≡◌, ◌<◌, get_or, length, arith, inl, inr}
use Rattle.std.proofs.lemmas.Bool.{cases_lt}
use Rattle.std.proofs.lemmas.List.{get_or_read, length-set}
use Rattle.price_check.specs.Verdict.{HasPlace}
use Rattle.price_check.proofs.Order.{no_pair, room_used, used_more}
use Rattle.price_check.proofs.places.first_unplaced.Goals as goal

pub overflow_add-index_mut : goal.overflow_add-index_mut
overflow_add-index_mut c =
    let used = c.loop-i.used.items in
    let i = c.loop-i.i in
    let b = (get_or c.args.links.now i no_pair).b in
    let here : HasPlace c.args.capacity.now c.args.links.now i = rw c.if-is_unplaced.false at c.is_unplaced.ensures in
    let within : b < length used = omega (arith, c.loop-i.invariant.records, c.requires.in_range i no_pair c.loop-i-test.true) in
    let read : c.index_mut.result.now ≡ get_or used b 0 = get_or_read used b c.index_mut.result.now within c.index_mut.ensures.value 0 in
    let room = room_used c.args.capacity.now used c.args.links.now i here c.loop-i.invariant.used in
    omega (arith, room, read, c.type_inv.capacity b)

pub loop-i-preserved : goal.loop-i-preserved
loop-i-preserved c =
    let used = c.loop-i.used.items in
    let i = c.loop-i.i in
    let b = (get_or c.args.links.now i no_pair).b in
    let there : (i < length c.args.links.now) = c.loop-i-test.true in
    let here : HasPlace c.args.capacity.now c.args.links.now i = rw c.if-is_unplaced.false at c.is_unplaced.ensures in
    let within : b < length used = omega (arith, c.loop-i.invariant.records, c.requires.in_range i no_pair there) in
    let read : c.index_mut.result.now ≡ get_or used b 0 = get_or_read used b c.index_mut.result.now within c.index_mut.ensures.value 0 in
    record {
      placed = λ k lt. elim (cases_lt k i) [ inl p ↦ c.loop-i.invariant.placed k p | inr p ↦ (let q : k ≡ i = omega arith in rw q here) ];
      used = used_more used c.args.links.now i no_pair _ there within c.loop-i.invariant.used (omega (arith, read));
      records = rw length-set c.loop-i.invariant.records;
    }

pub returns : goal.returns
returns c = λ i lt. c.loop-i.invariant.placed i (omega arith)
