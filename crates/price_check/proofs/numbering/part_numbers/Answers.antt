use Rattle.std.proofs.Common.{◌≡◌, ap, length, ◌∙◌, arith}
use Rattle.std.proofs.lemmas.List.{length-replicate, with_items_is}
use Rattle.price_check.specs.Forest.{AreByTop, AreUnited}
use Rattle.price_check.proofs.Chains.{united_first, part_numbers_are}
use Rattle.price_check.proofs.numbering.part_numbers.Goals as goal

pub unite_all-requires-clause-united : goal.unite_all-requires-clause-united
unite_all-requires-clause-united c =
    rw c.deref_mut.ensures.value (united_first c.args.candidates.now c.in_ok-up.up.items c.in_ok-up.ensures.count (λ x lt. c.in_ok-up.ensures.single x (omega (arith, lt, c.in_ok-up.ensures.count))))

pub returns : goal.returns
returns c =
    let cs = c.args.candidates.now in
    let n = c.number-parts in
    let up_is = with_items_is c.in_ok-up.up c.unite_all.new.up (c.unite_all.auto.up ∙ c.deref_mut.ensures.len) in
    let numbers_is = with_items_is c.in_ok-numbers.numbers n.new.numbers (n.auto.numbers ∙ c.deref_mut-3.ensures.len) in
    let u : AreUnited cs c.unite_all.new.up (length cs) = c.unite_all.ensures in
    let shown : c.deref.result.now ≡ c.unite_all.new.up = c.deref.ensures.value ∙ up_is in
    let by_top : AreByTop c.unite_all.new.up n.new.numbers (length cs) n.result = rw (shown, u.count) at n.ensures in
    let count : length n.new.numbers ≡ length cs = n.auto.numbers ∙ (ap length c.deref_mut-3.ensures.value ∙ (ap length (c.in_ok-numbers.ensures.items_if_clones_equal (λ y same. same)) ∙ length-replicate (length cs) 0)) in
    rw numbers_is (part_numbers_are cs c.unite_all.new.up n.new.numbers n.result u by_top count)
