use Rattle.std.proofs.Common.{◌≡◌, true, false, sym, ◌∙◌, arith, nat_le, ◌&&◌}
use Rattle.settings_readers.proofs.Lemmas.{sized_is}
use Rattle.settings_readers.specs.KeptLaws.{refused_as}
use Rattle.settings_readers.proofs.lists.sized.Goals as goal

pub returns-then-not-is_sized-clause-gives : goal.returns-then-not-is_sized-clause-gives
returns-then-not-is_sized-clause-gives c =
    let test : (nat_le c.args.low c.len.result && nat_le c.len.result c.args.high) ≡ false = sym c.is_sized.ensures ∙ c.if-not-is_sized.true in
    let is = sized_is _ _ c.len.result c.args.place.now _ c.in-Some.array.now.items c.in-Some.ensures (omega (arith, c.len.ensures, c.in-Some.array.now.ok.0)) in
    refused_as _ _ _ c.out_of_range.result (is ∙ rw test) c.out_of_range.ensures

pub returns-else-not-is_sized-clause-gives : goal.returns-else-not-is_sized-clause-gives
returns-else-not-is_sized-clause-gives c =
    let test : (nat_le c.args.low c.len.result && nat_le c.len.result c.args.high) ≡ true = sym c.is_sized.ensures ∙ c.if-not-is_sized.false in
    sized_is _ _ c.len.result c.args.place.now _ c.in-Some.array.now.items c.in-Some.ensures (omega (arith, c.len.ensures, c.in-Some.array.now.ok.0)) ∙ rw (test, c.deref.ensures.value)
