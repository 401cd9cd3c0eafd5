use Rattle.std.proofs.Common.{◌≡◌, ◌+◌, ◌-◌, ◌^◌, ℕ, length, get_or, drop, [], arith, ap, ◌∙◌, min}
use Rattle.std.proofs.lemmas.List.{drop_all, drop_more, get_or_read}
use Rattle.block_passes.specs.Keys.{parts_in}
use Rattle.block_passes.proofs.pass_ids.count_parts.Goals as goal

pub returns : goal.returns
returns c =
    let none = ap parts_in (drop_all c.loop-pass.pass-index c.args.passes.now c.loop-pass-test.false) in
    let few = c.loop-pass.invariant.few in
    let counted = rw none at c.loop-pass.invariant.counted in
    omega arith

-- a count that stops at a bound
counted_more : (parts pass rest whole : ℕ) → min (parts + (pass + rest)) (2 ^ 64 - 1) ≡ whole → min (min (parts + pass) (2 ^ 64 - 1) + rest) (2 ^ 64 - 1) ≡ whole
counted_more parts pass rest whole told = omega arith

pub loop-pass-preserved : goal.loop-pass-preserved
loop-pass-preserved c =
    let passes = c.args.passes.now in
    let at = c.loop-pass.pass-index in
    let more = ap parts_in (drop_more passes at [] c.loop-pass-test.true) in
    let long = ap length (c.parts.ensures ∙ get_or_read passes at c.pass-item.result c.loop-pass-test.true c.pass-item.is []) in
    let counted = rw more at c.loop-pass.invariant.counted in
    record {
      few = rw c.saturating_add-parts.ensures (omega arith);
      counted = rw (c.saturating_add-parts.ensures, long) (counted_more c.loop-pass.parts (length (get_or passes at [])) (parts_in (drop (at + 1) passes)) _ counted);
    }
