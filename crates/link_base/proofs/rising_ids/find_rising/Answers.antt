use Rattle.std.proofs.Common.{◌∙◌, ◌+◌, ◌-◌, ◌/◌, ap, arith, sym}
use Rattle.link_base.proofs.RegionFacts.{new_if_none}
use Rattle.link_base.proofs.RisingFacts.{above_middle, below_middle, place_found, place_none}
use Rattle.link_base.specs.Words.{comes_before}
use Rattle.link_base.proofs.rising_ids.find_rising.Goals as goal

pub halves-preserved-then-comes_before : goal.halves-preserved-then-comes_before
halves-preserved-then-comes_before c = record {
  ordered = omega (arith, c.halves-test.true);
  inside = c.halves.invariant.inside;
  below = below_middle c.args.ids.now c.args.id.now c.requires (c.halves.low + (c.halves.high - c.halves.low) / 2) (omega (arith, c.halves-test.true, c.halves.invariant.inside))
      (ap (λ held. comes_before held c.args.id.now) (sym c.get-held.ensures) ∙ sym c.comes_before.ensures ∙ c.if-comes_before.true);
  above = c.halves.invariant.above;
}

pub halves-preserved : goal.halves-preserved
halves-preserved c = record {
  ordered = omega (arith, c.halves-test.true);
  inside = omega (arith, c.halves-test.true, c.halves.invariant.inside);
  below = c.halves.invariant.below;
  above = above_middle c.args.ids.now c.args.id.now c.requires (c.halves.low + (c.halves.high - c.halves.low) / 2)
      (ap (comes_before c.args.id.now) (sym c.get-held.ensures) ∙ sym c.comes_before-else-comes_before.ensures ∙ c.if-comes_before-2.true);
}

pub returns-else-comes_before-2-clause-position : goal.returns-else-comes_before-2-clause-position
returns-else-comes_before-2-clause-position c =
    place_found c.args.ids.now c.args.id.now c.requires (c.halves.low + (c.halves.high - c.halves.low) / 2) (omega (arith, c.halves-test.true, c.halves.invariant.inside))
    (ap (λ held. comes_before held c.args.id.now) (sym c.get-held.ensures) ∙ sym c.comes_before.ensures ∙ c.if-comes_before.false)
    (ap (comes_before c.args.id.now) (sym c.get-held.ensures) ∙ sym c.comes_before-else-comes_before.ensures ∙ c.if-comes_before-2.false)

pub returns-clause-position : goal.returns-clause-position
returns-clause-position c =
    place_none c.args.ids.now c.args.id.now c.requires c.halves.low c.halves.high (omega (arith, c.halves-test.false)) c.halves.invariant.below c.halves.invariant.above

pub returns-clause-fresh : goal.returns-clause-fresh
returns-clause-fresh c =
    new_if_none c.args.id.now c.args.ids.now (place_none c.args.ids.now c.args.id.now c.requires c.halves.low c.halves.high (omega (arith, c.halves-test.false)) c.halves.invariant.below c.halves.invariant.above)
