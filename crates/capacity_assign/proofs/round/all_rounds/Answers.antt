use Rattle.std.proofs.Common.{◌≡◌, length, ◌∙◌, arith}
use Rattle.capacity_assign.proofs.round.all_rounds.Goals as goal

pub loop-root-init : goal.loop-root-init
loop-root-init c =
    let tight = c.link_tight.ensures in
    record { advances = record { between = tight.between; places = tight.places }; tree = c.requires.tree }

pub take_up-requires : goal.take_up-requires
take_up-requires c =
    let i = c.loop-root.invariant in
    record {
      listed = rw c.loop-root.auto.price_a c.requires.listed;
      root = rw c.loop-root.auto.price_a c.loop-root-test.true;
      alike = rw c.loop-root.auto.price_a c.requires.alike;
      between = i.advances.between;
      tree = i.tree;
    }

pub loop-root-preserved : goal.loop-root-preserved
loop-root-preserved c =
    let after = c.take_up.ensures in
    record {
      advances = record { between = after.advances.between; places = λ b. after.advances.places b ∙ c.loop-root.invariant.advances.places b };
      tree = after.tree;
    }

pub returns : goal.returns
returns c =
    let all : c.loop-root.root ≡ length c.loop-root.price_a = omega (arith, c.loop-root-test.false, c.loop-root.auto.root-end, c.loop-root.auto.price_a) in
    rw all at c.loop-root.invariant.advances
