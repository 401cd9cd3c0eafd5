use Rattle.std.proofs.Common.{◌∙◌, refl, arith}
use Rattle.assignment_steps.specs.Words.{one_more_settled}
use Rattle.capacity_assign.proofs.seats.link_tight.Goals as goal

pub loop-k-preserved : goal.loop-k-preserved
loop-k-preserved c =
    let l = c.link_if_tight.ensures in
    record {
      between = l.between;
      places = λ b. l.places b ∙ c.loop-k.invariant.places b;
      settled = one_more_settled _ _ _ _ _ _ _ c.loop-k.k l.kept l.fewer c.loop-k.invariant.settled l.settled;
    }

pub loop-k-init : goal.loop-k-init
loop-k-init c = record { between = c.requires; places = λ b. refl; settled = λ k lt. absurd (omega (arith, lt)) }

pub returns : goal.returns
returns c =
    let i = c.loop-k.invariant in
    record { between = i.between; places = i.places; settled = λ k lt. i.settled k (omega (arith, lt, c.loop-k-test.false)) }
