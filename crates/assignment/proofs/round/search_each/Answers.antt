use Rattle.std.proofs.Common.{arith}
use Rattle.assignment_steps.specs.Words.{one_more_done}
use Rattle.assignment.proofs.round.search_each.Goals as goal

pub loop-root-init : goal.loop-root-init
loop-root-init c = record { between = c.requires.between; done = λ left a low. absurd (omega (arith, low)); rest = c.requires.rest }

pub loop-root-preserved : goal.loop-root-preserved
loop-root-preserved c =
    let s = c.take_up.ensures in
    record {
      between = s.takes.between;
      done = λ left. one_more_done _ _ _ _ c.loop-root.root s.takes.kept (c.loop-root.invariant.done (s.before left)) (s.takes.done left);
      rest = s.takes.rest;
    }

pub returns : goal.returns
returns c =
    let i = c.loop-root.invariant in
    record { between = i.between; done = λ left a low. i.done left a (omega (arith, low, c.loop-root.auto.price_a, c.loop-root-test.false)); rest = i.rest }
