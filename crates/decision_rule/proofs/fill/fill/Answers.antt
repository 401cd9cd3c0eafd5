use Rattle.std.proofs.Common.{arith, rules}
use Rattle.patterns.specs.PatternLaws.{pattern_count_small}
use Rattle.decision_rule.proofs.Lemmas.{filled_all}
use Rattle.decision_rule.proofs.fill.fill.Goals as goal

pub overflow_cast-i : goal.overflow_cast-i
overflow_cast-i c = let small = pattern_count_small c.args.shares.now c.requires.fields in search (rules, small)

pub returns : goal.returns
returns c = filled_all c.args.shares.now c.loop-i.cells (omega arith) (λ k d lt. c.loop-i.invariant k d (omega arith))
