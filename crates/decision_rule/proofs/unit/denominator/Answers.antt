use Rattle.std.proofs.Common.{arith}
use Rattle.std.proofs.Math.Nat.{one-le-pow}
use Rattle.decision_rule.proofs.Lemmas.{total_small}
use Rattle.decision_rule.proofs.unit.denominator.Goals as goal

pub pow-requires : goal.pow-requires
pow-requires c = omega (arith, total_small c.from.result (omega arith))

pub overflow_mul-result : goal.overflow_mul-result
overflow_mul-result c = omega (arith, total_small c.from.result (omega arith))

pub returns-clause-some : goal.returns-clause-some
returns-clause-some c = omega (arith, one-le-pow c.from.result 1024 (omega arith))

pub returns-clause-small : goal.returns-clause-small
returns-clause-small c = omega (arith, total_small c.from.result (omega arith))
