use Rattle.std.proofs.Common.{arith}
use Rattle.decision_rule.specs.ExchangeLaws.{possible_bound_m, possible_bound_u, LinksEndAt-from_cut_form, NonlinksStartAt-from_cut_form}
use Rattle.decision_rule.proofs.laws.exchange.Goals as goal

pub returns-clause-matched : goal.returns-clause-matched
returns-clause-matched c = λ cells i j h d r is_rule mu lambda.
    omega (arith, possible_bound_m cells i j 0 0 d r (LinksEndAt-from_cut_form cells i j h) (NonlinksStartAt-from_cut_form cells i j h) is_rule (omega (arith, mu)) (omega (arith, lambda)))

pub returns-clause-unmatched : goal.returns-clause-unmatched
returns-clause-unmatched c = λ cells i j h d r is_rule mu lambda.
    omega (arith, possible_bound_u cells i j 0 0 d r (LinksEndAt-from_cut_form cells i j h) (NonlinksStartAt-from_cut_form cells i j h) is_rule (omega (arith, mu)) (omega (arith, lambda)))
