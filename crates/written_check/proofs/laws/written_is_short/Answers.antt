use Rattle.written_check.proofs.StepLemmas.{links_short, prices_short, rule_short, small_a, small_b}
use Rattle.written_check.proofs.laws.written_is_short.Goals as goal

pub returns : goal.returns
returns c = λ rares cells cs links ps qs a b of_rule are weights of_a of_b one certified. record {
  rule = rule_short rares cells of_rule;
  links = links_short a b cs links of_a of_b are.within weights are.allowed one;
  prices = prices_short ps qs a b
      (small_a c.prices_are_bounded.ensures.by_candidates c.greatest_value_is_least.ensures cs links are.allowed one ps qs certified)
      (small_b c.prices_are_bounded.ensures.by_candidates c.greatest_value_is_least.ensures cs links are.allowed one ps qs certified)
      of_a of_b;
}
