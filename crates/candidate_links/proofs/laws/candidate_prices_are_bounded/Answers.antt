use Rattle.candidate_links.proofs.ValueLemmas.{prices_most}
use Rattle.candidate_links.proofs.laws.candidate_prices_are_bounded.Goals as goal

pub returns : goal.returns
returns c = λ rule entries award pairs links prices_a prices_b ranges one cert position.
    prices_most rule entries award ranges c.prices_are_bounded.ensures.by_candidates c.greatest_value_is_least.ensures pairs links prices_a prices_b one cert position
