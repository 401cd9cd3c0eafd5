use Rattle.candidate_links.proofs.ValueLemmas.{all_bounds}
use Rattle.candidate_links.proofs.laws.candidates_are_bounded.Goals as goal

pub returns : goal.returns
returns c = λ rule entries award pairs ranges. all_bounds rule entries award ranges pairs
