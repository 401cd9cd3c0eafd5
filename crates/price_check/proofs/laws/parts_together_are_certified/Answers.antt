use Rattle.price_check.proofs.Bounds.{together_one_to_one, together_certifies}
use Rattle.price_check.proofs.laws.parts_together_are_certified.Goals as goal

pub returns : goal.returns
returns c = λ candidates links part n pa pb among rising h. (together_one_to_one candidates links part n pa pb among rising h, together_certifies candidates links part n pa pb among rising h)
