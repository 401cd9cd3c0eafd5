use Rattle.price_check.proofs.Bounds.{greatest_value-least}
use Rattle.price_check.proofs.laws.greatest_value_is_least.Goals as goal

pub returns : goal.returns
returns c = greatest_value-least
