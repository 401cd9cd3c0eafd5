use Rattle.pair_walk.specs.PairLaws.{all-pairs}
use Rattle.pair_walk.proofs.product.rows_joined.Goals as goal

pub returns : goal.returns
returns c = all-pairs
