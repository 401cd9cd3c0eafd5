-- What a `Proposer` proposes: clauses of `proposal`. Nothing is said of how good it is.
use Rattle.std.specs.Prelude.{ℕ, List}

-- prices, and beside each record of A the number of the record of B that it is to be linked to
pub record Proposed : Type 0 where
  pub price_a : List ℕ
  pub price_b : List ℕ
  pub mates : List ℕ
