use Rattle.std.proofs.Common.{ℕ, ◌<◌, get_or}
use Rattle.price_check.specs.Assignment.{IsBefore, no_candidate}
use Rattle.price_check.proofs.rising_order.are_rising.Given as goal

abbrev pub invariant-loop-k : goal.invariant-loop-k
invariant-loop-k l = (i j : ℕ) → i < j → j < l.k → IsBefore (get_or l.candidates i no_candidate) (get_or l.candidates j no_candidate)
