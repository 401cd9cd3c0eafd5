use Rattle.std.proofs.Common.{◌≡◌, ◌<◌, ℕ, ℤ, List, length, take}
use Rattle.price_check.specs.Assignment.{price_of}
use Rattle.candidate_links.proofs.prices.prices_of.Given as goal

abbrev pub invariant-loop-at : goal.invariant-loop-at
invariant-loop-at g l =
    (told : List ℤ) → length told ≡ l.rows → ((at : ℕ) (p : ℤ) → at < l.rows → goal.F-post g l.price at p → p ≡ price_of told at) → l.prices.items ≡ take l.at told
