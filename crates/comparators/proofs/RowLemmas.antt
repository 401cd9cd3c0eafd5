-- Rows that stand one behind the other.
use Rattle.std.proofs.Common.{◌≡◌, ◌<◌, ◌≤◌, ◌+◌, ◌-◌, ◌*◌, ℕ, zero, suc, List, [], length, get_or, take, drop, refl, ap, ◌∙◌, arith, slice_range, drop-drop}
use Rattle.std.proofs.lemmas.Nat.{mul-le}
use Rattle.comparators.specs.Fields.{rows_of_width}

module _ {X : Type 0} (w : ℕ) where
  pub length-rows : (n : ℕ) (xs : List X) → length (rows_of_width w n xs) ≡ n
  length-rows zero xs = refl
  length-rows (suc n) xs = ap suc (length-rows n (drop w xs))

  row-at : (n at : ℕ) (xs : List X) → at < n → get_or (rows_of_width w n xs) at [] ≡ take w (drop (at * w) xs)
  row-at zero at xs h = absurd (omega arith)
  row-at (suc n) zero xs h = let e : 0 ≡ 0 * w = omega arith in ap (λ k. take w (drop k xs)) e
  row-at (suc n) (suc at) xs h = row-at n at (drop w xs) (omega arith) ∙ ap (take w) (drop-drop (at * w) w xs ∙ (let e : w + at * w ≡ suc at * w = omega arith in ap (λ k. drop k xs) e))

  pub row-range : (n at : ℕ) (xs : List X) → at < n → get_or (rows_of_width w n xs) at [] ≡ slice_range xs (at * w) (at * w + w)
  row-range n at xs h = row-at n at xs h ∙ (let e : w ≡ (at * w + w) - at * w = omega arith in ap (λ k. take k (drop (at * w) xs)) e)

pub row-fits : (w n at size : ℕ) → at < n → size ≡ n * w → at * w + w ≤ size
row-fits w n at size h e = let below = mul-le (suc at) w n w (omega arith) (omega arith) in omega arith
