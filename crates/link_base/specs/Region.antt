-- Pieces side by side in one list, by where each ends: as which `TextRegion` (`push`, clause `ok`, and `get`) and
-- `StdRows` are seen.
use Rattle.std.specs.Prelude.{◌≡◌, ◌≤◌, ℕ, zero, suc, List, [], ◌∷◌, slice_index, slice_range}

-- the pieces that end at these places, of which the first begins at `start`
abbrev pub pieces_from : {T : Type 0} → List T → ℕ → List ℕ → List (List T)
pieces_from items start [] = []
pieces_from items start (end ∷ ends) = slice_range items start end ∷ pieces_from items end ends

-- the ends do not fall, from `start` on, and the last one is that of all items
abbrev pub EndsAt : ℕ → ℕ → List ℕ → Type 0
EndsAt last start [] = start ≡ last
EndsAt last start (end ∷ ends) = (start ≤ end) × EndsAt last end ends

-- where a piece begins
abbrev pub start_at : ℕ → List ℕ → ℕ → ℕ
start_at start ends zero = start
start_at start ends (suc at) = slice_index ends at
