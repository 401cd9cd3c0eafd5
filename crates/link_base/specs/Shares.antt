-- The shares of a field's outcomes (the frequencies of Fellegi and Sunter 1969, section 2, in 1,024ths): `FieldShares`
-- keeps them by its ghost fields `of_matched` and `of_unmatched`.
use Rattle.std.specs.Prelude.{◌≡◌, ◌<◌, ◌≤◌, ℕ, Bool, List, length, slice_index, sum, if◌then◌else◌}
use Rattle.link_limits.specs.declared.TheConstants.{WHOLE_FIELD}

-- agree, disagree, missing, and agreement on a rare value where that is an outcome of its own
abbrev pub outcomes_of : Bool → ℕ
outcomes_of rare = if rare then 4 else 3

-- four shares that add up to the whole: each outcome has at least one 1,024th, and what is no outcome has none
abbrev pub IsShares : ℕ → List ℕ → Type 0
IsShares outcomes xs =
    (length xs ≡ 4)
    × ((k : ℕ) → k < outcomes → 1 ≤ slice_index xs k)
    × ((k : ℕ) → outcomes ≤ k → slice_index xs k ≡ 0)
    × (sum xs ≡ WHOLE_FIELD)
