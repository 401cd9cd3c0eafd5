-- The words of a command: which are in their place, by the part `usage` of the clause `performed` of `perform`.
use Rattle.std.specs.Prelude.{ℕ, List, length, Bool, ◌&&◌, not, nat_le, slice_index_or, []}
use Rattle.link_limits.specs.declared.TheConstants.{MOST_NAME_BYTES}
use Rattle.link_plan.specs.Plan.{is_output}

-- a file, a column, a reviewer: 1 to 255 bytes
abbrev pub is_short_word : List ℕ → Bool
is_short_word word = nat_le 1 (length word) && nat_le (length word) MOST_NAME_BYTES

-- a settings file: 1 to 255 bytes, and none of the files that a run writes
abbrev pub is_settings_word : List ℕ → Bool
is_settings_word word = is_short_word word && not (is_output word)

-- the word at a place
abbrev pub word : List (List ℕ) → ℕ → List ℕ
word words at = slice_index_or words at []
