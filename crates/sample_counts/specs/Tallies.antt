-- Machinery of `Counts::of`: the four counts that `tally_of` carries while it counts (its lone clause), by the digits of
-- their outcomes. No public clause names it.
use Rattle.std.specs.Prelude.{ℕ, [], ◌∷◌, slice_index}
use Rattle.sample_counts.specs.declared.counts.Tally.{Tally}

-- the number of a digit
abbrev pub counted_at : Tally → ℕ → ℕ
counted_at tally k = slice_index (tally.agree ∷ tally.disagree ∷ tally.missing ∷ tally.rare ∷ []) k
