-- Machinery of the reader of a sample: where the reviewed pairs so far stand (`sample_at`, clause `places`). No public clause names it.
use Rattle.std.specs.Prelude.{◌≡◌, ℕ, List, position}
use Rattle.std.specs.Ordering.{nat_cmp, ordering_then}
use Rattle.std.specs.declared.cmp.Ordering.{Ordering}
use Rattle.std.specs.BTreeMap.{BTreeMap, get}
use Rattle.sample_counts.specs.Sample.{is_pair}
use Rattle.sample_counts.specs.declared.reviewed.Reviewed.{Reviewed}

-- the order of pairs, by the first position and then by the second
abbrev pub pair_cmp : ℕ × ℕ → ℕ × ℕ → Ordering
pair_cmp x y = ordering_then (nat_cmp x.0 y.0) (nat_cmp x.1 y.1)

-- each pair has the place where it stands first, and another pair has none
abbrev pub HasPlaces : BTreeMap (ℕ × ℕ) ℕ → List Reviewed → Type 0
HasPlaces places done = (a b : ℕ) → get pair_cmp places (a, b) ≡ position (is_pair a b) done
