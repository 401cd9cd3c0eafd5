-- Machinery of the journal: where the last entry on each pair stands, and the order by which pairs are sought. No public clause names it;
-- the invariant of `Journal` does.
use Rattle.std.specs.Prelude.{◌≡◌, ◌<◌, ℕ, List, length, Option, Some, option_and_then, slice_get}
use Rattle.std.specs.Ordering.{nat_cmp, ordering_then}
use Rattle.std.specs.declared.cmp.Ordering.{Ordering}
use Rattle.std.specs.BTreeMap.{BTreeMap, get}
use Rattle.review_journal.specs.Verdict.{last_on}
use Rattle.review_journal.specs.declared.entry.Entry.{Entry}

-- from pairs to places in a list of entries
abbrev pub Places : Type 0
Places = BTreeMap (ℕ × ℕ) ℕ

-- the order of pairs, by the first position and then by the second
abbrev pub pair_cmp : ℕ × ℕ → ℕ × ℕ → Ordering
pair_cmp x y = ordering_then (nat_cmp x.0 y.0) (nat_cmp x.1 y.1)

-- the place of a pair
abbrev pub place_of_pair : Places → ℕ → ℕ → Option ℕ
place_of_pair places a b = get pair_cmp places (a, b)

-- each pair has the place of the last entry on it, and a pair that no entry names has none
pub record IsIndexed (places : Places) (entries : List Entry) : Type 0 where
  pub found : (a b : ℕ) → option_and_then (slice_get entries) (place_of_pair places a b) ≡ last_on entries a b
  pub within : (a b place : ℕ) → place_of_pair places a b ≡ Some place → place < length entries
