-- How a `WordSet` holds its texts for an ordered search (`in_order`).
use Rattle.std.specs.Prelude.{ℕ, List, [], ◌∷◌, Bool, true, false, ◌&&◌, nat_le, All, IsTrue, get_or, length}
use Rattle.std.specs.Ordering.{ordering_index}
use Rattle.std.specs.List.Sorted.{IsNonDecreasingBy, IsPermutation}
use Rattle.standardise.specs.Names.{text_cmp}
use Rattle.standardise.specs.declared.outline.Outline.{Outline}

-- the texts in the order of their bytes: along them the order to any text does not fall
pub record IsOrdered (texts ordered : List (List ℕ)) : Type 0 where
  pub same : IsPermutation texts ordered
  pub rising : (text : List ℕ) → IsNonDecreasingBy (λ t. ordering_index (text_cmp t text)) ordered

-- What an `Outline` tells of texts. No public clause names these words.

-- whether a text is short enough and begins with a marked byte, or is empty
abbrev pub may_be : Outline → List ℕ → Bool
may_be o [] = true
may_be o (b ∷ bs) = nat_le (length (b ∷ bs)) o.longest && get_or o.marked b false

-- each of these may be one of the texts, by its text
abbrev pub AreWithin : {A : Type 0} → Outline → (A → List ℕ) → List A → Type 0
AreWithin o text xs = All (λ x. IsTrue (may_be o (text x))) xs
