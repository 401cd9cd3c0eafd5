-- Comparison patterns (Fellegi and Sunter 1969, section 2): the outcomes of all fields, and their number. `pattern_over`
-- carries it (clauses `number`, `range`, `symmetric` and `digits`).
use Rattle.std.specs.Prelude.{ℕ, zero, suc, ◌*◌, ◌/◌, ◌%◌, ◌==◌, Bool, if◌then◌else◌, List, [], ◌∷◌, take, ◌≡◌, ◌<◌, ◌+◌, length, slice_index_or, ℤ, pos, negsuc, ◌^◌, ◌≤◌, ◌-ℤ◌, ◌≤ℤ◌, nat_le, count_by, ◌+ℤ◌, map, slice_index}
use Rattle.link_base.specs.Words.{outcomes_of}
use Rattle.link_base.specs.declared.rule.Outcome.{Outcome}
use Rattle.link_base.specs.declared.rule.Outcome.TheVariants.{Agree, Disagree, Missing, Rare}
use Rattle.link_base.specs.declared.shares.Shape.{Shape}
use Rattle.std.specs.List.{range_with_len}
use Rattle.link_base.specs.declared.shares.FieldShares.{FieldShares}

-- Comparison patterns (Fellegi and Sunter 1969, section 2) as numbers in mixed base (Knuth, vol. 2, 4.1): `pattern_count`
-- carries how many there are by its clause `count`, `outcome_of` by its one clause the outcome of a field in a pattern.

-- the digit of an outcome, and the outcome of a digit
abbrev pub digit_of : Outcome → ℕ
digit_of Agree = 0
digit_of Disagree = 1
digit_of Missing = 2
digit_of Rare = 3

abbrev pub outcome_with : ℕ → Outcome
outcome_with digit = if digit == 0 then Agree else (if digit == 1 then Disagree else (if digit == 2 then Missing else Rare))

-- the fields of a shape, each by whether agreement on a rare value is an outcome of its own
abbrev pub rare_of : Shape → List Bool
rare_of shape = take shape.fields shape.rare

-- how many patterns such fields have; the base of a field's digit is the number of its outcomes
abbrev pub pattern_count_by : List Bool → ℕ
pattern_count_by [] = 1
pattern_count_by (rare ∷ rares) = outcomes_of rare * pattern_count_by rares

-- the outcome of a field in a pattern; the digit of the first field is the most significant
abbrev pub outcome_at : List Bool → ℕ → ℕ → Outcome
outcome_at [] pattern field = Missing
outcome_at (rare ∷ rares) pattern zero = outcome_with (pattern / pattern_count_by rares)
outcome_at (rare ∷ rares) pattern (suc field) = outcome_at rares (pattern % pattern_count_by rares) field

-- the number with these digits in mixed base, the digit of the first field most significant
abbrev pub number_of : List Bool → List Outcome → ℕ
number_of [] outcomes = 0
number_of (rare ∷ rares) [] = 0
number_of (rare ∷ rares) (outcome ∷ outcomes) = digit_of outcome * pattern_count_by rares + number_of rares outcomes

-- the outcomes of two rows of sides, field by field
abbrev pub outcomes : {C S : Type 0} → (C → S → S → Outcome) → List C → List S → List S → List Outcome
outcomes outcome [] xs ys = []
outcomes outcome (c ∷ cs) [] ys = []
outcomes outcome (c ∷ cs) (x ∷ xs) [] = []
outcomes outcome (c ∷ cs) (x ∷ xs) (y ∷ ys) = outcome c x y ∷ outcomes outcome cs xs ys

-- one valid side for each comparator
pub record AreSides {C S : Type 0} (valid : C → S → Type 0) (kinds : List C) (sides : List S) : Type 0 where
  pub as_many : length sides ≡ length kinds
  pub valid_at : (k : ℕ) (c : C) (s : S) → k < length kinds → valid (slice_index_or kinds k c) (slice_index_or sides k s)

-- The weight of an outcome: the base-2 logarithm of m over u in whole eighths, rounded down (after Newcombe et al. 1959).
-- `eighth_weight` carries it by its clause `greatest`; its clause `value` gives the same number to compute with.

-- w eighths of a bit are at most the base-2 logarithm of m over u
abbrev pub FitsWeight : ℕ → ℕ → ℤ → Type 0
FitsWeight m u (pos n) = u ^ 8 * 2 ^ n ≤ m ^ 8
FitsWeight m u (negsuc n) = u ^ 8 ≤ m ^ 8 * 2 ^ (n + 1)

-- the greatest such number
pub record IsEighthWeight (m u : ℕ) (w : ℤ) : Type 0 where
  pub fits : FitsWeight m u w
  pub greatest : (v : ℤ) → FitsWeight m u v → v ≤ℤ w

-- to compute with: the greatest such number from -80 to 79, by the count of those that fit
unfoldable pub eighth_weight_of : ℕ → ℕ → ℤ
eighth_weight_of m u = pos (count_by (λ n. nat_le (u ^ 8 * 2 ^ n) (m ^ 8 * 2 ^ 80)) (range_with_len 0 160)) -ℤ pos 81

-- The chances and the weight of a comparison pattern, of independent fields (Fellegi and Sunter 1969, section 3;
-- weights in eighths of a bit after Newcombe et al. 1959). The law `chances` carries what holds of the chances; a cell of
-- a rule has them by `cut_rule`, clause `filled`.

-- how many outcomes a field has
abbrev pub base_of : FieldShares → ℕ
base_of field = outcomes_of field.rare

-- the fields, each by whether agreement on a rare value is an outcome of its own
abbrev pub rare_in : List FieldShares → List Bool
rare_in fields = map (λ (field : FieldShares). field.rare) fields

-- how many patterns the fields have
abbrev pub pattern_count_of : List FieldShares → ℕ
pattern_count_of fields = pattern_count_by (rare_in fields)

-- the outcome of the first field, and the pattern of the others
abbrev pub first_outcome : List FieldShares → ℕ → ℕ
first_outcome fields pattern = pattern / pattern_count_of fields

abbrev pub later_pattern : List FieldShares → ℕ → ℕ
later_pattern fields pattern = pattern % pattern_count_of fields

-- the product of the shares of a pattern's outcomes
abbrev pub chance_of : (FieldShares → List ℕ) → List FieldShares → ℕ → ℕ
chance_of shares [] pattern = 1
chance_of shares (field ∷ fields) pattern = slice_index (shares field) (first_outcome fields pattern) * chance_of shares fields (later_pattern fields pattern)

-- the chance of a pattern among matched, and among unmatched pairs, over 1,024 to the number of fields
abbrev pub m_of : List FieldShares → ℕ → ℕ
m_of = chance_of (λ (field : FieldShares). field.m)

abbrev pub u_of : List FieldShares → ℕ → ℕ
u_of = chance_of (λ (field : FieldShares). field.u)

-- the weight of a pattern is the sum over its fields, in eighths of a bit
abbrev pub weight_of : List FieldShares → ℕ → ℤ
weight_of [] pattern = pos 0
weight_of (field ∷ fields) pattern = eighth_weight_of (slice_index field.m (first_outcome fields pattern)) (slice_index field.u (first_outcome fields pattern)) +ℤ weight_of fields (later_pattern fields pattern)
