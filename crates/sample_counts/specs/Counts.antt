-- The counts of the outcomes of each field among the reviewed pairs of a sample. `count_sample_over` carries it: clause
-- `answer` for the counted pairs and the first fault, clause `outcomes` for what each count is by the comparators;
-- `Counts::of` (clause `counts`) reads them.
use Rattle.std.specs.Prelude.{◌≡◌, ◌<◌, ◌≤◌, ◌==◌, ◌&&◌, ℕ, Bool, true, false, not, List, [], All, Option, Some, None, length, map, filter, slice_index_or, if◌then◌else◌}
use Rattle.link_limits.specs.declared.TheConstants.{MOST_ROWS}
use Rattle.link_base.specs.declared.rule.Outcome.{Outcome}
use Rattle.link_base.specs.declared.rule.Outcome.TheVariants.{Missing}
use Rattle.patterns.specs.Patterns.{digit_of, outcome_at, pattern_count_by, number_of, outcomes}
use Rattle.sample_counts.specs.declared.counts.Judged.{Judged}
use Rattle.sample_counts.specs.declared.reviewed.Reviewed.{Reviewed}

-- which fields may be rare, and the reviewed pairs with their comparison patterns
pub record CountsState : Type 0 where
  pub rares : List Bool
  pub rows : List Judged

-- a reviewed pair with its pattern
abbrev pub judged_by : {C S : Type 0} → (C → Bool) → (C → S → S → Outcome) → List C → List (List S) → List (List S) → Reviewed → Judged
judged_by rare outcome kinds of_a of_b r = record {
  matched = r.matched;
  pattern = number_of (map rare kinds) (outcomes outcome kinds (slice_index_or of_a r.a []) (slice_index_or of_b r.b []));
}

-- the counted pairs of a sample
abbrev pub counts_by : {C S : Type 0} → (C → Bool) → (C → S → S → Outcome) → List C → List (List S) → List (List S) → List Reviewed → CountsState
counts_by rare outcome kinds of_a of_b sample =
    record { rares = map rare kinds; rows = map (judged_by rare outcome kinds of_a of_b) sample }

abbrev pub has_status : Bool → Judged → Bool
has_status matched row = if matched then row.matched else not row.matched

-- the digit of a pair's outcome in a field, where the pair has the status
abbrev pub digit_in : List Bool → ℕ → Bool → Judged → Option ℕ
digit_in rares field matched row =
    if has_status matched row then Some (digit_of (outcome_at rares row.pattern field)) else None

abbrev pub is_digit : ℕ → Option ℕ → Bool
is_digit k None = false
is_digit k (Some digit) = digit == k

-- how many pairs of a status have an outcome in a field
abbrev pub count_of : CountsState → ℕ → Bool → ℕ → ℕ
count_of counts field matched k = length (filter (λ row. is_digit k (digit_in counts.rares field matched row)) counts.rows)

-- the outcome that the comparator of a field gives the two rows of a reviewed pair
abbrev pub outcome_in : {C S : Type 0} → (C → S → S → Outcome) → List C → List (List S) → List (List S) → ℕ → Reviewed → Outcome
outcome_in outcome kinds of_a of_b field r =
    slice_index_or (outcomes outcome kinds (slice_index_or of_a r.a []) (slice_index_or of_b r.b [])) field Missing

abbrev pub same_outcome : Outcome → Outcome → Bool
same_outcome x y = digit_of x == digit_of y

abbrev pub is_reviewed_as : Bool → Reviewed → Bool
is_reviewed_as matched r = if matched then r.matched else not r.matched

-- how many reviewed pairs of a status have an outcome in a field by its comparator
abbrev pub outcome_count : {C S : Type 0} → (C → S → S → Outcome) → List C → List (List S) → List (List S) → ℕ → Bool → Outcome → List Reviewed → ℕ
outcome_count outcome kinds of_a of_b field matched wanted sample =
    length (filter (λ (r : Reviewed). is_reviewed_as matched r && same_outcome (outcome_in outcome kinds of_a of_b field r) wanted) sample)

-- each count is that of the pairs of a sample to which the comparator of the field gives the outcome
abbrev pub AreOutcomeCounts : {C S : Type 0} → (C → S → S → Outcome) → List C → List (List S) → List (List S) → List Reviewed → CountsState → Type 0
AreOutcomeCounts outcome kinds of_a of_b sample counts =
    (field : ℕ) (matched : Bool) (wanted : Outcome) → field < length kinds
    → count_of counts field matched (digit_of wanted) ≡ outcome_count outcome kinds of_a of_b field matched wanted sample

-- at most `MOST_ROWS` pairs, some of each status, with patterns of the shape
pub record AreJudged (rares : List Bool) (rows : List Judged) : Type 0 where
  pub few : length rows ≤ MOST_ROWS
  pub matched : 1 ≤ length (filter (has_status true) rows)
  pub unmatched : 1 ≤ length (filter (has_status false) rows)
  pub in_shape : All (λ (row : Judged). row.pattern < pattern_count_by rares) rows
