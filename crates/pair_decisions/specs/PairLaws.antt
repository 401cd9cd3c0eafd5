-- Laws of lists of pairs: the compared pairs stand in both files and rise, and which lists are not too many.
use Rattle.std.proofs.Common.{◌≡◌, ◌<◌, ◌≤◌, ℕ, Bool, true, false, List, [], ◌∷◌, length, map, get_or, ap, arith, inl, inr, refl, subst, sym, ◌∙◌, eq-eqb, All, is_some, ◌+◌, zero, suc, ◌++◌, Ok, Err, nat_le, AllPairs, ◌-◌, ℤ, take, Option, Some, None, MatchBool, replicate, IsPermutation}
use Rattle.std.specs.List.{range_with_len}
use Rattle.std.proofs.lemmas.Bool.{cases_lt, le-leb}
use Rattle.std.proofs.lemmas.List.{get_or-map, length-map, map-id, take-append-le, take_all}
use Rattle.std.proofs.lemmas.List.FromFn.{get_or-range_with_len, length-range_with_len}
use Rattle.std.proofs.lemmas.List.Sorted.{All-permutation, Contains-permutation, IsPermutation-map, length_permutation}
use Rattle.std.proofs.lemmas.List.Sums.{fails_before_first}
use Rattle.std.proofs.lemmas.Simd.{map-map}
use Rattle.decision_rule.specs.Filled.{Chances, chances_at, chances_of}
use Rattle.link_base.specs.Words.{empty_cell, IsPairBefore, Record, absent_value}
use Rattle.link_base.specs.declared.rule.RuleCell.{RuleCell}
use Rattle.link_limits.specs.declared.TheConstants.{MOST_FIELDS, MOST_PATTERNS, MOST_PAIRS}
use Rattle.patterns.specs.PatternLaws.{count-le}
use Rattle.patterns.specs.Patterns.{pattern_count_of, rare_in, pattern_count_by, rare_of}
use Rattle.pair_decisions.specs.Comparators.{rares_of, AreSidesOf, IsOfTexts}
use Rattle.pair_decisions.specs.PlanShares.{IsRuleOf}
use Rattle.link_plan.specs.Plan.{FieldKeys, PlainShares, plain_shares, rare_flags}
use Rattle.link_plan.specs.declared.plan.Plan.{Plan}
use Rattle.pair_decisions.specs.PairRule.{AreCellsOf, has_pattern}
use Rattle.pair_decisions.specs.Places.{place_of}
use Rattle.std.proofs.lemmas.List.Elements.{All-append, All-cons, All-filter, All-nil, All-weaker}
use Rattle.std.proofs.lemmas.List.Kept.{AllPairs-cons, AllPairs-filter}
use Rattle.value_forms.specs.declared.passes.Part.{Part}
use Rattle.link_base.specs.declared.rule.PairAt.{PairAt}
use Rattle.pair_walk.specs.Rows.{compared_pairs, is_compared, pairs_of_row, product_from}
use Rattle.pair_decisions.specs.Decisions.{IsInside, pairs_within}
use Rattle.std.proofs.lemmas.Option.{slice_get_within}
use Rattle.value_forms.specs.declared.canons.CompareKind.{CompareKind}
use Rattle.value_forms.specs.Canons.{exact, canon_of, compares_days, day_in}
use Rattle.link_base.specs.declared.shares.Shape.{Shape}
use Rattle.link_base.specs.declared.standard.Value.{Value}
use Rattle.comparators.specs.Fields.{IsFieldSide, field_of, IsDayItself, NamesCanon, StandsFor}
use Rattle.comparators.specs.declared.ids.IdValue.{IdValue}
use Rattle.link_base.specs.declared.fault.Fault.TheVariants as fault
use Rattle.comparators.specs.declared.ids.IdValue.TheVariants as id

-- Laws of the cells of a rule: each pattern of a plan stands in one cell, there are as many cells as patterns, and each is of one of them.

abbrev patterns_in : List RuleCell → List ℕ
patterns_in cells = map (λ (c : RuleCell). c.pattern) cells

pub cells_of_rule : (plan : Plan) (shares : List PlainShares) (cells : List RuleCell) → IsRuleOf plan shares cells
    → map (λ (s : PlainShares). s.rare) shares ≡ rares_of plan.fields → AreCellsOf (pattern_count_by (rares_of plan.fields)) cells
cells_of_rule plan shares cells rule rares =
    let by = rule.by_shares in
    let pattern : Chances → ℕ = λ (ch : Chances). ch.pattern in
    let flags : rare_in by ≡ rares_of plan.fields = sym (map-map (λ (s : PlainShares). s.rare) plain_shares by) ∙ ap (map (λ (s : PlainShares). s.rare)) rule.same ∙ rares in
    let range = range_with_len 0 (pattern_count_of by) in
    let first : map pattern (map (chances_at by) range) ≡ range = map-map pattern (chances_at by) range ∙ map-id range in
    let second : map pattern (map chances_of cells) ≡ patterns_in cells = map-map pattern chances_of cells in
    let all : IsPermutation (map pattern (map (chances_at by) range)) (map pattern (map chances_of cells)) = IsPermutation-map pattern _ _ rule.filled.patterns in
    let left : IsPermutation range (map pattern (map chances_of cells)) = subst (λ (xs : List ℕ). IsPermutation xs (map pattern (map chances_of cells))) first all in
    let whole : IsPermutation range (patterns_in cells) = subst (λ (ys : List ℕ). IsPermutation range ys) second left in
    subst (λ (rs : List Bool). AreCellsOf (pattern_count_by rs) cells) flags whole

module _ (n : ℕ) (cells : List RuleCell) (all : AreCellsOf n cells) where
  -- there are as many cells as patterns
  pub cells_many : length cells ≡ n
  cells_many = sym (length-map cells (λ (c : RuleCell). c.pattern)) ∙ length_permutation (range_with_len 0 n) (patterns_in cells) all ∙ length-range_with_len 0 n

  -- each cell is of one of the patterns
  pub cells_below : All (λ (c : RuleCell). c.pattern < n) cells
  cells_below k d lt =
      let range_below : All (λ p. p < n) (range_with_len 0 n) = λ i e within. (let at = get_or-range_with_len 0 n i e (omega (arith, length-range_with_len 0 n)) in omega (arith, length-range_with_len 0 n)) in
      let below = All-permutation (λ p. p < n) (range_with_len 0 n) (patterns_in cells) all range_below in
      let many : length (patterns_in cells) ≡ length cells = length-map cells (λ (c : RuleCell). c.pattern) in
      let here : get_or (patterns_in cells) k 0 < n = below k 0 (omega arith) in
      let same : get_or (patterns_in cells) k 0 ≡ (get_or cells k d).pattern = get_or-map (λ (c : RuleCell). c.pattern) cells k d 0 lt in
      omega arith

  -- each pattern has a cell
  pub cells_stand : (pattern : ℕ) → pattern < n → place_of cells pattern < length cells
  cells_stand pattern lt =
      let first : get_or (range_with_len 0 n) pattern pattern ≡ pattern = omega (arith, get_or-range_with_len 0 n pattern pattern lt) in
      let at = Contains-permutation (range_with_len 0 n) (patterns_in cells) pattern all (pattern, omega (arith, length-range_with_len 0 n), first) in
      let many : length (patterns_in cells) ≡ length cells = length-map cells (λ (c : RuleCell). c.pattern) in
      let within : at.0 < length cells = omega (arith, at.1) in
      let same : (get_or cells at.0 empty_cell).pattern ≡ pattern = sym (get_or-map (λ (c : RuleCell). c.pattern) cells at.0 empty_cell pattern within) ∙ at.2 in
      elim (cases_lt (place_of cells pattern) (length cells)) [
        | inl found ↦ found
        | inr past ↦
            let fails : has_pattern pattern (get_or cells at.0 empty_cell) ≡ false = fails_before_first (has_pattern pattern) cells at.0 empty_cell (omega arith) in
            let holds : has_pattern pattern (get_or cells at.0 empty_cell) ≡ true = eq-eqb _ _ same in
            absurd (cc)
      ]

-- there are at most `MOST_PATTERNS` patterns
pub few_patterns : (fields : List FieldKeys) → length fields ≤ MOST_FIELDS → pattern_count_by (rares_of fields) ≤ MOST_PATTERNS
few_patterns fields few =
    let many : length (rares_of fields) ≡ length fields = length-map fields (λ (f : FieldKeys). is_some f.rare) in
    count-le (rares_of fields) 6 (omega arith)

-- a pair of the row `a`, from the column `b` on, below `width`
abbrev IsOfRow : ℕ → ℕ → ℕ → PairAt → Type 0
IsOfRow a b width at = (at.a ≡ a) × (b ≤ at.b) × (at.b < width)

row_of : (a b count width : ℕ) → b + count ≡ width → All (IsOfRow a b width) (pairs_of_row a b count)
row_of a b zero width whole = All-nil (IsOfRow a b width)
row_of a b (suc count) width whole =
    All-cons (IsOfRow a b width) (record { a = a; b = b }) (pairs_of_row a (b + 1) count) (refl, omega arith, omega arith)
    (All-weaker (IsOfRow a (b + 1) width) (IsOfRow a b width) (λ at h. (h.0, omega (arith, h.1), h.2)) (pairs_of_row a (b + 1) count) (row_of a (b + 1) count width (omega arith)))

row_rises : (a b count width : ℕ) → b + count ≡ width → AllPairs IsPairBefore (pairs_of_row a b count)
row_rises a b zero width whole = λ i j d lt within. absurd (omega arith)
row_rises a b (suc count) width whole =
    let here : PairAt = record { a = a; b = b } in
    AllPairs-cons IsPairBefore here (pairs_of_row a (b + 1) count)
    (All-weaker (IsOfRow a (b + 1) width) (IsPairBefore here) (λ at h. inr (sym h.0, omega (arith, h.1))) (pairs_of_row a (b + 1) count) (row_of a (b + 1) count width (omega arith)))
    (row_rises a (b + 1) count width (omega arith))

-- a pair of the rows from `a` on, below `rows`
abbrev IsFrom : ℕ → ℕ → ℕ → PairAt → Type 0
IsFrom a rows width at = (a ≤ at.a) × (at.a < rows) × (at.b < width)

product_of : (width a count rows : ℕ) → a + count ≡ rows → All (IsFrom a rows width) (product_from width a count)
product_of width a zero rows whole = All-nil (IsFrom a rows width)
product_of width a (suc count) rows whole =
    All-append (IsFrom a rows width) (pairs_of_row a 0 width) (product_from width (a + 1) count)
    (All-weaker (IsOfRow a 0 width) (IsFrom a rows width) (λ at h. (omega (arith, h.0), omega (arith, h.0), h.2)) (pairs_of_row a 0 width) (row_of a 0 width width (omega arith)))
    (All-weaker (IsFrom (a + 1) rows width) (IsFrom a rows width) (λ at h. (omega (arith, h.0), h.1, h.2)) (product_from width (a + 1) count) (product_of width (a + 1) count rows (omega arith)))

tail_rises : {X : Type 0} (R : X → X → Type 0) (x : X) (xs : List X) → AllPairs R (x ∷ xs) → AllPairs R xs
tail_rises R x xs h i j d lt within = h (suc i) (suc j) d (omega arith) (omega arith)

append_rises : {X : Type 0} (R : X → X → Type 0) (xs ys : List X) → AllPairs R xs → AllPairs R ys → All (λ x. All (R x) ys) xs → AllPairs R (xs ++ ys)
append_rises R [] ys of_xs of_ys across = of_ys
append_rises R (x ∷ xs) ys of_xs of_ys across =
    AllPairs-cons R x (xs ++ ys)
    (All-append (R x) xs ys (λ k d within. of_xs 0 (suc k) d (omega arith) (omega arith)) (across 0 x (omega arith)))
    (append_rises R xs ys (tail_rises R x xs of_xs) of_ys (λ k d within. across (suc k) d (omega arith)))

product_rises : (width a count : ℕ) → AllPairs IsPairBefore (product_from width a count)
product_rises width a zero = λ i j d lt within. absurd (omega arith)
product_rises width a (suc count) =
    append_rises IsPairBefore (pairs_of_row a 0 width) (product_from width (a + 1) count) (row_rises a 0 width width (omega arith)) (product_rises width (a + 1) count)
    (All-weaker (IsOfRow a 0 width) (λ (x : PairAt). All (IsPairBefore x) (product_from width (a + 1) count))
    (λ x h. All-weaker (IsFrom (a + 1) (a + 1 + count) width) (IsPairBefore x) (λ y later. inl (omega (arith, h.0, later.0))) (product_from width (a + 1) count) (product_of width (a + 1) count (a + 1 + count) refl))
    (pairs_of_row a 0 width) (row_of a 0 width width (omega arith)))

module _ (a b : List Record) (passes : List (List Part)) where
  pub compared_inside : All (IsInside (length a) (length b)) (compared_pairs a b passes)
  compared_inside =
      All-filter (is_compared a b passes) (IsInside (length a) (length b)) (product_from (length b) 0 (length a))
      (All-weaker (IsFrom 0 (length a) (length b)) (IsInside (length a) (length b)) (λ at h. (h.1, h.2)) (product_from (length b) 0 (length a)) (product_of (length b) 0 (length a) (length a) (omega arith)))

  pub compared_rise : AllPairs IsPairBefore (compared_pairs a b passes)
  compared_rise = AllPairs-filter IsPairBefore (is_compared a b passes) (product_from (length b) 0 (length a)) (product_rises (length b) 0 (length a))

-- pairs that are not too many
pub within_limit : (pairs : List PairAt) → length pairs ≤ MOST_PAIRS → pairs_within pairs ≡ Ok pairs
within_limit pairs few = let test : nat_le (length pairs) MOST_PAIRS ≡ true = le-leb (length pairs) MOST_PAIRS few in rw test refl

pub past_limit : (pairs : List PairAt) → MOST_PAIRS < length pairs → pairs_within pairs ≡ Err (fault.TooManyPairs MOST_PAIRS)
past_limit pairs many = let test : nat_le (length pairs) MOST_PAIRS ≡ false = grind arith in rw test refl

-- Laws of what the comparators of a plan are asked of: the sides that stand for a row's values are sides of the plan's fields, and the shape of
-- the plan's patterns has its rare fields.

id_within : (texts : List (List ℕ)) (days : Bool) (day : Option ℤ) (canon : Option (List ℕ)) (place : ℕ) → MatchBool days (IsDayItself day (id.Id place)) (NamesCanon texts canon (id.Id place)) → place < length texts
id_within texts true None canon place h = absurd h
id_within texts true (Some day) canon place h = absurd h
id_within texts false day None place h = absurd h
id_within texts false day (Some canon) place h = slice_get_within texts place canon h

stands_within : (texts : List (List ℕ)) (kind : CompareKind) (x : Value) (side : IdValue) → StandsFor texts kind x side → IsOfTexts (length texts) side
stands_within texts kind x id.Absent h = tt
stands_within texts kind x (id.Id place) h = id_within texts (compares_days kind) (day_in x) (canon_of kind x) place h
stands_within texts kind x (id.Day day) h = tt

-- the kinds of comparison of fields
abbrev pub kinds_in : List FieldKeys → List CompareKind
kinds_in fields = map (λ (f : FieldKeys). f.compare) fields

-- valid sides that stand for the values of a row
pub sides_of_fields : (texts : List (List ℕ)) (fields : List FieldKeys) (row : List Value) (sides : List IdValue) → length sides ≡ length (kinds_in fields)
    → ((k : ℕ) → k < length (kinds_in fields) → StandsFor texts (get_or (kinds_in fields) k exact) (get_or row k absent_value) (get_or sides k id.Absent))
    → ((k : ℕ) → k < length (kinds_in fields) → IsFieldSide (field_of (get_or (kinds_in fields) k exact)) (get_or sides k id.Absent))
    → AreSidesOf (length texts) fields sides
sides_of_fields texts fields row sides as_many stand valid =
    let size : length (kinds_in fields) ≡ length fields = length-map fields (λ (f : FieldKeys). f.compare) in
    record {
      as_many = as_many ∙ size;
      valid = λ k f lt.
          let kind : get_or (kinds_in fields) k exact ≡ (get_or fields k f).compare = get_or-map (λ (g : FieldKeys). g.compare) fields k f exact lt in
          subst (λ (x : CompareKind). IsFieldSide (field_of x) (get_or sides k id.Absent)) kind (valid k (omega arith));
      of_texts = λ k lt. stands_within texts (get_or (kinds_in fields) k exact) (get_or row k absent_value) (get_or sides k id.Absent) (stand k (omega arith));
    }

-- the shape of a plan's patterns has its rare fields
pub shape_rares : (fields : List FieldKeys) (shape : Shape) → shape.fields ≡ length fields → shape.rare ≡ rare_flags fields → rare_of shape ≡ rares_of fields
shape_rares fields shape size rare =
    let n : length (rares_of fields) ≡ length fields = length-map fields (λ (f : FieldKeys). is_some f.rare) in
    (λ i. take (size i) (rare i)) ∙ take-append-le (length fields) (rares_of fields) (replicate (6 - length fields) false) (omega arith) ∙ take_all (length fields) (rares_of fields) (omega arith)
