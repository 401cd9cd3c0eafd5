-- How many rows have an id.
use Rattle.std.proofs.Common.{◌≡◌, ◌≤◌, ℕ, zero, suc, Bool, List, length, get_or, take, refl, arith, replicate, ◌+◌, ◌<◌, [], ◌∷◌, ◌++◌, map, ap, sym, ◌∙◌, ◌*◌, ◌/◌, ◌%◌, ◌^◌, ◌+ℤ◌, true, false, if◌then◌else◌, Option, Some, None, subst, MatchBool, slice_get, IfSome, is_some, not, min, IsPermutation}
use Rattle.std.specs.List.{filter, enumerate_from, range_with_len, All, AllPairs, filter_map, AllByRecursion}
use Rattle.std.proofs.lemmas.List.{length-take-le, map_push, take_more, length-map, get_or-map}
use Rattle.std.proofs.lemmas.List.Sums.{length-filter, count_by-le-length}
use Rattle.std.proofs.lemmas.Simd.{map-map}
use Rattle.link_base.specs.declared.shares.FieldShares.{FieldShares}
use Rattle.link_limits.specs.declared.TheConstants.{PER_MILLION, WHOLE_FIELD, WHOLE_RULE}
use Rattle.decision_rule.specs.Filled.{asked_of, chances_at, chances_of, all_chances}
use Rattle.patterns.specs.Patterns.{chance_of, pattern_count_of, weight_of, rare_in, pattern_count_by, eighth_weight_of}
use Rattle.link_plan.specs.Plan.{PlainShares, plain_shares, FieldKeys}
use Rattle.pair_decisions.specs.Words.{plain_all, cells_of_patterns, cell_of_pattern, plain_chance, plain_count, plain_weight, room_for, ranked, ranked_with, give, count_of_id, has_id, is_id, rares_of, StandInField, is_canon, records_with}
use Rattle.std.proofs.lemmas.List.Elements.{All-cons, All-nil, filter_map-append}
use Rattle.std.proofs.lemmas.List.Kept.{AllPairs-cons}
use Rattle.std.proofs.lemmas.List.Sorted.{All-permutation, IsPermutation-cons, IsPermutation-middle, IsPermutation-refl, IsPermutation-sym, IsPermutation-trans}
use Rattle.link_base.specs.declared.rule.RuleCell.{RuleCell}
use Rattle.decision_rule.specs.Sorting.{ranks_before}
use Rattle.decision_rule.specs.CutLaws.{ranks_before-IsStrictWeakOrder}
use Rattle.link_base.specs.Words.{Record, absent_value, no_record}
use Rattle.value_forms.specs.declared.canons.CompareKind.{CompareKind}
use Rattle.comparators.specs.OfPoolLaws.{ids_alike}
use Rattle.comparators.specs.Fields.{IsDayItself, NamesCanon}
use Rattle.comparators.specs.declared.ids.IdValue.{IdValue}
use Rattle.comparators.specs.declared.ids.IdValue.TheVariants as id
use Rattle.value_forms.specs.Canons.{canon_of, compares_days, day_in}
use Rattle.link_plan.specs.Ranges.{AreShares, IsField}
use Rattle.std.proofs.Math.Nat.{min-le_left}
use Rattle.decision_rule.specs.Walk.{CutBy, room_after}

-- at most as many rows pass as were looked at
pub filter_taken : {X : Type 0} (p : X → Bool) (rows : List X) (n : ℕ) → n ≤ length rows → length (filter p (take n rows)) ≤ n
filter_taken p rows n h = omega (arith, length-filter p (take n rows), count_by-le-length p (take n rows), length-take-le n rows h)

pub filter_all : {X : Type 0} (p : X → Bool) (rows : List X) → length (filter p rows) ≤ length rows
filter_all p rows = omega (arith, length-filter p rows, count_by-le-length p rows)

pub zeros : (n k : ℕ) → get_or (replicate {A = ℕ} n 0) k 0 ≡ zero
zeros zero k = refl
zeros (suc n) zero = refl
zeros (suc n) (suc k) = zeros n k

-- One element more, in lists that are made from elements with their places.

enumerate_push : {X : Type 0} (n : ℕ) (xs : List X) (x : X) → enumerate_from n (xs ++ x ∷ []) ≡ enumerate_from n xs ++ (n + length xs, x) ∷ []
enumerate_push n [] x = let e : n ≡ n + 0 = omega arith in ap (λ k. (k, x) ∷ []) e
enumerate_push n (y ∷ ys) x =
    let e : n + 1 + length ys ≡ n + suc (length ys) = omega arith in
    ap (λ zs. (n, y) ∷ zs) (enumerate_push (n + 1) ys x ∙ ap (λ k. enumerate_from (n + 1) ys ++ (k, x) ∷ []) e)

enumerate_more : {X : Type 0} (xs : List X) (i : ℕ) (d : X) → i < length xs → enumerate_from 0 (take (i + 1) xs) ≡ enumerate_from 0 (take i xs) ++ (i, get_or xs i d) ∷ []
enumerate_more xs i d lt =
    let e : 0 + length (take i xs) ≡ i = omega (arith, length-take-le i xs (omega arith)) in
    ap (enumerate_from 0) (take_more xs i d lt) ∙ enumerate_push 0 (take i xs) (get_or xs i d) ∙ ap (λ k. enumerate_from 0 (take i xs) ++ (k, get_or xs i d) ∷ []) e

-- one element more, made from an element with its place
pub placed_more : {X Y Z : Type 0} (f : Y → Z) (g : ℕ × X → Z) (xs : List X) (i : ℕ) (x : X) (ys : List Y) (y : Y) → i < length xs → x ≡ get_or xs i x → f y ≡ g (i, x)
    → map f ys ≡ map g (enumerate_from 0 (take i xs)) → map f (ys ++ y ∷ []) ≡ map g (enumerate_from 0 (take (i + 1) xs))
placed_more f g xs i x ys y lt is same so_far =
    map_push f ys y ∙ (λ j. so_far j ++ (same ∙ ap (λ z. g (i, z)) is) j ∷ []) ∙ sym (map_push g (enumerate_from 0 (take i xs)) (i, get_or xs i x)) ∙ ap (map g) (sym (enumerate_more xs i x lt))

-- one element more, made from an element alone
pub made_more : {X Y Z : Type 0} (f : Y → Z) (g : X → Z) (xs : List X) (i : ℕ) (x : X) (ys : List Y) (y : Y) → i < length xs → x ≡ get_or xs i x → f y ≡ g x
    → map f ys ≡ map g (take i xs) → map f (ys ++ y ∷ []) ≡ map g (take (i + 1) xs)
made_more f g xs i x ys y lt is same so_far =
    map_push f ys y ∙ (λ j. so_far j ++ (same ∙ ap g is) j ∷ []) ∙ sym (map_push g (take i xs) (get_or xs i x)) ∙ ap (map g) (sym (take_more xs i x lt))

-- The patterns of plain shares are those of the shares.

count_is : (xs : List FieldShares) → plain_count (plain_all xs) ≡ pattern_count_of xs
count_is xs = ap pattern_count_by (map-map (λ (s : PlainShares). s.rare) plain_shares xs)

chance_is : (part : PlainShares → List ℕ) (xs : List FieldShares) (p : ℕ) → plain_chance part (plain_all xs) p ≡ chance_of (λ (f : FieldShares). part (plain_shares f)) xs p
chance_is part [] p = refl
chance_is part (x ∷ xs) p =
    let count = count_is xs in
    λ i. get_or (part (plain_shares x)) (p / count i) 0 * (chance_is part xs (p % plain_count (plain_all xs)) ∙ ap (λ n. chance_of (λ (f : FieldShares). part (plain_shares f)) xs (p % n)) count) i

weight_is : (xs : List FieldShares) (p : ℕ) → plain_weight (plain_all xs) p ≡ weight_of xs p
weight_is [] p = refl
weight_is (x ∷ xs) p =
    let count = count_is xs in
    λ i. eighth_weight_of (get_or x.m (p / count i) 0) (get_or x.u (p / count i) 0) +ℤ (weight_is xs (p % plain_count (plain_all xs)) ∙ ap (λ n. weight_of xs (p % n)) count) i

chances_are : (xs : List FieldShares) (p : ℕ) → chances_of (cell_of_pattern (plain_all xs) p) ≡ chances_at xs p
chances_are xs p = λ i. record {
  pattern = p;
  m = chance_is (λ (s : PlainShares). s.m) xs p i;
  u = chance_is (λ (s : PlainShares). s.u) xs p i;
  weight = weight_is xs p i;
}

-- the cells of all patterns have the chances of all patterns
pub all_chances_are : (xs : List FieldShares) → map chances_of (cells_of_patterns (plain_all xs)) ≡ all_chances xs
all_chances_are xs =
    map-map chances_of (cell_of_pattern (plain_all xs)) (range_with_len 0 (plain_count (plain_all xs))) ∙ (λ i. map (λ p. chances_are xs p i) (range_with_len 0 (count_is xs i)))

-- the room is what the level asks for
pub room_is : (xs : List FieldShares) (ppm : ℕ) → room_for (plain_all xs) ppm ≡ asked_of xs ppm / PER_MILLION
room_is xs ppm = ap (λ n. ppm * WHOLE_FIELD ^ n * WHOLE_RULE / PER_MILLION) (length-map xs plain_shares)

-- Ranked cells are a permutation, in order.

-- ---- a permutation

swapped : (c d : RuleCell) (cells : List RuleCell) → IsPermutation (c ∷ d ∷ cells) (d ∷ c ∷ cells)
swapped c d cells = IsPermutation-sym _ _ (IsPermutation-middle (d ∷ []) c cells)

placed : (b : Bool) (c d : RuleCell) (cells with_c : List RuleCell) → IsPermutation (c ∷ cells) with_c → IsPermutation (c ∷ d ∷ cells) (if b then c ∷ d ∷ cells else (d ∷ with_c))
placed true c d cells with_c h = IsPermutation-refl _
placed false c d cells with_c h = IsPermutation-trans _ _ _ (swapped c d cells) (IsPermutation-cons d (c ∷ cells) with_c h)

permuted_with : (c : RuleCell) (cells : List RuleCell) → IsPermutation (c ∷ cells) (ranked_with c cells)
permuted_with c [] = IsPermutation-refl _
permuted_with c (d ∷ cells) = placed (ranks_before c d) c d cells (ranked_with c cells) (permuted_with c cells)

pub ranked_permutes : (cells : List RuleCell) → IsPermutation cells (ranked cells)
ranked_permutes [] = IsPermutation-refl _
ranked_permutes (c ∷ cells) = IsPermutation-trans _ _ _ (IsPermutation-cons c cells (ranked cells) (ranked_permutes cells)) (permuted_with c (ranked cells))

-- ---- in order

-- the later cell does not rank before the earlier
abbrev pub Stands : RuleCell → RuleCell → Type 0
Stands c d = ranks_before d c ≡ false

stands_first : (c d : RuleCell) (cells : List RuleCell) → Stands c d → All (Stands d) cells → All (Stands c) (d ∷ cells)
stands_first c d cells first later =
    All-cons (Stands c) d cells first (λ k e lt. ranks_before-IsStrictWeakOrder.chain (get_or cells k e) d c (later k e lt) first)

ordered_at : (c d : RuleCell) (cells with_c : List RuleCell) (b : Bool) → ranks_before c d ≡ b → All (Stands d) cells → AllPairs Stands cells → IsPermutation (c ∷ cells) with_c → AllPairs Stands with_c → AllPairs Stands (if b then c ∷ d ∷ cells else (d ∷ with_c))
ordered_at c d cells with_c true e head tail perm rest =
    AllPairs-cons Stands c (d ∷ cells) (stands_first c d cells (ranks_before-IsStrictWeakOrder.one_way c d e) head) (AllPairs-cons Stands d cells head tail)
ordered_at c d cells with_c false e head tail perm rest =
    AllPairs-cons Stands d with_c (All-permutation (Stands d) (c ∷ cells) with_c perm (All-cons (Stands d) c cells e head)) rest

ordered_with : (c : RuleCell) (cells : List RuleCell) → AllPairs Stands cells → AllPairs Stands (ranked_with c cells)
ordered_with c [] h = AllPairs-cons Stands c [] (All-nil (Stands c)) h
ordered_with c (d ∷ cells) h =
    let head : All (Stands d) cells = λ k e lt. h 0 (suc k) e (omega arith) (omega arith) in
    let tail : AllPairs Stands cells = λ i j e lt there. h (suc i) (suc j) e (omega arith) (omega arith) in
    ordered_at c d cells (ranked_with c cells) (ranks_before c d) refl head tail (permuted_with c cells) (ordered_with c cells tail)

pub ranked_in_order : (cells : List RuleCell) → AllPairs Stands (ranked cells)
ranked_in_order [] = λ i j e lt there. absurd (omega arith)
ranked_in_order (c ∷ cells) = ordered_with c (ranked cells) (ranked_in_order cells)

-- The count of an id is the number of records with its text as the canon of their value.

passes_more : {X Y : Type 0} (p : X → Bool) (q : Y → Bool) (x : X) (y : Y) (xs : List X) (ys : List Y) (s t : Bool) → p x ≡ s → q y ≡ t → p x ≡ q y
    → length (filter p xs) ≡ length (filter q ys) → length (filter p (x ∷ xs)) ≡ length (filter q (y ∷ ys))
passes_more p q x y xs ys true true h k same rest = rw (h, k) (ap suc rest)
passes_more p q x y xs ys false false h k same rest = rw (h, k) rest
passes_more p q x y xs ys true false h k same rest = absurd (cc)
passes_more p q x y xs ys false true h k same rest = absurd (cc)

-- two tests that agree row by row pass as many
same_passes : {X Y : Type 0} (p : X → Bool) (q : Y → Bool) (xs : List X) (ys : List Y) (d : X) (e : Y) → length xs ≡ length ys
    → ((k : ℕ) → k < length ys → p (get_or xs k d) ≡ q (get_or ys k e)) → length (filter p xs) ≡ length (filter q ys)
same_passes p q [] [] d e len same = refl
same_passes p q [] (y ∷ ys) d e len same = absurd (omega arith)
same_passes p q (x ∷ xs) [] d e len same = absurd (omega arith)
same_passes p q (x ∷ xs) (y ∷ ys) d e len same =
    passes_more p q x y xs ys (p x) (q y) refl refl (same 0 (omega arith)) (same_passes p q xs ys d e (omega arith) (λ k lt. same (suc k) (omega arith)))

module _ (texts : List (List ℕ)) (distinct : (a b : ℕ) → a < length texts → slice_get texts a ≡ slice_get texts b → a ≡ b) where
  same_test : (canon : Option (List ℕ)) (side : IdValue) (n : ℕ) (text : List ℕ) → slice_get texts n ≡ Some text → NamesCanon texts canon side → is_id n side ≡ is_canon text canon
  same_test None id.Absent n text at names = refl
  same_test None (id.Id place) n text at names = absurd names
  same_test None (id.Day day) n text at names = absurd names
  same_test (Some canon) id.Absent n text at names = absurd names
  same_test (Some canon) (id.Id place) n text at names = ids_alike texts distinct place n canon text names at
  same_test (Some canon) (id.Day day) n text at names = absurd names

  count_in : (kind : CompareKind) (field n : ℕ) (text : List ℕ) (file : List Record) (rows : List (List IdValue)) → compares_days kind ≡ false → slice_get texts n ≡ Some text
      → StandInField texts kind field file rows → length (filter (has_id field n) rows) ≡ records_with kind field text file
  count_in kind field n text file rows canon at of =
      same_passes (has_id field n) (λ (r : Record). is_canon text (canon_of kind (get_or r.row field absent_value))) rows file [] no_record of.as_many
      (λ k lt.
      let value = get_or (get_or file k no_record).row field absent_value in
      let side = get_or (get_or rows k []) field id.Absent in
      let names : NamesCanon texts (canon_of kind value) side = subst (λ b. MatchBool b (IsDayItself (day_in value) side) (NamesCanon texts (canon_of kind value) side)) canon (of.stand k lt) in
      same_test (canon_of kind value) side n text at names)

  pub rare_counted : (kind : CompareKind) (field n : ℕ) (text : List ℕ) (a b : List Record) (rows_a rows_b : List (List IdValue)) → compares_days kind ≡ false → slice_get texts n ≡ Some text
      → StandInField texts kind field a rows_a → StandInField texts kind field b rows_b → count_of_id rows_a rows_b field n ≡ records_with kind field text a + records_with kind field text b
  rare_counted kind field n text a b rows_a rows_b canon at of_a of_b =
      λ i. count_in kind field n text a rows_a canon at of_a i + count_in kind field n text b rows_b canon at of_b i

-- Shares that the settings give.

-- one value more, where there is one
pub kept_more : {X Y Z : Type 0} (f : Y → Z) (g : X → Option Z) (xs : List X) (i : ℕ) (x : X) (ys : List Y) (y : Y) → i < length xs → x ≡ get_or xs i x → g x ≡ Some (f y)
    → map f ys ≡ filter_map g (take i xs) → map f (ys ++ y ∷ []) ≡ filter_map g (take (i + 1) xs)
kept_more f g xs i x ys y lt is same so_far =
    let here : filter_map g (get_or xs i x ∷ []) ≡ f y ∷ [] = rw (sym is) (rw same refl) in
    map_push f ys y ∙ ap (λ zs. zs ++ f y ∷ []) so_far ∙ ap (λ zs. filter_map g (take i xs) ++ zs) (sym here)
    ∙ sym (filter_map-append g (take i xs) (get_or xs i x ∷ [])) ∙ ap (filter_map g) (sym (take_more xs i x lt))

-- shares that are given have the outcomes of their field
pub rare_given : (rare : Bool) (given : Option PlainShares) (s : PlainShares) → given ≡ Some s → IfSome given (AreShares rare) → s.rare ≡ rare
rare_given rare given s e h = (subst (λ (o : Option PlainShares). IfSome o (AreShares rare)) e h).rare

-- where there is no sample each field has shares
pub is_given : (sample : Option (List ℕ)) (f : FieldKeys) → sample ≡ None → IsField (is_some sample) f → f.shares ≡ None → ⊥
is_given sample f no_sample of none =
    let given : is_some f.shares ≡ true = of.given ∙ ap (λ (o : Option (List ℕ)). not (is_some o)) no_sample in
    let absent : is_some f.shares ≡ false = ap (λ (o : Option PlainShares). is_some o) none in
    cc

-- whether a field is rare, by its place
pub rare_at : (rares : List Bool) (fields : List FieldKeys) (i : ℕ) (f : FieldKeys) (b : Bool) → rares ≡ rares_of fields → i < length fields → f ≡ get_or fields i f → b ≡ is_some f.rare → b ≡ get_or rares i b
rare_at rares fields i f b e lt is of =
    of ∙ ap (λ (g : FieldKeys). is_some g.rare) is ∙ sym (get_or-map (λ (g : FieldKeys). is_some g.rare) fields i f b lt) ∙ ap (λ rs. get_or rs i b) (sym e)

-- as many shares as fields
pub as_many_shares : (shares : List FieldShares) (fields : List FieldKeys) → rare_in shares ≡ rares_of fields → length shares ≡ length fields
as_many_shares shares fields same = sym (length-map shares (λ (s : FieldShares). s.rare)) ∙ ap length same ∙ length-map fields (λ (f : FieldKeys). is_some f.rare)

-- What `give` gives: the walk of a cut, over cells that keep what is not given.

-- the shares are those of the walk, where what is put is found again and changes neither bound nor weight
pub give_walks : (put : RuleCell → ℕ → RuleCell) (share bound weight : RuleCell → ℕ)
    → ((c : RuleCell) (n : ℕ) → share (put c n) ≡ n) → ((c : RuleCell) (n : ℕ) → bound (put c n) ≡ bound c) → ((c : RuleCell) (n : ℕ) → weight (put c n) ≡ weight c)
    → (cells : List RuleCell) (room : ℕ) → CutBy share bound weight (give put bound weight cells room) room
give_walks put share bound weight s b w [] room = tt
give_walks put share bound weight s b w (c ∷ cells) room =
    let n = min (bound c) (room / weight c) in
    rw (s c n, b c n, w c n) (refl, give_walks put share bound weight s b w cells (room_after n (bound c) (weight c) room))

-- what a share does not change is kept
pub give_keeps : {Y : Type 0} (f : RuleCell → Y) (put : RuleCell → ℕ → RuleCell) (bound weight : RuleCell → ℕ)
    → ((c : RuleCell) (n : ℕ) → f (put c n) ≡ f c)
    → (cells : List RuleCell) (room : ℕ) → map f (give put bound weight cells room) ≡ map f cells
give_keeps f put bound weight k [] room = refl
give_keeps f put bound weight k (c ∷ cells) room =
    let n = min (bound c) (room / weight c) in
    let rest = give_keeps f put bound weight k cells (room_after n (bound c) (weight c) room) in
    λ i. k c n i ∷ rest i

-- what holds of a cell with a share up to its bound holds of all
pub give_all : (P Q : RuleCell → Type 0) (put : RuleCell → ℕ → RuleCell) (bound weight : RuleCell → ℕ)
    → ((c : RuleCell) (n : ℕ) → P c → n ≤ bound c → Q (put c n))
    → (cells : List RuleCell) (room : ℕ) → AllByRecursion P cells → AllByRecursion Q (give put bound weight cells room)
give_all P Q put bound weight step [] room h = tt
give_all P Q put bound weight step (c ∷ cells) room h =
    let n = min (bound c) (room / weight c) in
    (step c n h.0 (min-le_left (bound c) (room / weight c)), give_all P Q put bound weight step cells (room_after n (bound c) (weight c) room) h.1)
