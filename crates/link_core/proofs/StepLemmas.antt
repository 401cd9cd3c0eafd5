-- The blocks of prepared files hold their compared pairs, which lie in both files and rise.
use Rattle.std.proofs.Common.{◌≡◌, ◌∙◌, ℕ, List, length, ap, subst, All, AllPairs, ◌+◌, ◌<◌, ◌≤◌, ◌++◌, ◌∷◌, [], Bool, true, false, filter, map, take, drop, get_or, append_assoc, append-nil, sym, refl, zero, suc, arith, Result, Ok, Err, IfOk, flat_map}
use Rattle.link_base.specs.Words.{IsPairBefore, absent_value, IsValid, no_record, Record, and_then, Gives, Refuses, refuses_then}
use Rattle.pair_decisions.specs.Words.{compared_inside, compared_rise, IsInside, pairs_within, DecidedView, pairs_with, AreRowsIn, decided_rows, IsDecidedOn, kept_rows, AreCellsOf, AreSidesFor, FileRule, PairRuleView, side_rule, rares_of, IsRuleOf}
use Rattle.pair_walk.specs.PairLaws.{all-pairs, pair_holds}
use Rattle.pair_walk.specs.Rows.{pairs_of_rows, pair, RowAt, all_rows, AreAllReady}
use Rattle.link_plan.specs.declared.plan.Plan.{Plan}
use Rattle.link_core.specs.Prepared.{PreparedView, kinds_of, files_of, pool_fault, pooled, prepared, with_fault, with_room}
use Rattle.link_core.specs.Results.{compared_in, IsDecidedFor, KeepsRows}
use Rattle.std.proofs.lemmas.List.{drop_all, drop_more, map_push, take_more, length-map, get_or_default}
use Rattle.std.proofs.lemmas.List.Elements.{filter-append, All-get_or, All-weaker}
use Rattle.link_base.specs.declared.plan.FieldSort.{FieldSort}
use Rattle.link_base.specs.declared.plan.FieldSort.TheVariants as sort
use Rattle.value_forms.specs.declared.passes.Part.{Part}
use Rattle.link_base.specs.declared.standard.Value.{Value}
use Rattle.link_base.specs.declared.standard.Value.TheVariants as value
use Rattle.block_passes.specs.Keys.{row_at, AreReadable, InRange, no_part}
use Rattle.value_forms.proofs.ReadableLemmas.{readable_valid}
use Rattle.standard_files.specs.Ready.{AreInRange, IsRowFor}
use Rattle.link_plan.specs.Plan.{FieldKeys, PlainShares}
use Rattle.link_plan.specs.Ranges.{IsPart, IsPass, KeepsRanges}
use Rattle.standard_files.specs.Files.{AreOfPlan, sorts_of, standard_files, StandardPair}
use Rattle.standard_files.specs.Values.{AreOfSorts, IsOfSort}
use Rattle.link_base.specs.declared.fault.Fault.{Fault}
use Rattle.standard_files.specs.Sides.{pooled_values, PooledView, pooled_texts}
use Rattle.value_pool.specs.declared.pool.PoolFault.{PoolFault}
use Rattle.std.proofs.lemmas.Grind.{flat_map-append}
use Rattle.link_base.specs.declared.rule.PairAt.{PairAt}
use Rattle.comparators.specs.declared.ids.IdValue.{IdValue}
use Rattle.patterns.specs.Patterns.{pattern_count_by}
use Rattle.link_core.specs.Rules.{decided, decided_by, Decisions, decisions_of, IsDecidedIn, rule_in, rule_over, IsPreparedFor}

module _ (plan : Plan) (p : PreparedView) where
  pub walked_pairs : (rows : List RowAt) → rows ≡ all_rows p.files.a.records p.files.b.records plan.passes → pairs_of_rows rows ≡ compared_in plan p.files
  walked_pairs rows is = ap pairs_of_rows is ∙ all-pairs p.files.a.records p.files.b.records plan.passes

  pub pairs_inside : (m n : ℕ) → length p.files.a.records ≡ m → length p.files.b.records ≡ n → All (IsInside m n) (compared_in plan p.files)
  pairs_inside m n of_a of_b =
      subst (λ k. All (IsInside m k) (compared_in plan p.files)) of_b
      (subst (λ k. All (IsInside k (length p.files.b.records)) (compared_in plan p.files)) of_a (compared_inside p.files.a.records p.files.b.records plan.passes))

  pub pairs_rise : AllPairs IsPairBefore (compared_in plan p.files)
  pairs_rise = compared_rise p.files.a.records p.files.b.records plan.passes

-- What passes a test, what is made of each, and the lines of each, with one more element.

one : {X : Type 0} (t : X → Bool) (x : X) → t x ≡ true → filter t (x ∷ []) ≡ x ∷ []
one t x holds = rw holds refl

none : {X : Type 0} (t : X → Bool) (x : X) → t x ≡ false → filter t (x ∷ []) ≡ []
none t x fails = rw fails refl

pub kept_more : {X : Type 0} (t : X → Bool) (xs : List X) (i : ℕ) (d : X) → i < length xs → t (get_or xs i d) ≡ true → filter t (take (i + 1) xs) ≡ filter t (take i xs) ++ get_or xs i d ∷ []
kept_more t xs i d low holds = ap (filter t) (take_more xs i d low) ∙ (filter-append t (take i xs) (get_or xs i d ∷ []) ∙ ap (λ ys. filter t (take i xs) ++ ys) (one t (get_or xs i d) holds))

pub left_more : {X : Type 0} (t : X → Bool) (xs : List X) (i : ℕ) (d : X) → i < length xs → t (get_or xs i d) ≡ false → filter t (take (i + 1) xs) ≡ filter t (take i xs)
left_more t xs i d low fails = ap (filter t) (take_more xs i d low) ∙ (filter-append t (take i xs) (get_or xs i d ∷ []) ∙ ap (λ ys. filter t (take i xs) ++ ys) (none t (get_or xs i d) fails) ∙ append-nil (filter t (take i xs)))

-- what is made of each, with one more
pub map_more : {X Y : Type 0} (f : X → Y) (xs : List X) (i : ℕ) (d : X) (before after : List Y) → i < length xs
    → before ≡ map f (take i xs) → after ≡ before ++ f (get_or xs i d) ∷ [] → after ≡ map f (take (i + 1) xs)
map_more f xs i d before after low told more =
    more ∙ ap (λ ys. ys ++ f (get_or xs i d) ∷ []) told ∙ sym (map_push f (take i xs) (get_or xs i d)) ∙ ap (map f) (sym (take_more xs i d low))

-- a text with the lines of what is left is the whole text, with the line of one more
module _ {X : Type 0} (lines : List X → List ℕ) (line : X → List ℕ) (xs : List X) (i : ℕ) where
  pub line_more : (d : X) (before after whole : List ℕ) → ((x : X) (ys : List X) → lines (x ∷ ys) ≡ line x ++ lines ys) → i < length xs
      → before ++ lines (drop i xs) ≡ whole → after ≡ before ++ line (get_or xs i d) → after ++ lines (drop (i + 1) xs) ≡ whole
  line_more d before after whole each low told more =
      let x = get_or xs i d in
      let rest = drop (i + 1) xs in
      ap (λ t. t ++ lines rest) more ∙ append_assoc before (line x) (lines rest) ∙ ap (λ t. before ++ t) (sym (ap lines (drop_more xs i d low) ∙ each x rest)) ∙ told

  pub line_none : (text whole : List ℕ) → lines [] ≡ [] → length xs ≤ i → text ++ lines (drop i xs) ≡ whole → text ≡ whole
  line_none text whole nothing past told = sym (append-nil text) ∙ ap (λ t. text ++ t) (sym (ap lines (drop_all i xs past) ∙ nothing)) ∙ told

-- The records of a plan can be keyed by its passes, and their values pooled.

valid_of_sort : (s : FieldSort) (v : Value) → IsOfSort s v → IsValid v
valid_of_sort sort.Name value.Absent h = tt
valid_of_sort sort.Name (value.Word x) h = h
valid_of_sort sort.Name (value.Day d) h = absurd h
valid_of_sort sort.Place value.Absent h = tt
valid_of_sort sort.Place (value.Word x) h = h
valid_of_sort sort.Place (value.Day d) h = absurd h
valid_of_sort (sort.Date a b) value.Absent h = tt
valid_of_sort (sort.Date a b) (value.Word x) h = absurd h
valid_of_sort (sort.Date a b) (value.Day d) h = h

values_valid : (ss : List FieldSort) (vs : List Value) → AreOfSorts ss vs → (k : ℕ) (d : Value) → k < length vs → IsValid (get_or vs k d)
values_valid [] [] h k d lt = absurd (omega arith)
values_valid [] (v ∷ vs) h k d lt = absurd h
values_valid (s ∷ ss) [] h k d lt = absurd h
values_valid (s ∷ ss) (v ∷ vs) h zero d lt = valid_of_sort s v h.0
values_valid (s ∷ ss) (v ∷ vs) h (suc k) d lt = values_valid ss vs h.1 k d (omega arith)

as_many : (ss : List FieldSort) (vs : List Value) → AreOfSorts ss vs → length vs ≡ length ss
as_many [] [] h = refl
as_many [] (v ∷ vs) h = absurd h
as_many (s ∷ ss) [] h = absurd h
as_many (s ∷ ss) (v ∷ vs) h = ap suc (as_many ss vs h.1)

module _ (fields : List FieldKeys) (parts : List Part) (row : List Value) (all : All (IsPart fields) parts) (width : length row ≡ length fields) (valid : (k : ℕ) (d : Value) → k < length row → IsValid (get_or row k d)) where
  fields_in_range : InRange row parts
  fields_in_range k lt = let of : (get_or parts k no_part).field < length fields = (All-get_or (IsPart fields) parts k no_part lt all).field in omega arith

  values_readable : AreReadable row parts
  values_readable k lt = readable_valid (get_or parts k no_part).key (get_or row (get_or parts k no_part).field absent_value) (valid (get_or parts k no_part).field absent_value (fields_in_range k lt))

width_of_plan : (plan : Plan) (row : List Value) → AreOfSorts (sorts_of plan) row → length row ≡ length plan.fields
width_of_plan plan row h = as_many (sorts_of plan) row h ∙ length-map plan.fields (λ (f : FieldKeys). f.sort)

-- each record has the fields of the parts, with valid values
pub plan_ready : (plan : Plan) (records : List Record) → KeepsRanges plan → AreOfPlan plan records → AreAllReady plan.passes records
plan_ready plan records ranges of k lt at within =
    let parts = (All-get_or (IsPass plan.fields) plan.passes k [] lt ranges.passes).parts in
    let sorted : AreOfSorts (sorts_of plan) (row_at records at) = of.sorts at no_record within in
    let width = width_of_plan plan (row_at records at) sorted in
    let valid = values_valid (sorts_of plan) (row_at records at) sorted in (
      fields_in_range plan.fields (get_or plan.passes k []) (row_at records at) parts width valid,
      values_readable plan.fields (get_or plan.passes k []) (row_at records at) parts width valid,
    )

row_for : (plan : Plan) (r : Record) → AreOfSorts (sorts_of plan) r.row → IsRowFor (kinds_of plan) r
row_for plan r h = record {
  as_many = width_of_plan plan r.row h ∙ sym (length-map plan.fields (λ (f : FieldKeys). f.compare));
  valid = values_valid (sorts_of plan) r.row h;
}

-- each record has a valid value for each kind of comparison
pub plan_rows : (plan : Plan) (records : List Record) → AreOfPlan plan records → All (IsRowFor (kinds_of plan)) records
plan_rows plan records of = All-weaker (λ (r : Record). AreOfSorts (sorts_of plan) r.row) (IsRowFor (kinds_of plan)) (row_for plan) records of.sorts

-- the parts speak of these fields
pub plan_parts : (plan : Plan) → KeepsRanges plan → AreInRange (length (kinds_of plan)) plan.passes
plan_parts plan ranges k d lt j e within =
    let of : (get_or (get_or plan.passes k d) j e).field < length plan.fields = ((ranges.passes k d lt).parts j e within).field in
    let same : length (kinds_of plan) ≡ length plan.fields = length-map plan.fields (λ (f : FieldKeys). f.compare) in
    omega arith

-- Steps of what is prepared.

-- what is made of the texts of a pool is refused where they are, and given where they are
refused_texts : {A B C : Type 0} (r : Result A PoolFault) (f : A → B) (g : A → C) (e : Fault) → Refuses (with_fault (and_then r (λ x. Ok (f x)))) e → Refuses (and_then (with_fault r) (λ x. Ok (g x))) e
refused_texts {B = B} {C = C} (Ok x) f g e h = refuses_then {A = B} {B = C} (Ok (f x)) (λ _. Ok (g x)) e h
refused_texts {B = B} {C = C} (Err p) f g e h = refuses_then {A = B} {B = C} (Err (pool_fault p)) (λ _. Err e) e h

made_texts : {A B C : Type 0} (r : Result A PoolFault) (f : A → B) (value : C) (v : B) → with_fault (and_then r (λ x. Ok (f x))) ≡ Ok v → and_then (with_fault r) (λ x. Ok value) ≡ Ok value
made_texts (Ok x) f value v e = refl
made_texts (Err p) f value v e = absurd (cc)

module _ (plan : Plan) (limit : ℕ) where
  -- a refusal of the pool is one of the whole
  pub refused_values : (files : StandardPair) (a b : List Record) (f : Fault) → a ≡ files.a.records → b ≡ files.b.records
      → Refuses (with_fault (pooled_values limit (kinds_of plan) plan.passes a b)) f → Refuses (with_room plan limit files) f
  refused_values files a b f of_a of_b refused =
      let at_a : List Record → Type 0 = λ r. Refuses (with_fault (pooled_values limit (kinds_of plan) plan.passes r b)) f in
      let at_b : List Record → Type 0 = λ r. Refuses (with_fault (pooled_values limit (kinds_of plan) plan.passes files.a.records r)) f in
      refused_texts (pooled_texts limit (kinds_of plan) plan.passes files.a.records files.b.records) _ (λ texts. files) f (subst at_b of_b (subst at_a of_a refused))

  -- the values of the pool are those of the whole
  pub values_are : (files : StandardPair) (a b : List Record) (values : PooledView) → a ≡ files.a.records → b ≡ files.b.records
      → with_fault (pooled_values limit (kinds_of plan) plan.passes a b) ≡ Ok values → pooled plan limit files ≡ Ok values
  values_are files a b values of_a of_b made = sym (λ i. with_fault (pooled_values limit (kinds_of plan) plan.passes (of_a i) (of_b i))) ∙ made

  -- and there was room for their texts
  pub has_room : (files : StandardPair) (values : PooledView) → pooled plan limit files ≡ Ok values → with_room plan limit files ≡ Ok files
  has_room files values made = made_texts (pooled_texts limit (kinds_of plan) plan.passes files.a.records files.b.records) _ files values made

  -- the answer over the files that were read is that over their bytes
  pub prepared_by : (bytes_a bytes_b : List ℕ) (files : StandardPair) (r : Result PreparedView Fault)
      → standard_files plan bytes_a bytes_b ≡ Ok files → Gives files_of (with_room plan limit files) r → Gives files_of (prepared plan limit bytes_a bytes_b) r
  prepared_by bytes_a bytes_b files r standard answer =
      let of : Result StandardPair Fault → Type 0 = λ read. Gives files_of (and_then read (λ f. with_room plan limit f)) r in
      subst of (sym standard) answer

-- The pairs of a walk, row by row: the lines of their ids, and where they stand.

-- one row more of a walk
pub lines_more : (line : PairAt → List ℕ) (left rest : List RowAt) (a : ℕ) (bs : List ℕ) (old new all : List ℕ) → left ≡ record { a = a; bs = bs } ∷ rest
    → new ≡ old ++ flat_map line (map (pair a) bs) → old ++ flat_map line (pairs_of_rows left) ≡ all → new ++ flat_map line (pairs_of_rows rest) ≡ all
lines_more line left rest a bs old new all is kept told =
    let row = map (pair a) bs in
    let both : flat_map line (pairs_of_rows left) ≡ flat_map line row ++ flat_map line (pairs_of_rows rest) = ap (λ rows. flat_map line (pairs_of_rows rows)) is ∙ flat_map-append line row (pairs_of_rows rest) in
    ap (λ (t : List ℕ). t ++ flat_map line (pairs_of_rows rest)) kept ∙ append_assoc old (flat_map line row) (flat_map line (pairs_of_rows rest)) ∙ ap (λ (t : List ℕ). old ++ t) (sym both) ∙ told

-- a row whose pairs stand in both files: its record of A, where it has a pair, and its records of B
pub row_in_a : (rows_a rows_b a : ℕ) (bs : List ℕ) → All (IsInside rows_a rows_b) (map (pair a) bs) → 0 < length bs → a < rows_a
row_in_a rows_a rows_b a bs inside some = (pair_holds (IsInside rows_a rows_b) a bs 0 some inside).0

pub row_in_b : (rows_a rows_b a : ℕ) (bs : List ℕ) → All (IsInside rows_a rows_b) (map (pair a) bs) → All (λ j. j < rows_b) bs
row_in_b rows_a rows_b a bs inside k d lt =
    subst (λ n. n < rows_b) (sym (get_or_default bs k d 0 lt)) (pair_holds (IsInside rows_a rows_b) a bs k lt inside).1

-- The decisions on prepared files, by what is told of those on the records and sides that were handed over.

-- a result is that of a rule on these pairs, over these sides
pub record IsTold (rule : PairRuleView) (with_rows : Bool) (result : Result DecidedView Fault) (pairs : List PairAt) (rows_a rows_b : List (List IdValue)) : Type 0 where
  pub answer : Gives (λ _. pairs) (pairs_within pairs) result
  pub decided : IfOk result (IsDecidedOn rule with_rows rows_a rows_b pairs)

-- the same of the compared pairs of the files that the blocks are those of
pub told_of : (plan : Plan) (rule : PairRuleView) (with_rows : Bool) (result : Result DecidedView Fault) (p : PreparedView) (blocks : List RowAt) (rows_a rows_b : List (List IdValue))
    → blocks ≡ all_rows p.files.a.records p.files.b.records plan.passes → rows_a ≡ p.values.a.rows → rows_b ≡ p.values.b.rows
    → IsTold rule with_rows result (pairs_of_rows blocks) rows_a rows_b
    → IsTold rule with_rows result (compared_in plan p.files) p.values.a.rows p.values.b.rows
told_of plan rule with_rows result p blocks rows_a rows_b of_blocks of_sides_a of_sides_b told =
    subst (λ x. IsTold rule with_rows result (compared_in plan p.files) p.values.a.rows x) of_sides_b
    (subst (λ x. IsTold rule with_rows result (compared_in plan p.files) x rows_b) of_sides_a
    (subst (λ ps. IsTold rule with_rows result ps rows_a rows_b) (ap pairs_of_rows of_blocks ∙ all-pairs p.files.a.records p.files.b.records plan.passes) told))

-- pairs of as many rows of sides as there are records lie in the files
inside_files : (plan : Plan) (p : PreparedView) (pairs : List PairAt) → IsPreparedFor plan p → All (IsInside (length p.values.a.rows) (length p.values.b.rows)) pairs
    → All (IsInside (length p.files.a.records) (length p.files.b.records)) pairs
inside_files plan p pairs ready h =
    subst (λ n. All (IsInside (length p.files.a.records) n) pairs) ready.pooled.b.sides.as_many (subst (λ n. All (IsInside n (length p.values.b.rows)) pairs) ready.pooled.a.sides.as_many h)

module _ (plan : Plan) (p : PreparedView) (shares : List PlainShares) (rule : PairRuleView) (with_rows : Bool) where
  abbrev Told : Result DecidedView Fault → Type 0
  Told result = IsTold rule with_rows result (compared_in plan p.files) p.values.a.rows p.values.b.rows

  pub answered : (result : Result DecidedView Fault) → side_rule rule p.values.a.rows p.values.b.rows ≡ rule_over plan p.files shares → Told result → Gives (decisions_of p) (decided plan p.files shares) result
  answered (Err f) of told = refuses_then (pairs_within (compared_in plan p.files)) (λ pairs. Ok (decided_by (rule_over plan p.files shares) pairs)) f told.answer
  answered (Ok d) of told =
      let same : rule_in p d ≡ rule_over plan p.files shares = ap (λ (r : PairRuleView). side_rule r p.values.a.rows p.values.b.rows) told.decided.by_rule ∙ of in
      let made : decisions_of p d ≡ decided_by (rule_in p d) (compared_in plan p.files) =
      λ i. record { rule = rule_in p d; compared = told.decided.decisions.compared i; links = told.decided.decisions.links i; possible = told.decided.decisions.possible i } in
      let whole : decisions_of p d ≡ decided_by (rule_over plan p.files shares) (compared_in plan p.files) = made ∙ ap (λ (r : FileRule). decided_by r (compared_in plan p.files)) same in
      let ok : Decisions → Result Decisions Fault = λ x. Ok x in
      let next : List PairAt → Result Decisions Fault = λ pairs. Ok (decided_by (rule_over plan p.files shares) pairs) in
      ap (λ (r : Result (List PairAt) Fault). and_then r next) told.answer ∙ ap ok (sym whole)

  pub decided_in_files : (result : Result DecidedView Fault) → IsPreparedFor plan p → All (AreSidesFor rule) p.values.a.rows → All (AreSidesFor rule) p.values.b.rows → Told result → IfOk result (IsDecidedIn p)
  decided_in_files (Err f) ready sides_a sides_b told = tt
  decided_in_files (Ok d) ready sides_a sides_b told = record {
    rows_a = ready.pooled.a.sides.as_many;
    rows_b = ready.pooled.b.sides.as_many;
    sides_a = subst (λ (r : PairRuleView). All (AreSidesFor r) p.values.a.rows) (sym told.decided.by_rule) sides_a;
    sides_b = subst (λ (r : PairRuleView). All (AreSidesFor r) p.values.b.rows) (sym told.decided.by_rule) sides_b;
    links = inside_files plan p d.links ready told.decided.lists.links;
    possible = inside_files plan p d.possible ready told.decided.lists.possible;
    rising = told.decided.lists.possible_rise;
    rows =
        subst (λ n. AreRowsIn (length p.files.a.records) n (length d.rule.cells) d.rows) ready.pooled.b.sides.as_many
        (subst (λ n. AreRowsIn n (length p.values.b.rows) (length d.rule.cells) d.rows) ready.pooled.a.sides.as_many told.decided.rows_in);
  }

  pub decided_for_plan : (result : Result DecidedView Fault) → AreCellsOf (pattern_count_by (rares_of plan.fields)) rule.cells → Told result → IfOk result (IsDecidedFor plan p)
  decided_for_plan (Err f) cells told = tt
  decided_for_plan (Ok d) cells told = record {
    decisions = told.decided.decisions;
    counts = λ kind. told.decided.counts kind ∙ ap (λ (r : PairRuleView). length (pairs_with kind (side_rule r p.values.a.rows p.values.b.rows) (compared_in plan p.files))) (sym told.decided.by_rule);
    cells = subst (λ (r : PairRuleView). AreCellsOf (pattern_count_by (rares_of plan.fields)) r.cells) (sym told.decided.by_rule) cells;
  }

  pub rule_of_plan : (result : Result DecidedView Fault) → IsRuleOf plan shares rule.cells → Told result → IfOk result (λ d. IsRuleOf plan shares d.rule.cells)
  rule_of_plan (Err f) filled told = tt
  rule_of_plan (Ok d) filled told = subst (λ (r : PairRuleView). IsRuleOf plan shares r.cells) (sym told.decided.by_rule) filled

  pub rows_kept : (result : Result DecidedView Fault) → Told result → IfOk result (λ d. with_rows ≡ true → KeepsRows plan p d)
  rows_kept (Err f) told = tt
  rows_kept (Ok d) told = λ asked.
      told.decided.rows ∙ (λ i. kept_rows (asked i) (decided_rows (side_rule rule p.values.a.rows p.values.b.rows) (compared_in plan p.files)))
      ∙ ap (λ (r : PairRuleView). decided_rows (side_rule r p.values.a.rows p.values.b.rows) (compared_in plan p.files)) (sym told.decided.by_rule)
