-- What is decided of pairs that stand in both files and rise.
use Rattle.std.proofs.Common.{◌≡◌, ◌≤◌, ◌+◌, ℕ, zero, suc, Bool, List, [], ◌∷◌, length, filter, ap, arith, cond, refl, subst, sym, All, AllPairs, ◌<◌, Some, get_or, drop, ◌∙◌, find, map, true, false, ◌++◌, inl, inr, Option, None, IfSome, is_some}
use Rattle.std.proofs.lemmas.List.Elements.{All-filter, All-map, All-nil, All-weaker}
use Rattle.std.proofs.lemmas.List.Kept.{AllPairs-filter}
use Rattle.link_base.specs.declared.rule.Decision.{Decision}
use Rattle.link_base.specs.declared.rule.Decision.TheVariants.{Link, NonLink, Possible}
use Rattle.link_base.specs.declared.rule.PairAt.{PairAt}
use Rattle.link_base.specs.Words.{IsPairBefore, and_then, RefusesBut, is_want}
use Rattle.pair_decisions.specs.Words.{DecidedView, count_with, decision_at, is_same, pairs_with, IsInside, FileRule, has_pattern, pattern_by, rares_in, pattern_over, AreSidesFor, PairRuleView, side_rule, place_of, SideComparator, answers_of, comparator_at, comparator_by, id_counts, is_same_id, rares_of, AreSidesOf, IsOfTexts, counts_by_pattern, AreRowsIn, decided_row, decided_rows, kept_rows}
use Rattle.std.proofs.lemmas.List.Folds.{find_at}
use Rattle.std.proofs.lemmas.Option.{slice_get-get_or}
use Rattle.link_base.specs.declared.rule.RuleCell.{RuleCell}
use Rattle.std.proofs.lemmas.Simd.{map-map}
use Rattle.comparators.specs.Fields.{field_outcome, field_rare, IsCounted, IsFieldSide, field_of, field_laws}
use Rattle.comparators.specs.declared.ids.FieldById.{FieldById}
use Rattle.comparators.specs.declared.ids.IdValue.{IdValue}
use Rattle.link_base.specs.declared.rule.Outcome.{Outcome}
use Rattle.patterns.specs.Patterns.{number_of, outcomes, AreSides, pattern_count_by}
use Rattle.std.specs.Prelude.{MatchBool, Result, Ok, Err, ⊤}
use Rattle.link_base.specs.declared.fault.Fault.{Fault}
use Rattle.sample_counts.specs.Counts.{counts_by, judged_by}
use Rattle.sample_counts.specs.declared.reviewed.Reviewed.{Reviewed}
use Rattle.std.specs.List.{enumerate_from, list_all}
use Rattle.std.proofs.Math.ListN.{get_or-append}
use Rattle.std.proofs.Math.Seq.{get_or-append_seam}
use Rattle.std.proofs.lemmas.Bool.{and_parts, cases_lt}
use Rattle.std.proofs.lemmas.List.{get_or_default, get_or-map, length-map, map-append}
use Rattle.value_forms.specs.Canons.{exact}
use Rattle.value_forms.specs.declared.canons.CompareKind.{CompareKind}
use Rattle.value_forms.specs.declared.canons.CompareKind.TheVariants as by
use Rattle.link_base.specs.declared.plan.FieldSort.TheVariants as sort
use Rattle.comparators.specs.declared.ids.IdValue.TheVariants as id
use Rattle.comparators.specs.declared.ids.FieldById.TheVariants as field
use Rattle.link_plan.specs.Ranges.{IsRareNumber, may_be_rare}
use Rattle.link_plan.specs.Plan.{FieldKeys}
use Rattle.patterns.specs.PatternLaws.{pattern-lt}
use Rattle.pair_decisions.specs.declared.rows.DecidedRow.{DecidedRow}

-- a list that is a filter of pairs lies in the files, and rises
module _ (p : PairAt → Bool) (pairs found : List PairAt) (is : found ≡ filter p pairs) where
  pub found_inside : (rows_a rows_b : ℕ) → All (IsInside rows_a rows_b) pairs → All (IsInside rows_a rows_b) found
  found_inside rows_a rows_b h = subst (λ (ps : List PairAt). All (IsInside rows_a rows_b) ps) (sym is) (All-filter p (IsInside rows_a rows_b) pairs h)

  pub found_rise : AllPairs IsPairBefore pairs → AllPairs IsPairBefore found
  found_rise h = subst (λ (ps : List PairAt). AllPairs IsPairBefore ps) (sym is) (AllPairs-filter IsPairBefore p pairs h)

-- each pair has one of three decisions
pub three_kinds : (decided : PairAt → Decision) (pairs : List PairAt)
    → length (filter (λ at. is_same Link (decided at)) pairs) + length (filter (λ at. is_same Possible (decided at)) pairs) + length (filter (λ at. is_same NonLink (decided at)) pairs) ≡ length pairs
three_kinds decided [] = refl
three_kinds decided (at ∷ pairs) = one_more (decided at) (three_kinds decided pairs)
  where
    one_more : (kind : Decision)
        → length (filter (λ at. is_same Link (decided at)) pairs) + length (filter (λ at. is_same Possible (decided at)) pairs) + length (filter (λ at. is_same NonLink (decided at)) pairs) ≡ length pairs
        → length (cond (is_same Link kind) (at ∷ filter (λ at. is_same Link (decided at)) pairs) (filter (λ at. is_same Link (decided at)) pairs))
        + length (cond (is_same Possible kind) (at ∷ filter (λ at. is_same Possible (decided at)) pairs) (filter (λ at. is_same Possible (decided at)) pairs))
        + length (cond (is_same NonLink kind) (at ∷ filter (λ at. is_same NonLink (decided at)) pairs) (filter (λ at. is_same NonLink (decided at)) pairs))
        ≡ length (at ∷ pairs)
    one_more Link rest = omega arith
    one_more Possible rest = omega arith
    one_more NonLink rest = omega arith

-- what is counted of decided pairs
module _ (rule : FileRule) (pairs : List PairAt) (d : DecidedView) (all : d.compared ≡ length pairs)
    (links : d.links ≡ pairs_with Link rule pairs) (possible : d.possible ≡ pairs_with Possible rule pairs) where
  pub counted : (kind : Decision) → count_with d kind ≡ length (pairs_with kind rule pairs)
  counted Link = ap length links
  counted Possible = ap length possible
  counted NonLink = omega (arith, three_kinds (decision_at rule) pairs, ap length links, ap length possible)

  pub not_more : length d.links + length d.possible ≤ d.compared
  not_more = omega (arith, three_kinds (decision_at rule) pairs, ap length links, ap length possible)

-- The places of cells, told from the last on.

-- the cells from a place on are told
abbrev pub AreToldFrom : List RuleCell → List ℕ → ℕ → Type 0
AreToldFrom cells places at = (pattern : ℕ) → place_of (drop at cells) pattern < length (drop at cells) → get_or places pattern 0 ≡ at + place_of (drop at cells) pattern

-- the cell at the place of a pattern is the one that is found
pub found_at : (cells : List RuleCell) (pattern place : ℕ) (d : RuleCell) → place ≡ place_of cells pattern → place_of cells pattern < length cells → find (has_pattern pattern) cells ≡ Some (get_or cells place d)
found_at cells pattern place d e lt = find_at (has_pattern pattern) cells ∙ slice_get-get_or cells (place_of cells pattern) d lt ∙ ap (λ k. Some (get_or cells k d)) (sym e)

-- What the comparators of a rule answer.

pub rares_seen : (all : List FieldById) → map field_rare all ≡ rares_in (map answers_of all)
rares_seen all = sym (map-map (λ (c : SideComparator IdValue). c.rare) answers_of all)

abbrev pub outcome_in : SideComparator IdValue → IdValue → IdValue → Outcome
outcome_in c = c.outcome

pub outcomes_seen : (all : List FieldById) (a b : List IdValue) → outcomes field_outcome all a b ≡ outcomes outcome_in (map answers_of all) a b
outcomes_seen [] a b = refl
outcomes_seen (c ∷ cs) [] b = refl
outcomes_seen (c ∷ cs) (x ∷ xs) [] = refl
outcomes_seen (c ∷ cs) (x ∷ xs) (y ∷ ys) = ap (λ os. field_outcome c x y ∷ os) (outcomes_seen cs xs ys)

-- the pattern by comparators is that by their answers
pub pattern_seen : (all : List FieldById) (a b : List IdValue) → number_of (map field_rare all) (outcomes field_outcome all a b) ≡ pattern_by (map answers_of all) a b
pattern_seen all a b = λ i. number_of (rares_seen all i) (outcomes_seen all a b i)

-- Fields that are all compared by their ids alone are compared as by any list of as many such comparisons.

same_cases : (c : FieldById) (P : FieldById → Type 0) → is_same_id c ≡ true → P field.Same → P c
same_cases field.Same P e h = h
same_cases (field.Rare most counts) P e h = absurd (cc)
same_cases (field.Days t) P e h = absurd (cc)
same_cases (field.Years t) P e h = absurd (cc)

same_at : (all : List FieldById) (k : ℕ) → list_all is_same_id all ≡ true → get_or all k field.Same ≡ field.Same
same_at [] k e = refl
same_at (c ∷ cs) zero e = same_cases c (λ x. x ≡ field.Same) (and_parts (is_same_id c) (list_all is_same_id cs) e).0 refl
same_at (c ∷ cs) (suc k) e = same_at cs k (and_parts (is_same_id c) (list_all is_same_id cs) e).1

module _ {K : Type 0} where
  pub same_rares : (all : List FieldById) (kinds : List K) → list_all is_same_id all ≡ true → length kinds ≡ length all → map (λ (k : K). false) kinds ≡ map field_rare all
  same_rares [] [] e len = refl
  same_rares [] (k ∷ ks) e len = absurd (omega (arith, len))
  same_rares (c ∷ cs) [] e len = absurd (omega (arith, len))
  same_rares (c ∷ cs) (k ∷ ks) e len =
      let both = and_parts (is_same_id c) (list_all is_same_id cs) e in
      let rest = same_rares cs ks both.1 (omega (arith, len)) in
      same_cases c (λ x. (false ∷ map (λ (k : K). false) ks) ≡ field_rare x ∷ map field_rare cs) both.0 (ap (λ (rs : List Bool). false ∷ rs) rest)

  pub same_outcomes : (all : List FieldById) (kinds : List K) (a b : List IdValue) → list_all is_same_id all ≡ true → length kinds ≡ length all
      → outcomes (λ (k : K). field_outcome field.Same) kinds a b ≡ outcomes field_outcome all a b
  same_outcomes [] [] a b e len = refl
  same_outcomes [] (k ∷ ks) a b e len = absurd (omega (arith, len))
  same_outcomes (c ∷ cs) [] a b e len = absurd (omega (arith, len))
  same_outcomes (c ∷ cs) (k ∷ ks) [] b e len = refl
  same_outcomes (c ∷ cs) (k ∷ ks) (x ∷ xs) [] e len = refl
  same_outcomes (c ∷ cs) (k ∷ ks) (x ∷ xs) (y ∷ ys) e len =
      let both = and_parts (is_same_id c) (list_all is_same_id cs) e in
      let rest = same_outcomes cs ks xs ys both.1 (omega (arith, len)) in
      same_cases c (λ d. (field_outcome field.Same x y ∷ outcomes (λ (k : K). field_outcome field.Same) ks xs ys) ≡ field_outcome d x y ∷ outcomes field_outcome cs xs ys) both.0
      (ap (λ os. field_outcome field.Same x y ∷ os) rest)

  -- the pattern by ids alone
  pub same_pattern : (all : List FieldById) (kinds : List K) (a b : List IdValue) → list_all is_same_id all ≡ true → length kinds ≡ length all
      → number_of (map (λ (k : K). false) kinds) (outcomes (λ (k : K). field_outcome field.Same) kinds a b) ≡ pattern_by (map answers_of all) a b
  same_pattern all kinds a b e len = (λ i. number_of (same_rares all kinds e len i) (same_outcomes all kinds a b e len i)) ∙ pattern_seen all a b

  -- and the sides that they may be asked of
  pub same_sides : (all : List FieldById) (kinds : List K) (sides : List IdValue) → list_all is_same_id all ≡ true → length kinds ≡ length all
      → AreSides IsFieldSide all sides → AreSides (λ (k : K). IsFieldSide field.Same) kinds sides
  same_sides all kinds sides e len h = record {
    as_many = h.as_many ∙ sym len;
    valid_at = λ k c s lt. subst (λ x. IsFieldSide x (get_or sides k s)) (same_at all k e) (h.valid_at k field.Same s (omega (arith, len, lt)));
  }

-- The counts of a sample by comparators are those by the patterns that their answers give, and so are its faults.

module _ (kinds : List FieldById) (rows_a rows_b : List (List IdValue)) where
  same_judged : (r : Reviewed) → judged_by field_rare field_outcome kinds rows_a rows_b r ≡ judged_by (λ (c : SideComparator IdValue). c.rare) outcome_in (map answers_of kinds) rows_a rows_b r
  same_judged r = λ i. record {
    matched = r.matched;
    pattern = number_of (rares_seen kinds i) (outcomes_seen kinds (get_or rows_a r.a []) (get_or rows_b r.b []) i);
  }

  counts_answered : (sample : List Reviewed) → counts_by field_rare field_outcome kinds rows_a rows_b sample
      ≡ counts_by_pattern (rares_in (map answers_of kinds)) (pattern_over (map answers_of kinds) rows_a rows_b) sample
  counts_answered sample = λ i. record { rares = rares_seen kinds i; rows = map (λ r. same_judged r i) sample }

  pub counts_by_answers : (cs : List (SideComparator IdValue)) (rares : List Bool) → map answers_of kinds ≡ cs → map field_rare kinds ≡ rares → (sample : List Reviewed)
      → counts_by field_rare field_outcome kinds rows_a rows_b sample ≡ counts_by_pattern rares (pattern_over cs rows_a rows_b) sample
  counts_by_answers cs rares e r sample =
      counts_answered sample ∙ ap (λ bs. counts_by_pattern bs (pattern_over (map answers_of kinds) rows_a rows_b) sample) (sym (rares_seen kinds) ∙ r)
      ∙ ap (λ all. counts_by_pattern rares (pattern_over all rows_a rows_b) sample) e

-- what is given of what is given
pub given_then : {A B C : Type 0} (step : Result A Fault) (f g : A → B) (h : B → C) (v : B) → ((x : A) → f x ≡ g x) → and_then step (λ x. Ok (f x)) ≡ Ok v → and_then step (λ x. Ok (h (g x))) ≡ Ok (h v)
given_then (Ok x) f g h v same e = let found : f x ≡ v = cc in ap (λ y. Ok (h y)) (sym (same x) ∙ found)
given_then (Err fault) f g h v same e = absurd (cc)

refused_then : {A B C : Type 0} (step : Result A Fault) (f : A → B) (g : A → C) (e : Fault) → and_then step (λ x. Ok (f x)) ≡ Err e → and_then step (λ x. Ok (g x)) ≡ Err e
refused_then (Ok x) f g e h = absurd (cc)
refused_then (Err fault) f g e h = let same : fault ≡ e = cc in ap Err same

match_weaker : (b : Bool) (P Q : Type 0) → (P → Q) → MatchBool b ⊤ P → MatchBool b ⊤ Q
match_weaker true P Q f h = h
match_weaker false P Q f h = f h

-- a fault of the first step is one of the whole
pub refuses_as : {A B C : Type 0} (step : Result A Fault) (f : A → B) (g : A → C) (e : Fault) → RefusesBut is_want (and_then step (λ x. Ok (f x))) e → RefusesBut is_want (and_then step (λ x. Ok (g x))) e
refuses_as step f g e h = match_weaker (is_want e) _ _ (refused_then step f g e) h

-- The comparators of a plan's fields, and the sides that they may be asked of.

-- a side of a kind that is compared by a canon has a count
counted_id : (texts : ℕ) (side : IdValue) → IsFieldSide (field_of exact) side → IsOfTexts texts side → IsCounted texts side
counted_id texts id.Absent h of_texts = tt
counted_id texts (id.Id place) h of_texts = of_texts
counted_id texts (id.Day day) h of_texts = absurd h

pub counted_side : (kind : CompareKind) (texts : ℕ) (side : IdValue) → may_be_rare kind ≡ true → IsFieldSide (field_of kind) side → IsOfTexts texts side → IsCounted texts side
counted_side (by.Same c) texts side canon h of_texts = counted_id texts side h of_texts
counted_side by.Initials texts side canon h of_texts = counted_id texts side h of_texts
counted_side (by.DaysWithin t) texts side canon h of_texts = absurd (cc)
counted_side (by.YearsWithin t) texts side canon h of_texts = absurd (cc)

-- a field with a rare number is compared by a canon
pub canon_of_rare : (kind : CompareKind) (rare : Option ℕ) (most : ℕ) → rare ≡ Some most → IfSome rare (IsRareNumber kind) → may_be_rare kind ≡ true
canon_of_rare kind rare most e h = (subst (λ (o : Option ℕ). IfSome o (IsRareNumber kind)) e h).by_canon

-- a comparator can answer `Rare` exactly where there is a rare number
kind_not_rare : (kind : CompareKind) → field_rare (field_of kind) ≡ false
kind_not_rare (by.Same c) = refl
kind_not_rare by.Initials = refl
kind_not_rare (by.DaysWithin t) = refl
kind_not_rare (by.YearsWithin t) = refl

rare_by : (kind : CompareKind) (counts : List ℕ) (rare : Option ℕ) → (comparator_by kind counts rare).rare ≡ is_some rare
rare_by kind counts None = kind_not_rare kind
rare_by kind counts (Some most) = refl

module _ (texts : ℕ) (rows_a rows_b : List (List IdValue)) where
  pub rares_from : (n : ℕ) (fields : List FieldKeys) → map (λ (c : SideComparator IdValue). c.rare) (map (comparator_at texts rows_a rows_b) (enumerate_from n fields)) ≡ rares_of fields
  rares_from n [] = refl
  rares_from n (f ∷ fs) = λ i. rare_by f.compare (id_counts texts rows_a rows_b n) f.rare i ∷ rares_from (n + 1) fs i

  pub rares_answered : (fields : List FieldKeys) (all : List FieldById) → map answers_of all ≡ map (comparator_at texts rows_a rows_b) (enumerate_from 0 fields) → map field_rare all ≡ rares_of fields
  rares_answered fields all e = sym (map-map (λ (c : SideComparator IdValue). c.rare) answers_of all) ∙ ap (map (λ (c : SideComparator IdValue). c.rare)) e ∙ rares_from 0 fields

-- what the comparators of the first fields may be asked of
abbrev pub AskedOf : ℕ → List FieldKeys → List FieldById → ℕ → Type 0
AskedOf texts fields all n = (k : ℕ) (c : FieldById) (f : FieldKeys) (side : IdValue) → k < n → IsFieldSide (field_of (get_or fields k f).compare) side → IsOfTexts texts side → IsFieldSide (get_or all k c) side

-- one comparator more
pub asked_more : (texts : ℕ) (fields : List FieldKeys) (all : List FieldById) (i : ℕ) (f : FieldKeys) (c : FieldById) → length all ≡ i → i < length fields → f ≡ get_or fields i f
    → ((side : IdValue) → IsFieldSide (field_of f.compare) side → IsOfTexts texts side → IsFieldSide c side)
    → AskedOf texts fields all i → AskedOf texts fields (all ++ c ∷ []) (i + 1)
asked_more texts fields all i f c len lt is here so_far k d g side within h of_texts =
    elim (cases_lt k i) [
      | inl less ↦ subst (λ x. IsFieldSide x side) (sym (get_or-append all (c ∷ []) d k (omega arith))) (so_far k d g side less h of_texts)
      | inr not_less ↦
          let same : k ≡ i = omega arith in
          let last : length all ≡ k = omega arith in
          let field : get_or fields k g ≡ f = ap (λ j. get_or fields j g) same ∙ get_or_default fields i g f lt ∙ sym is in
          let end : get_or (all ++ c ∷ []) k d ≡ c = ap (λ j. get_or (all ++ c ∷ []) j d) (sym last) ∙ get_or-append_seam all c [] d in
          subst (λ x. IsFieldSide x side) (sym end) (here side (subst (λ (x : FieldKeys). IsFieldSide (field_of x.compare) side) field h) of_texts)
    ]

no_field : FieldKeys
no_field = record { name = []; column_a = []; column_b = []; sort = sort.Name; compare = exact; rare = None; shares = None }

-- the sides of a row, one for each comparator
pub sides_valid : (texts : ℕ) (fields : List FieldKeys) (all : List FieldById) (sides : List IdValue) → AreSidesOf texts fields sides → length all ≡ length fields → AskedOf texts fields all (length fields) → AreSides IsFieldSide all sides
sides_valid texts fields all sides of len asked = record {
  as_many = of.as_many ∙ sym len;
  valid_at = λ k c s lt.
      let within : k < length fields = omega arith in
      let there : k < length sides = omega (arith, of.as_many) in
      let f = no_field in
      subst (λ x. IsFieldSide (get_or all k c) x) (get_or_default sides k id.Absent s there) (asked k c f (get_or sides k id.Absent) within (of.valid k f within) (of.of_texts k within));
}

-- The rows of pairs before review: as they are kept, and that they can be written where the pairs rise and stand in two files.

kept_append : (keep : Bool) (rows more : List DecidedRow) → kept_rows keep (rows ++ more) ≡ kept_rows keep rows ++ kept_rows keep more
kept_append true rows more = refl
kept_append false rows more = refl

-- the rows of joined pairs that are kept
pub kept_joined : (keep : Bool) (row : PairAt → DecidedRow) (ps qs : List PairAt) → kept_rows keep (map row (ps ++ qs)) ≡ kept_rows keep (map row ps) ++ kept_rows keep (map row qs)
kept_joined keep row ps qs = ap (kept_rows keep) (map-append row ps qs) ∙ kept_append keep (map row ps) (map row qs)

-- the pattern of two rows of sides is one of those of the rule
pattern_below : (rule : PairRuleView) (a b : List IdValue) → AreSidesFor rule a → AreSidesFor rule b
    → pattern_by (map answers_of rule.comparators) a b < pattern_count_by (map field_rare rule.comparators)
pattern_below rule a b of_a of_b =
    subst (λ (n : ℕ). n < pattern_count_by (map field_rare rule.comparators)) (pattern_seen rule.comparators a b)
    (pattern-lt (λ c. (field_laws c).only_rare) rule.comparators a b of_a.as_many of_b.as_many)

module _ (rule : PairRuleView) (rows_a rows_b : List (List IdValue)) (pairs : List PairAt) (sides_a : All (AreSidesFor rule) rows_a) (sides_b : All (AreSidesFor rule) rows_b)
    (many : length rule.cells ≡ pattern_count_by (map field_rare rule.comparators))
    (inside : All (IsInside (length rows_a) (length rows_b)) pairs) (rise : AllPairs IsPairBefore pairs) where
  abbrev rows : List DecidedRow
  rows = decided_rows (side_rule rule rows_a rows_b) pairs

  below : (at : PairAt) → IsInside (length rows_a) (length rows_b) at → (side_rule rule rows_a rows_b).pattern at < length rule.cells
  below at within =
      subst (λ (n : ℕ). (side_rule rule rows_a rows_b).pattern at < n) (sym many)
      (pattern_below rule (get_or rows_a at.a []) (get_or rows_b at.b []) (sides_a at.a [] within.0) (sides_b at.b [] within.1))

  all_in : AreRowsIn (length rows_a) (length rows_b) (length rule.cells) rows
  all_in =
      let row = decided_row (side_rule rule rows_a rows_b) in
      record {
        in_a = All-map (λ (r : DecidedRow). r.at.a < length rows_a) row pairs (All-weaker (IsInside (length rows_a) (length rows_b)) (λ at. at.a < length rows_a) (λ at h. h.0) pairs inside);
        in_b = All-map (λ (r : DecidedRow). r.at.b < length rows_b) row pairs (All-weaker (IsInside (length rows_a) (length rows_b)) (λ at. at.b < length rows_b) (λ at h. h.1) pairs inside);
        patterns_in = All-map (λ (r : DecidedRow). r.pattern < length rule.cells) row pairs (All-weaker (IsInside (length rows_a) (length rows_b)) (λ at. (row at).pattern < length rule.cells) below pairs inside);
        rising = λ i j d lt within.
            let many : length rows ≡ length pairs = length-map pairs row in
            let first : (get_or rows i d).at ≡ get_or pairs i d.at = ap (λ (r : DecidedRow). r.at) (get_or-map row pairs i d.at d (omega arith)) in
            let second : (get_or rows j d).at ≡ get_or pairs j d.at = ap (λ (r : DecidedRow). r.at) (get_or-map row pairs j d.at d (omega arith)) in
            subst (λ (x : PairAt). IsPairBefore x (get_or rows j d).at) (sym first) (subst (λ (y : PairAt). IsPairBefore (get_or pairs i d.at) y) (sym second) (rise i j d.at lt (omega arith)));
      }

  none_in : AreRowsIn (length rows_a) (length rows_b) (length rule.cells) []
  none_in = record {
    in_a = All-nil (λ (r : DecidedRow). r.at.a < length rows_a);
    in_b = All-nil (λ (r : DecidedRow). r.at.b < length rows_b);
    patterns_in = All-nil (λ (r : DecidedRow). r.pattern < length rule.cells);
    rising = λ i j d lt within. absurd (omega arith);
  }

  -- the rows that are kept can be written
  pub kept_in : (keep : Bool) (found : List DecidedRow) → found ≡ kept_rows keep rows → AreRowsIn (length rows_a) (length rows_b) (length rule.cells) found
  kept_in true found is = subst (λ (rs : List DecidedRow). AreRowsIn (length rows_a) (length rows_b) (length rule.cells) rs) (sym is) all_in
  kept_in false found is = subst (λ (rs : List DecidedRow). AreRowsIn (length rows_a) (length rows_b) (length rule.cells) rs) (sym is) none_in
