-- The shares that settings give, and those of the counts of a sample, are shares of fields, which have a rule.
use Rattle.std.proofs.Common.{◌≡◌, ◌+◌, ◌<◌, ◌≤◌, ◌∙◌, ℕ, Bool, true, false, not, List, [], ◌∷◌, length, map, get_or, Option, Some, None, Result, Ok, Err, ap, arith, mul_comm, refl, subst, sym, IfSome, is_some, ◌++◌, take, append_assoc}
use Rattle.std.specs.List.{All, AllByRecursion, enumerate_from, filter, list_any, flat_map}
use Rattle.std.proofs.lemmas.List.{get_or-map, length-map, append-nil, map-append, take_more}
use Rattle.std.proofs.lemmas.List.Elements.{All-from_recursion, recursion_from_All}
use Rattle.std.proofs.lemmas.List.FromFn.{get_or-enumerate_from, length-enumerate_from}
use Rattle.std.proofs.lemmas.Nat.{mul-add-lt}
use Rattle.file_reader.specs.Words.{records_in, table_of, TableRow}
use Rattle.link_base.specs.Words.{and_then, IsShares, outcomes_of, Record}
use Rattle.link_base.specs.declared.fault.Fault.{Fault}
use Rattle.link_base.specs.declared.fault.FileRole.TheVariants as role
use Rattle.value_forms.specs.declared.canons.CompareKind.{CompareKind}
use Rattle.link_base.specs.declared.rule.Outcome.TheVariants.{Rare}
use Rattle.link_base.specs.declared.rule.PairAt.{PairAt}
use Rattle.link_base.specs.declared.shares.FieldShares.{FieldShares}
use Rattle.link_base.specs.declared.standard.Value.{Value}
use Rattle.comparators.specs.Fields.{kind_laws}
use Rattle.link_plan.specs.Plan.{FieldKeys, PlainShares}
use Rattle.link_plan.specs.Ranges.{AreShares}
use Rattle.link_plan.specs.declared.plan.Plan.{Plan}
use Rattle.patterns.specs.Patterns.{number_of, outcomes, digit_of, pattern_count_by}
use Rattle.patterns.specs.PatternLaws.{count-pos, digit-lt}
use Rattle.sample_counts.specs.Counts.{CountsState, count_of, has_status}
use Rattle.sample_counts.specs.Sample.{reviewed_rows, sample_of, sample_under, sample_wanted, with_both}
use Rattle.sample_counts.specs.declared.counts.Judged.{Judged}
use Rattle.sample_counts.specs.declared.reviewed.Reviewed.{Reviewed}
use Rattle.sample_counts.specs.CountLaws.{all-digits, none-rare, some-matched, some-unmatched, valid_shares, valid_shares4}
use Rattle.pair_decisions.specs.Words.{SideComparator, rares_of, field_comparator, field_comparator_at, field_comparators, holders_of, pattern_of_pair, values_of, rares_in, IsRuleOf, counted_in, counts_by_pattern, given_in, HaveValidShares, outcome_counts, plain_all, shares_at, shares_in, status_shares, the_rule}
use Rattle.pair_decisions.proofs.FilledRule.{the_rule_of_plan, value_rares}
use Rattle.std.proofs.lemmas.Grind.{flat_map-append}
use Rattle.link_report.specs.declared.open.PairRow.{PairRow}
use Rattle.pair_decisions.specs.declared.rows.DecidedRow.{DecidedRow}

-- ---- plain shares that are those of fields

-- shares of the outcomes that a field has
record AreOfField (s : PlainShares) : Type 0 where
  pub m : IsShares (outcomes_of s.rare) s.m
  pub u : IsShares (outcomes_of s.rare) s.u

abbrev field_of_plain : (s : PlainShares) → AreOfField s → FieldShares
field_of_plain s h = record { rare = s.rare; m = s.m; u = s.u; of_matched = h.m; of_unmatched = h.u }

abbrev fields_of_plain : (xs : List PlainShares) → AllByRecursion AreOfField xs → List FieldShares
fields_of_plain [] h = []
fields_of_plain (s ∷ xs) h = field_of_plain s h.0 ∷ fields_of_plain xs h.1

same_plain : (xs : List PlainShares) (h : AllByRecursion AreOfField xs) → plain_all (fields_of_plain xs h) ≡ xs
same_plain [] h = refl
same_plain (s ∷ xs) h = ap (λ ys. s ∷ ys) (same_plain xs h.1)

rule_of_plain : (plan : Plan) (xs : List PlainShares) → AllByRecursion AreOfField xs → IsRuleOf plan xs (the_rule plan.terms.mu_ppm plan.terms.lambda_ppm xs)
rule_of_plain plan xs h = subst (λ ys. IsRuleOf plan ys (the_rule plan.terms.mu_ppm plan.terms.lambda_ppm ys)) (same_plain xs h) (the_rule_of_plan plan (fields_of_plain xs h))

-- ---- the shares that settings give

given_of_field : (rare : Bool) (s : PlainShares) → AreShares rare s → AreOfField s
given_of_field rare s h = record {
  m = subst (λ b. IsShares (outcomes_of b) s.m) (sym h.rare) h.m;
  u = subst (λ b. IsShares (outcomes_of b) s.u) (sym h.rare) h.u;
}

abbrev HasValidShares : FieldKeys → Type 0
HasValidShares f = IfSome f.shares (AreShares (is_some f.rare))

given_of_fields : (fields : List FieldKeys) → AllByRecursion HasValidShares fields → AllByRecursion AreOfField (given_in fields)
given_of_fields [] h = tt
given_of_fields (f ∷ fields) h = by_shares f.shares refl (given_of_fields fields h.1)
  where
    by_shares : (o : Option PlainShares) → f.shares ≡ o → AllByRecursion AreOfField (given_in fields) → AllByRecursion AreOfField (given_in (f ∷ fields))
    by_shares None e rest = rw e rest
    by_shares (Some s) e rest = rw e (given_of_field (is_some f.rare) s (subst (λ (o : Option PlainShares). IfSome o (AreShares (is_some f.rare))) e h.0), rest)

pub given_rule : (plan : Plan) → HaveValidShares plan.fields → IsRuleOf plan (given_in plan.fields) (the_rule plan.terms.mu_ppm plan.terms.lambda_ppm (given_in plan.fields))
given_rule plan valid = rule_of_plain plan (given_in plan.fields) (given_of_fields plan.fields (recursion_from_All HasValidShares plan.fields valid))

-- ---- a sample has pairs of both statuses

record HasBoth (sample : List Reviewed) : Type 0 where
  pub matched : list_any (λ (r : Reviewed). r.matched) sample ≡ true
  pub unmatched : list_any (λ (r : Reviewed). not r.matched) sample ≡ true

-- what each last step gives holds of what the steps give
by_steps : {A B : Type 0} (P : B → Type 0) (step : Result A Fault) (next : A → Result B Fault) (v : B) → ((x : A) → step ≡ Ok x → next x ≡ Ok v → P v) → and_then step next ≡ Ok v → P v
by_steps P (Ok x) next v h e = h x refl e
by_steps P (Err f) next v h e = absurd (cc)

both_kept : (sample kept : List Reviewed) → with_both sample ≡ Ok kept → HasBoth kept
both_kept sample kept e = by_tests (list_any (λ (r : Reviewed). r.matched) sample) (list_any (λ (r : Reviewed). not r.matched) sample) refl refl
  where
    by_tests : (m u : Bool) → list_any (λ (r : Reviewed). r.matched) sample ≡ m → list_any (λ (r : Reviewed). not r.matched) sample ≡ u → HasBoth kept
    by_tests true true is_m is_u =
        let told = rw (is_m, is_u) at e in
        let same : sample ≡ kept = cc in
        subst HasBoth same (record { matched = is_m; unmatched = is_u })
    by_tests true false is_m is_u = let told = rw (is_m, is_u) at e in absurd (cc)
    by_tests false u is_m is_u = let told = rw is_m at e in absurd (cc)

sample_has_both : (a b : List Record) (records : List (List (List ℕ))) (sample : List Reviewed) → sample_of a b records ≡ Ok sample → HasBoth sample
sample_has_both a b records sample =
    by_steps HasBoth (table_of role.Sample sample_wanted records) (sample_under a b) sample
    (λ (table : List TableRow) is_table. by_steps HasBoth (reviewed_rows a b [] table) with_both sample (λ rows is_rows. both_kept rows sample))

-- ---- the shares of counts

-- pairs of both statuses, with patterns of the shape
record AreCounted (counts : CountsState) : Type 0 where
  pub some : (matched : Bool) → 1 ≤ length (filter (has_status matched) counts.rows)
  pub in_shape : All (λ (row : Judged). row.pattern < pattern_count_by counts.rares) counts.rows

module _ (counts : CountsState) (ok : AreCounted counts) (field : ℕ) (matched : Bool) where
  abbrev n : ℕ → ℕ
  n = count_of counts field matched

  total : 1 ≤ n 0 + n 1 + n 2 + n 3
  total = omega (arith, all-digits counts.rares field matched counts.rows, ok.some matched)

  four_shares : IsShares 4 (status_shares counts field true matched)
  four_shares = valid_shares4 (outcome_counts counts field matched 4) _ _ _ _ refl (omega (arith, total)) refl refl refl refl

  three_shares : field < length counts.rares → get_or counts.rares field false ≡ false → IsShares 3 (status_shares counts field false matched)
  three_shares within plain =
      let none : n 3 ≡ 0 = none-rare counts.rares field matched counts.rows ok.in_shape within plain in
      valid_shares (outcome_counts counts field matched 3) _ _ _ refl (omega (arith, total, none)) refl refl refl

  shares_of_status : (rare : Bool) → field < length counts.rares → get_or counts.rares field false ≡ rare → IsShares (outcomes_of rare) (status_shares counts field rare matched)
  shares_of_status true within is = four_shares
  shares_of_status false within is = three_shares within is

module _ (counts : CountsState) (ok : AreCounted counts) where
  abbrev places : List (ℕ × Bool)
  places = enumerate_from 0 counts.rares

  shares_at_place : (k : ℕ) (d : PlainShares) → k < length counts.rares → AreOfField (get_or (shares_in counts) k d)
  shares_at_place k d within =
      let rare = get_or counts.rares k false in
      let placed : get_or places k (0, false) ≡ (k, rare) = get_or-enumerate_from 0 counts.rares k (0, false) within ∙ ap (λ n. (n, rare)) (omega arith) in
      let is = get_or-map (shares_at counts) places k (0, false) d (omega (arith, within, length-enumerate_from 0 counts.rares)) ∙ ap (shares_at counts) placed in
      subst AreOfField (sym is) (record {
        m = shares_of_status counts ok k true rare within refl;
        u = shares_of_status counts ok k false rare within refl;
      })

  shares_of_counts : AllByRecursion AreOfField (shares_in counts)
  shares_of_counts =
      recursion_from_All AreOfField (shares_in counts) (λ k d lt. shares_at_place k d (omega (arith, lt, length-map places (shares_at counts), length-enumerate_from 0 counts.rares)))

-- ---- the counts of a sample

module _ (rares : List Bool) (pattern : PairAt → ℕ) (in_shape : (at : PairAt) → pattern at < pattern_count_by rares) where
  abbrev judged : Reviewed → Judged
  judged r = record { matched = r.matched; pattern = pattern (record { a = r.a; b = r.b }) }

  abbrev InShape : Judged → Type 0
  InShape row = row.pattern < pattern_count_by rares

  some_judged : (sample : List Reviewed) → HasBoth sample → (matched : Bool) → 1 ≤ length (filter (has_status matched) (map judged sample))
  some_judged sample both true = some-matched judged (λ r. refl) sample both.matched
  some_judged sample both false = some-unmatched judged (λ r. refl) sample both.unmatched

  all_in_shape : (sample : List Reviewed) → AllByRecursion InShape (map judged sample)
  all_in_shape [] = tt
  all_in_shape (r ∷ sample) = (in_shape (record { a = r.a; b = r.b }), all_in_shape sample)

  are_counted : (sample : List Reviewed) → HasBoth sample → AreCounted (counts_by_pattern rares pattern sample)
  are_counted sample both = record {
    some = some_judged sample both;
    in_shape = All-from_recursion InShape (map judged sample) (all_in_shape sample);
  }

counted_of_fields : (fields : List FieldKeys) (pattern : PairAt → ℕ) (a b : List Record) (bytes : List ℕ) (shares : List PlainShares) → ((at : PairAt) → pattern at < pattern_count_by (rares_of fields))
    → counted_in fields pattern a b bytes ≡ Ok shares → AllByRecursion AreOfField shares
counted_of_fields fields pattern a b bytes shares in_shape =
    by_steps (AllByRecursion AreOfField) (sample_of a b (records_in 44 bytes)) (λ sample. Ok (shares_in (counts_by_pattern (rares_of fields) pattern sample))) shares (λ sample is e.
    let counts = counts_by_pattern (rares_of fields) pattern sample in
    let same : shares_in counts ≡ shares = cc in
    subst (AllByRecursion AreOfField) same (shares_of_counts counts (are_counted (rares_of fields) pattern in_shape sample (sample_has_both a b (records_in 44 bytes) sample is))))

pub counted_rule : (plan : Plan) (pattern : PairAt → ℕ) (a b : List Record) (bytes : List ℕ) (shares : List PlainShares) → ((at : PairAt) → pattern at < pattern_count_by (rares_of plan.fields))
    → counted_in plan.fields pattern a b bytes ≡ Ok shares → IsRuleOf plan shares (the_rule plan.terms.mu_ppm plan.terms.lambda_ppm shares)
counted_rule plan pattern a b bytes shares in_shape e = rule_of_plain plan shares (counted_of_fields plan.fields pattern a b bytes shares in_shape e)

-- ---- the pattern of two records is of the shape

only_rare : (kind : CompareKind) (rare : Option ℕ) (holders : List ℕ → ℕ) (x y : Value) → (field_comparator kind rare holders).outcome x y ≡ Rare → (field_comparator kind rare holders).rare ≡ true
only_rare kind None holders x y e = (kind_laws kind).only_rare x y e
only_rare kind (Some most) holders x y e = refl

-- a comparator that answers `Rare` only where it may
abbrev IsRareWhereTold : SideComparator Value → Type 0
IsRareWhereTold c = (x y : Value) → c.outcome x y ≡ Rare → c.rare ≡ true

number_within : (cs : List (SideComparator Value)) → AllByRecursion IsRareWhereTold cs → (xs ys : List Value)
    → number_of (rares_in cs) (outcomes (λ (c : SideComparator Value). c.outcome) cs xs ys) < pattern_count_by (rares_in cs)
number_within [] told xs ys = omega arith
number_within (c ∷ cs) told [] ys = count-pos (rares_in (c ∷ cs))
number_within (c ∷ cs) told (x ∷ xs) [] = count-pos (rares_in (c ∷ cs))
number_within (c ∷ cs) told (x ∷ xs) (y ∷ ys) =
    let others = pattern_count_by (rares_in cs) in
    let digit = digit-lt c.rare (c.outcome x y) (told.0 x y) in
    let placed = mul-add-lt (digit_of (c.outcome x y)) others _ (outcomes_of c.rare) digit (number_within cs told.1 xs ys) in
    rw (mul_comm (outcomes_of c.rare) others) placed

module _ (a b : List Record) where
  abbrev comparators_from : ℕ → List FieldKeys → List (SideComparator Value)
  comparators_from n fields = map (field_comparator_at a b) (enumerate_from n fields)

  all_told : (n : ℕ) (fields : List FieldKeys) → AllByRecursion IsRareWhereTold (comparators_from n fields)
  all_told n [] = tt
  all_told n (f ∷ fields) = (only_rare f.compare f.rare (holders_of f.compare n a b), all_told (n + 1) fields)

  pair_in_shape : (fields : List FieldKeys) (at : PairAt) → pattern_of_pair fields a b at < pattern_count_by (rares_of fields)
  pair_in_shape fields at =
      subst (λ rares. pattern_of_pair fields a b at < pattern_count_by rares) (value_rares a b 0 fields)
      (number_within (field_comparators fields a b) (all_told 0 fields) (get_or (values_of a) at.a []) (get_or (values_of b) at.b []))

pub rule_by_values : (plan : Plan) (a b : List Record) (bytes : List ℕ) (shares : List PlainShares) → counted_in plan.fields (pattern_of_pair plan.fields a b) a b bytes ≡ Ok shares
    → IsRuleOf plan shares (the_rule plan.terms.mu_ppm plan.terms.lambda_ppm shares)
rule_by_values plan a b bytes shares = counted_rule plan (pattern_of_pair plan.fields a b) a b bytes shares (pair_in_shape a b plan.fields)

-- The lines of rows, row by row.

-- a line by the fields that may be rare, which stay the same
pub line_by : (line : List Bool → PairRow → List ℕ) (now start : List Bool) (row : PairRow) (old new : List ℕ) → now ≡ start → new ≡ old ++ line now row → new ≡ old ++ line start row
line_by line now start row old new same told = told ∙ ap (λ rares. old ++ line rares row) same

-- one line more
pub line_more : (line : PairRow → List ℕ) (shown : DecidedRow → PairRow) (rows : List DecidedRow) (i : ℕ) (d : DecidedRow) (start old new : List ℕ) → i < length rows
    → old ≡ start ++ flat_map line (map shown (take i rows)) → new ≡ old ++ line (shown (get_or rows i d)) → new ≡ start ++ flat_map line (map shown (take (i + 1) rows))
line_more line shown rows i d start old new lt told more =
    let before = map shown (take i rows) in
    let row = shown (get_or rows i d) in
    let step : map shown (take (i + 1) rows) ≡ before ++ row ∷ [] = ap (map shown) (take_more rows i d lt) ∙ map-append shown (take i rows) (get_or rows i d ∷ []) in
    let all : flat_map line (map shown (take (i + 1) rows)) ≡ flat_map line before ++ line row =
    ap (flat_map line) step ∙ flat_map-append line before (row ∷ []) ∙ ap (λ t. flat_map line before ++ t) (append-nil (line row)) in
    more ∙ ap (λ t. t ++ line row) told ∙ append_assoc start (flat_map line before) (line row) ∙ ap (λ t. start ++ t) (sym all)
