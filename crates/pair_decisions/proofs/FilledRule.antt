-- The rule as a function is a filled table, and so the only one.
use Rattle.std.proofs.Common.{◌≡◌, ◌+◌, ◌-◌, ◌/◌, ◌<◌, ◌≤◌, ◌∙◌, ℕ, List, map, ap, arith, refl, reverse, subst, sym, suc, Bool, true, false, [], ◌∷◌, length, get_or, Option, Some, None, inl, inr, nat_le, MatchBool, is_some, slice_get, slice_index, IsPermutation}
use Rattle.std.specs.List.{All, AllPairs, enumerate_from}
use Rattle.std.proofs.lemmas.List.{reverse-reverse, get_or-map, get_or_past, length-map}
use Rattle.std.proofs.lemmas.List.Elements.{All-from_recursion, recursion_from_All}
use Rattle.std.proofs.lemmas.List.Sorted.{All-permutation, IsPermutation-reverse, IsPermutation-sym}
use Rattle.link_base.specs.declared.rule.RuleCell.{RuleCell}
use Rattle.link_base.specs.declared.shares.FieldShares.{FieldShares}
use Rattle.link_limits.specs.declared.TheConstants.{PER_MILLION, WHOLE_RULE}
use Rattle.decision_rule.specs.Filled.{IsFilled, LinksAreCut, NonlinksAreCut, asked_of, chances_of, all_chances}
use Rattle.decision_rule.specs.Rule.{RanksBefore}
use Rattle.decision_rule.specs.Walk.{CutBy}
use Rattle.decision_rule.specs.CutLaws.{IsCut-from_walk}
use Rattle.decision_rule.specs.FilledLaws.{links_kept, one_filled, positive_cells, map_turned, in_order, order_kept, permuted}
use Rattle.link_plan.specs.Plan.{PlainShares, FieldKeys}
use Rattle.link_plan.specs.declared.plan.Plan.{Plan}
use Rattle.pair_decisions.specs.Words.{IsRuleOf, plain_all, cells_of_patterns, ranked, with_links, with_nonlinks, comparator_at, comparator_by, comparators_of, count_of_id, id_counts, rares_of, SideComparator, StandForFile, StandInField, field_comparator, field_comparator_at, field_comparators, holders_of, is_rare_canon, pattern_of_pair, values_of, pattern_over, rares_in}
use Rattle.pair_decisions.specs.TheRule.{the_rule}
use Rattle.pair_decisions.proofs.ListSteps.{give_all, give_keeps, give_walks, all_chances_are, room_is, ranked_in_order, ranked_permutes, rare_counted}
use Rattle.std.proofs.lemmas.Bool.{cases_lt}
use Rattle.std.proofs.lemmas.List.FromFn.{get_or-map-range_with_len}
use Rattle.std.proofs.lemmas.Option.{slice_get_within}
use Rattle.comparators.specs.OfPoolLaws.{names_as, outcomes_alike, rare_alike}
use Rattle.comparators.specs.Fields.{id_in, kind_outcome, IsDayItself, NamesCanon, rare_where, StandsFor}
use Rattle.comparators.specs.Laws.{outcome_by, outcome_of_counted, outcome_of_texts}
use Rattle.comparators.specs.declared.ids.IdValue.{IdValue}
use Rattle.comparators.specs.declared.ids.IdValue.TheVariants as id
use Rattle.link_base.specs.Words.{Record, absent_value, no_record}
use Rattle.value_forms.specs.declared.canons.CompareKind.{CompareKind}
use Rattle.value_forms.specs.declared.canons.CompareKind.TheVariants as by
use Rattle.link_base.specs.declared.rule.Outcome.{Outcome}
use Rattle.link_base.specs.declared.rule.Outcome.TheVariants.{Missing}
use Rattle.link_base.specs.declared.standard.Value.{Value}
use Rattle.link_plan.specs.Ranges.{KeepsRanges, may_be_rare}
use Rattle.patterns.specs.Patterns.{number_of, outcomes}
use Rattle.value_forms.specs.Canons.{canon_of, compares_days, day_in}
use Rattle.pair_decisions.proofs.ComparatorLemmas.{canon_of_rare, rares_from}

-- ---- cells of all patterns

abbrev AreAll : List FieldShares → List RuleCell → Type 0
AreAll xs cells = IsPermutation (all_chances xs) (map chances_of cells)

still_all : (xs : List FieldShares) (cells given : List RuleCell) → map chances_of given ≡ map chances_of cells → AreAll xs cells → AreAll xs given
still_all xs cells given e all = subst (IsPermutation (all_chances xs)) (sym e) all

u_positive : (xs : List FieldShares) (cells : List RuleCell) → AreAll xs cells → All (λ (c : RuleCell). 0 < c.u) cells
u_positive xs cells all = λ k d lt. (positive_cells xs cells all k d lt).1

m_positive : (xs : List FieldShares) (cells : List RuleCell) → AreAll xs cells → All (λ (c : RuleCell). 0 < c.m) cells
m_positive xs cells all = λ k d lt. (positive_cells xs cells all k d lt).0

turned_back : {Y : Type 0} (f : RuleCell → Y) (cells given : List RuleCell) → map f given ≡ map f (reverse cells) → map f (reverse given) ≡ map f cells
turned_back f cells given e = map_turned f given (reverse cells) e ∙ ap (map f) (reverse-reverse cells)

-- ---- links

abbrev put_link : RuleCell → ℕ → RuleCell
put_link c n = record c { link = n }

abbrev link_bound : RuleCell → ℕ
link_bound c = WHOLE_RULE

abbrev LinkFits : RuleCell → Type 0
LinkFits c = c.link ≤ WHOLE_RULE

links_keep : (cells : List RuleCell) (room : ℕ) → map chances_of (with_links cells room) ≡ map chances_of cells
links_keep = give_keeps chances_of put_link link_bound (λ (c : RuleCell). c.u) (λ c n. refl)

links_fit : (cells : List RuleCell) (room : ℕ) → All (λ (c : RuleCell). 0 < c.u) cells → All LinkFits (with_links cells room)
links_fit cells room pos =
    let before = recursion_from_All (λ (c : RuleCell). 0 < c.u) cells pos in
    All-from_recursion LinkFits (with_links cells room) (give_all _ LinkFits put_link link_bound (λ (c : RuleCell). c.u) (λ c n p le. le) cells room before)

links_walk : (cells : List RuleCell) (room : ℕ) → CutBy (λ (c : RuleCell). c.link) link_bound (λ (c : RuleCell). c.u) (with_links cells room) room
links_walk = give_walks put_link (λ (c : RuleCell). c.link) link_bound (λ (c : RuleCell). c.u) (λ c n. refl) (λ c n. refl) (λ c n. refl)

links_are_cut : (asked : ℕ) (cells : List RuleCell) → All (λ (c : RuleCell). 0 < c.u) (with_links cells (asked / PER_MILLION)) → LinksAreCut asked (with_links cells (asked / PER_MILLION))
links_are_cut asked cells pos =
    let links = with_links cells (asked / PER_MILLION) in
    IsCut-from_walk _ _ _ asked links (recursion_from_All (λ (c : RuleCell). 0 < c.u) links pos) (links_walk cells (asked / PER_MILLION))

-- ---- non-links

abbrev put_nonlink : RuleCell → ℕ → RuleCell
put_nonlink c n = record c { nonlink = n }

abbrev nonlink_bound : RuleCell → ℕ
nonlink_bound c = WHOLE_RULE - c.link

abbrev SharesFit : RuleCell → Type 0
SharesFit c = c.link + c.nonlink ≤ WHOLE_RULE

nonlinks_keep : (cells : List RuleCell) (room : ℕ) → map chances_of (with_nonlinks cells room) ≡ map chances_of cells
nonlinks_keep = give_keeps chances_of put_nonlink nonlink_bound (λ (c : RuleCell). c.m) (λ c n. refl)

nonlinks_keep_links : (cells : List RuleCell) (room : ℕ) → map (λ (c : RuleCell). c.link) (with_nonlinks cells room) ≡ map (λ (c : RuleCell). c.link) cells
nonlinks_keep_links = give_keeps (λ (c : RuleCell). c.link) put_nonlink nonlink_bound (λ (c : RuleCell). c.m) (λ c n. refl)

nonlinks_fit : (cells : List RuleCell) (room : ℕ) → All LinkFits cells → All SharesFit (with_nonlinks cells room)
nonlinks_fit cells room fits =
    let before = recursion_from_All LinkFits cells fits in
    All-from_recursion SharesFit (with_nonlinks cells room)
    (give_all LinkFits SharesFit put_nonlink nonlink_bound (λ (c : RuleCell). c.m) (λ c n fit le. omega (arith, fit, le)) cells room before)

nonlinks_walk : (cells : List RuleCell) (room : ℕ) → CutBy (λ (c : RuleCell). c.nonlink) nonlink_bound (λ (c : RuleCell). c.m) (with_nonlinks cells room) room
nonlinks_walk = give_walks put_nonlink (λ (c : RuleCell). c.nonlink) nonlink_bound (λ (c : RuleCell). c.m) (λ c n. refl) (λ c n. refl) (λ c n. refl)

nonlinks_are_cut : (asked : ℕ) (cells : List RuleCell) → All (λ (c : RuleCell). 0 < c.m) (with_nonlinks cells (asked / PER_MILLION)) → NonlinksAreCut asked (with_nonlinks cells (asked / PER_MILLION))
nonlinks_are_cut asked cells pos =
    let nonlinks = with_nonlinks cells (asked / PER_MILLION) in
    IsCut-from_walk _ _ _ asked nonlinks (recursion_from_All (λ (c : RuleCell). 0 < c.m) nonlinks pos) (nonlinks_walk cells (asked / PER_MILLION))

-- ---- both, given to ranked cells

given_to_ranked : (xs : List FieldShares) (mu lambda : ℕ) (cells : List RuleCell) → AreAll xs cells → AllPairs RanksBefore cells
    → IsFilled xs mu lambda (reverse (with_nonlinks (reverse (with_links cells (asked_of xs mu / PER_MILLION))) (asked_of xs lambda / PER_MILLION)))
given_to_ranked xs mu lambda cells all order =
    let room_mu = asked_of xs mu / PER_MILLION in
    let room_lambda = asked_of xs lambda / PER_MILLION in
    let links = with_links cells room_mu in
    let back = with_nonlinks (reverse links) room_lambda in
    let same_links = turned_back (λ (c : RuleCell). c.link) links back (nonlinks_keep_links (reverse links) room_lambda) in
    let same = turned_back chances_of links back (nonlinks_keep (reverse links) room_lambda) in
    let u_pos = u_positive xs links (still_all xs cells links (links_keep cells room_mu) all) in
    let all_back = still_all xs cells (reverse back) (same ∙ links_keep cells room_mu) all in
    let m_pos = All-permutation (λ (c : RuleCell). 0 < c.m) (reverse back) back (IsPermutation-sym back (reverse back) (IsPermutation-reverse back)) (m_positive xs (reverse back) all_back) in
    let fit = All-permutation LinkFits links (reverse links) (IsPermutation-reverse links) (links_fit cells room_mu (u_positive xs cells all)) in
    record {
      patterns = all_back;
      in_order = order_kept (reverse back) cells (same ∙ links_keep cells room_mu) order;
      rule = All-permutation SharesFit back (reverse back) (IsPermutation-reverse back) (nonlinks_fit (reverse links) room_lambda fit);
      links = links_kept (reverse back) links (asked_of xs mu) same same_links u_pos (links_are_cut (asked_of xs mu) cells u_pos);
      nonlinks = subst (NonlinksAreCut (asked_of xs lambda)) (sym (reverse-reverse back)) (nonlinks_are_cut (asked_of xs lambda) (reverse links) m_pos);
    }

-- ---- the rule

pub the_rule_is_filled : (xs : List FieldShares) (mu lambda : ℕ) → IsFilled xs mu lambda (the_rule mu lambda (plain_all xs))
unfolding the_rule
the_rule_is_filled xs mu lambda =
    let unranked = cells_of_patterns (plain_all xs) in
    let all = permuted xs unranked (ranked unranked) (all_chances_are xs) (ranked_permutes unranked) in
    let order = in_order xs (ranked unranked) all (ranked_in_order unranked) in
    rw (room_is xs mu, room_is xs lambda) (given_to_ranked xs mu lambda (ranked unranked) all order)

pub the_rule_of_plan : (plan : Plan) (xs : List FieldShares) → IsRuleOf plan (plain_all xs) (the_rule plan.terms.mu_ppm plan.terms.lambda_ppm (plain_all xs))
the_rule_of_plan plan xs = record {
  by_shares = xs;
  same = refl;
  filled = the_rule_is_filled xs plan.terms.mu_ppm plan.terms.lambda_ppm;
}

pub is_the_rule : (plan : Plan) (shares : List PlainShares) (cells : List RuleCell) → IsRuleOf plan shares cells → cells ≡ the_rule plan.terms.mu_ppm plan.terms.lambda_ppm shares
is_the_rule plan shares cells rule =
    one_filled rule.by_shares plan.terms.mu_ppm plan.terms.lambda_ppm cells _ rule.filled (the_rule_is_filled rule.by_shares plan.terms.mu_ppm plan.terms.lambda_ppm)
    ∙ ap (the_rule plan.terms.mu_ppm plan.terms.lambda_ppm) rule.same

pub one_rule : (plan : Plan) (shares : List PlainShares) (xs ys : List RuleCell) → IsRuleOf plan shares xs → IsRuleOf plan shares ys → xs ≡ ys
one_rule plan shares xs ys of_xs of_ys = is_the_rule plan shares xs of_xs ∙ sym (is_the_rule plan shares ys of_ys)

-- The comparison pattern of two rows of ids and days that stand for the values of two records is that of the records.

-- a kind that may be rare compares canons
compares_canons : (kind : CompareKind) → may_be_rare kind ≡ true → compares_days kind ≡ false
compares_canons (by.Same c) h = refl
compares_canons by.Initials h = refl
compares_canons (by.DaysWithin t) h = absurd (cc)
compares_canons (by.YearsWithin t) h = absurd (cc)

by_canons : (kind : CompareKind) (x y : Value) → compares_days kind ≡ false → kind_outcome kind x y ≡ outcome_by outcome_of_texts (canon_of kind x) (canon_of kind y)
by_canons (by.Same c) x y h = refl
by_canons by.Initials x y h = refl
by_canons (by.DaysWithin t) x y h = absurd (cc)
by_canons (by.YearsWithin t) x y h = absurd (cc)

missing_stays : (b : Bool) → Missing ≡ rare_where b Missing
missing_stays true = refl
missing_stays false = refl

module _ (texts : List (List ℕ)) (distinct : (a b : ℕ) → a < length texts → slice_get texts a ≡ slice_get texts b → a ≡ b) where
  -- the count of each id is the number of records that have its text
  abbrev Counts : List ℕ → (List ℕ → ℕ) → Type 0
  Counts counts holders = (n : ℕ) (text : List ℕ) → slice_get texts n ≡ Some text → slice_index counts n ≡ holders text

  rare_of_canons : (most : ℕ) (counts : List ℕ) (holders : List ℕ → ℕ) → Counts counts holders → (x y : Option (List ℕ)) (a b : IdValue) → NamesCanon texts x a → NamesCanon texts y b
      → outcome_by (outcome_of_counted most counts) (id_in a) (id_in b) ≡ rare_where (is_rare_canon most holders x) (outcome_by outcome_of_texts x y)
  rare_of_canons most counts holders of x y a b h k =
      names_as texts distinct x a h (λ u i. outcome_by (outcome_of_counted most counts) i (id_in b) ≡ rare_where (is_rare_canon most holders u) (outcome_by outcome_of_texts u y)) refl
      (λ c m at. names_as texts distinct y b k (λ v j. outcome_by (outcome_of_counted most counts) (Some m) j ≡ rare_where (nat_le (holders c) most) (outcome_by outcome_of_texts (Some c) v)) (missing_stays (nat_le (holders c) most))
      (λ d n there. rare_alike texts distinct most counts m n c d at there ∙ ap (λ held. rare_where (nat_le held most) (outcome_of_texts c d)) (of m c at)))

  -- a side that is no day names the canon of its value
  named : (kind : CompareKind) (x : Value) (side : IdValue) → compares_days kind ≡ false → StandsFor texts kind x side → NamesCanon texts (canon_of kind x) side
  named kind x side canon h = subst (λ b. MatchBool b (IsDayItself (day_in x) side) (NamesCanon texts (canon_of kind x) side)) canon h

  -- the outcome in a field
  same_outcome : (kind : CompareKind) (rare : Option ℕ) (counts : List ℕ) (holders : List ℕ → ℕ) (x y : Value) (a b : IdValue)
      → ((most : ℕ) → rare ≡ Some most → (may_be_rare kind ≡ true) × Counts counts holders) → StandsFor texts kind x a → StandsFor texts kind y b
      → (comparator_by kind counts rare).outcome a b ≡ (field_comparator kind rare holders).outcome x y
  same_outcome kind None counts holders x y a b of h k = outcomes_alike texts distinct kind x y a b h k
  same_outcome kind (Some most) counts holders x y a b of h k =
      let told = of most refl in
      let canon : compares_days kind ≡ false = compares_canons kind told.0 in
      rare_of_canons most counts holders told.1 (canon_of kind x) (canon_of kind y) a b (named kind x a canon h) (named kind y b canon k)
      ∙ ap (rare_where (is_rare_canon most holders (canon_of kind x))) (sym (by_canons kind x y canon))

-- one list of outcomes of two rows of sides, and one of two rows of values
module _ {S V : Type 0} (side : ℕ × FieldKeys → SideComparator S) (value : ℕ × FieldKeys → SideComparator V) (no_side : S) (no_value : V) where
  abbrev Same : ℕ → List FieldKeys → List S → List S → List V → List V → Type 0
  Same n fs xs ys vs ws = (k m : ℕ) (f : FieldKeys) → k < length fs → m ≡ n + k
      → (side (m, get_or fs k f)).outcome (get_or xs k no_side) (get_or ys k no_side) ≡ (value (m, get_or fs k f)).outcome (get_or vs k no_value) (get_or ws k no_value)

  outcomes_same : (n : ℕ) (fs : List FieldKeys) (xs ys : List S) (vs ws : List V) → length xs ≡ length fs → length ys ≡ length fs → length vs ≡ length fs → length ws ≡ length fs
      → Same n fs xs ys vs ws → outcomes (λ (c : SideComparator S). c.outcome) (map side (enumerate_from n fs)) xs ys ≡ outcomes (λ (c : SideComparator V). c.outcome) (map value (enumerate_from n fs)) vs ws
  outcomes_same n [] xs ys vs ws a b c d same = refl
  outcomes_same n (f ∷ fs) [] ys vs ws a b c d same = absurd (omega (arith, a))
  outcomes_same n (f ∷ fs) (x ∷ xs) [] vs ws a b c d same = absurd (omega (arith, b))
  outcomes_same n (f ∷ fs) (x ∷ xs) (y ∷ ys) [] ws a b c d same = absurd (omega (arith, c))
  outcomes_same n (f ∷ fs) (x ∷ xs) (y ∷ ys) (v ∷ vs) [] a b c d same = absurd (omega (arith, d))
  outcomes_same n (f ∷ fs) (x ∷ xs) (y ∷ ys) (v ∷ vs) (w ∷ ws) a b c d same =
      λ i. same 0 n f (omega arith) (omega arith) i
      ∷ outcomes_same (n + 1) fs xs ys vs ws (omega (arith, a)) (omega (arith, b)) (omega (arith, c)) (omega (arith, d)) (λ k m g lt is. same (suc k) m g (omega arith) (omega arith)) i

-- no outcome where a row is missing
none_left : {S : Type 0} (cs : List (SideComparator S)) (ys : List S) → outcomes (λ (c : SideComparator S). c.outcome) cs [] ys ≡ []
none_left [] ys = refl
none_left (c ∷ cs) ys = refl

none_right : {S : Type 0} (cs : List (SideComparator S)) (xs : List S) → outcomes (λ (c : SideComparator S). c.outcome) cs xs [] ≡ []
none_right [] xs = refl
none_right (c ∷ cs) [] = refl
none_right (c ∷ cs) (x ∷ xs) = refl

-- which fields may be rare
rare_as : (kind : CompareKind) (rare : Option ℕ) (holders : List ℕ → ℕ) → (field_comparator kind rare holders).rare ≡ is_some rare
rare_as kind None holders = refl
rare_as kind (Some most) holders = refl

pub value_rares : (a b : List Record) (n : ℕ) (fields : List FieldKeys) → rares_in (map (field_comparator_at a b) (enumerate_from n fields)) ≡ rares_of fields
value_rares a b n [] = refl
value_rares a b n (f ∷ fs) = λ i. rare_as f.compare f.rare (holders_of f.compare n a b) i ∷ value_rares a b (n + 1) fs i

module _ (texts : List (List ℕ)) (distinct : (a b : ℕ) → a < length texts → slice_get texts a ≡ slice_get texts b → a ≡ b) (plan : Plan) (a b : List Record) (rows_a rows_b : List (List IdValue))
    (ranges : KeepsRanges plan) (of_a : StandForFile texts plan.fields a rows_a) (of_b : StandForFile texts plan.fields b rows_b) where
  abbrev ids : List (SideComparator IdValue)
  ids = comparators_of (length texts) plan.fields rows_a rows_b

  abbrev values : List (SideComparator Value)
  values = field_comparators plan.fields a b

  same_rares : rares_in ids ≡ rares_in values
  same_rares = rares_from (length texts) rows_a rows_b 0 plan.fields ∙ sym (value_rares a b 0 plan.fields)

  counts_are : (kind : CompareKind) (k : ℕ) → compares_days kind ≡ false → StandInField texts kind k a rows_a → StandInField texts kind k b rows_b
      → Counts texts distinct (id_counts (length texts) rows_a rows_b k) (holders_of kind k a b)
  counts_are kind k canon in_a in_b n text at =
      let lt : n < length texts = slice_get_within texts n text at in
      get_or-map-range_with_len (count_of_id rows_a rows_b k) 0 (length texts) n n 0 (omega arith) (omega arith)
      ∙ rare_counted texts distinct kind k n text a b rows_a rows_b canon at in_a in_b

  field_same : (i j : ℕ) → i < length a → j < length b → Same (comparator_at (length texts) rows_a rows_b) (field_comparator_at a b) id.Absent absent_value 0 plan.fields
      (get_or rows_a i []) (get_or rows_b j []) (get_or a i no_record).row (get_or b j no_record).row
  field_same i j in_a in_b k m f lt is =
      let field = get_or plan.fields k f in
      let place : k ≡ m = omega (arith, is) in
      let stand_a : StandInField texts field.compare m a rows_a = subst (λ n. StandInField texts field.compare n a rows_a) place (of_a.stand k f lt) in
      let stand_b : StandInField texts field.compare m b rows_b = subst (λ n. StandInField texts field.compare n b rows_b) place (of_b.stand k f lt) in
      let may : (most : ℕ) → field.rare ≡ Some most → may_be_rare field.compare ≡ true = λ most e. canon_of_rare field.compare field.rare most e (ranges.fields k f lt).rare in
      same_outcome texts distinct field.compare field.rare (id_counts (length texts) rows_a rows_b m) (holders_of field.compare m a b)
      (get_or (get_or a i no_record).row k absent_value) (get_or (get_or b j no_record).row k absent_value) (get_or (get_or rows_a i []) k id.Absent) (get_or (get_or rows_b j []) k id.Absent)
      (λ most e. (may most e, counts_are field.compare m (compares_canons field.compare (may most e)) stand_a stand_b))
      ((of_a.stand k f lt).stand i in_a) ((of_b.stand k f lt).stand j in_b)

  abbrev by_ids : List IdValue → List IdValue → List Outcome
  by_ids = outcomes (λ (c : SideComparator IdValue). c.outcome) ids

  abbrev by_values : List Value → List Value → List Outcome
  by_values = outcomes (λ (c : SideComparator Value). c.outcome) values

  within_both : (i j : ℕ) → i < length a → j < length b → by_ids (get_or rows_a i []) (get_or rows_b j []) ≡ by_values (get_or (values_of a) i []) (get_or (values_of b) j [])
  within_both i j in_a in_b =
      outcomes_same (comparator_at (length texts) rows_a rows_b) (field_comparator_at a b) id.Absent absent_value 0 plan.fields
      (get_or rows_a i []) (get_or rows_b j []) (get_or a i no_record).row (get_or b j no_record).row
      (of_a.sides i in_a) (of_b.sides j in_b) (of_a.values i in_a) (of_b.values j in_b) (field_same i j in_a in_b)
      ∙ (λ n. by_values (sym (get_or-map (λ (r : Record). r.row) a i no_record [] in_a) n) (sym (get_or-map (λ (r : Record). r.row) b j no_record [] in_b) n))

  past_a : (i : ℕ) (xs : List IdValue) (vs : List Value) → length a ≤ i → by_ids (get_or rows_a i []) xs ≡ by_values (get_or (values_of a) i []) vs
  past_a i xs vs past =
      let no_ids : get_or rows_a i [] ≡ [] = get_or_past rows_a i [] (omega (arith, of_a.as_many)) in
      let no_values : get_or (values_of a) i [] ≡ [] = get_or_past (values_of a) i [] (omega (arith, length-map a (λ (r : Record). r.row))) in
      ap (λ r. by_ids r xs) no_ids ∙ none_left ids xs ∙ sym (none_left values vs) ∙ ap (λ r. by_values r vs) (sym no_values)

  past_b : (j : ℕ) (xs : List IdValue) (vs : List Value) → length b ≤ j → by_ids xs (get_or rows_b j []) ≡ by_values vs (get_or (values_of b) j [])
  past_b j xs vs past =
      let no_ids : get_or rows_b j [] ≡ [] = get_or_past rows_b j [] (omega (arith, of_b.as_many)) in
      let no_values : get_or (values_of b) j [] ≡ [] = get_or_past (values_of b) j [] (omega (arith, length-map b (λ (r : Record). r.row))) in
      ap (by_ids xs) no_ids ∙ none_right ids xs ∙ sym (none_right values vs) ∙ ap (by_values vs) (sym no_values)

  outcomes_at : (i j : ℕ) → by_ids (get_or rows_a i []) (get_or rows_b j []) ≡ by_values (get_or (values_of a) i []) (get_or (values_of b) j [])
  outcomes_at i j =
      elim (cases_lt i (length a)) [
        | inr past ↦ past_a i (get_or rows_b j []) (get_or (values_of b) j []) (omega arith)
        | inl in_a ↦
            elim (cases_lt j (length b)) [
              | inr past ↦ past_b j (get_or rows_a i []) (get_or (values_of a) i []) (omega arith)
              | inl in_b ↦ within_both i j in_a in_b
            ]
      ]

  pub same_patterns : pattern_over ids rows_a rows_b ≡ pattern_of_pair plan.fields a b
  same_patterns = λ n at. number_of (same_rares n) (outcomes_at at.a at.b n)
