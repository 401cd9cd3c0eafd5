-- What the steps of a run give, over the prepared files of a plan.
use Rattle.std.proofs.Common.{◌≡◌, ◌≤◌, ◌<◌, ◌+◌, ◌∷◌, ◌++◌, ◌∙◌, ℕ, zero, suc, List, [], Ok, Err, length, map, filter, drop, get_or, refl, sym, ap, append_assoc, arith, Some, slice_get, Bool, take, Result, subst, IfOk, slice_index, ℤ, true, false, if◌then◌else◌, codes, decimal, Contains, not, Option, None, ◌*◌, MatchBool}
use Rattle.std.specs.Prelude.{⊤}
use Rattle.std.proofs.lemmas.List.{append-nil, drop_all, drop_more, length-append, length-map, get_or_default, get_or-map, map-append}
use Rattle.link_base.specs.declared.rule.PairAt.{PairAt}
use Rattle.link_limits.specs.declared.TheConstants.{MOST_PAIRS, MOST_FIELD_BYTES, MOST_ROWS}
use Rattle.pair_decisions.specs.Words.{past_limit, within_limit, sides_of_fields, pairs_within, rares_of, AreSidesOf, plain_all, comparators_of, StandForFile, AreDecisionsOn, DecidedView, shown_rows, side_rule, pattern_over, pattern_of_pair}
use Rattle.std.proofs.lemmas.List.Elements.{filter-append, All-contains, All-filter, All-map, All-weaker, All-push}
use Rattle.pair_walk.specs.Rows.{pair, pairs_of_row, product_from}
use Rattle.pair_walk.specs.PairLaws.{row-pairs}
use Rattle.link_core.specs.Pairs.{column_pairs, is_column_pair, first_field, only_field, present, matched_rows, pairs_from, pairs_of_fields, rows_with_field, compared_field, NumbersFields, NumbersRows}
use Rattle.std.specs.List.{All, concat, flat_map}
use Rattle.std.proofs.lemmas.Option.{slice_get-get_or}
use Rattle.block_passes.specs.Keys.{rows_with_number}
use Rattle.block_passes.specs.Numbering.{AreNumbered, AreNumbers, IsNumbered, KeepNumbers, no_number, number_among}
use Rattle.block_passes.specs.NumberingLaws.{given_more, numbered_more, numbered-rows, place-within}
use Rattle.file_reader.specs.Words.{TableRow, with_ids}
use Rattle.file_reader.specs.Takers.{IsTaken}
use Rattle.value_pool.specs.Pool.{with_text, PoolState, place_among}
use Rattle.value_pool.proofs.PlaceLemmas.{at-place, held-turned}
use Rattle.std.proofs.Math.Seq.{get_or-append_seam, take-append_seam}
use Rattle.std.proofs.Math.ListN.{get_or-append}
use Rattle.link_base.specs.Words.{Record, id_at, id_alone, ids_alone, absent_value, no_record, and_then, IsAnswer, Refuses, is_want}
use Rattle.link_base.specs.declared.rule.RuleCell.{RuleCell}
use Rattle.link_base.specs.declared.shares.FieldShares.{FieldShares}
use Rattle.comparators.specs.declared.ids.IdValue.{IdValue}
use Rattle.decision_rule.specs.Filled.{IsFilled, IsLeast}
use Rattle.level_frontier.specs.Frontier.{FallsTo, IsFrontierRow, IsNearLeast}
use Rattle.level_frontier.specs.declared.levels.FrontierRow.{FrontierRow}
use Rattle.link_report.specs.LinksText.{text_of_frontier, text_of_rule, outcome_letters, links_header, source_of_link, text_of_links, is_priced, price_row, price_rows, prices_header, text_of_prices}
use Rattle.patterns.specs.Patterns.{rare_in}
use Rattle.link_plan.specs.Plan.{FieldKeys, PlainShares}
use Rattle.link_plan.specs.declared.plan.Plan.{Plan}
use Rattle.standard_files.specs.Ready.{AreFileSides}
use Rattle.link_core.specs.Rules.{IsFrontierText, IsRuleText, shared_rares, IsDecidedIn, rule_in, IsPreparedFor}
use Rattle.std.specs.Fmt.{signed_decimal}
use Rattle.csv.specs.Writing.{default_writer, row_text}
use Rattle.link_base.specs.declared.rule.Candidate.{Candidate}
use Rattle.link_report.specs.PairsText.{decision_word, pairs_header, printed_verdict, text_of_pairs}
use Rattle.link_report.specs.ReportText.{cause_of_drop, level_lines, line, link_lines, pair_lines, text_of_report}
use Rattle.link_report.specs.declared.open.PairRow.{PairRow}
use Rattle.link_report.specs.declared.report.Dropped.{Dropped}
use Rattle.link_report.specs.declared.report.Report.{Report}
use Rattle.price_check.specs.Assignment.{Certifies, IsGreatest, IsWithin}
use Rattle.candidate_links.specs.PassLaws.{not_more}
use Rattle.candidate_links.specs.Candidates.{AreCandidates, candidates_of, dropped, dropped_of, is_chosen, IsChoice}
use Rattle.candidate_links.specs.declared.choice.ChosenLinks.{ChosenLinks}
use Rattle.review_journal.specs.declared.entry.Entry.{Entry}
use Rattle.link_core.specs.Prepared.{PreparedView, kinds_of}
use Rattle.link_core.specs.Results.{AreRunTexts, AreTextsBy, candidates_in, compared_in, IsBegun, IsDecidedFor, IsPlaced, KeepsRows, pair_rows_in, RunTexts, with_links}
use Rattle.link_base.specs.declared.fault.Fault.{Fault}
use Rattle.review_journal.specs.Batch.{added, batch_fault, entry_after, ok_unless, with_verdicts, NamesRecords}
use Rattle.review_journal.specs.Verdict.{IsWithinFiles}
use Rattle.review_journal.specs.declared.batch.NewVerdict.{NewVerdict}
use Rattle.comparators.specs.Fields.{StandsFor}
use Rattle.value_forms.specs.Canons.{exact}
use Rattle.value_forms.specs.declared.canons.CompareKind.{CompareKind}
use Rattle.link_plan.specs.Ranges.{KeepsRanges}
use Rattle.standard_files.specs.Files.{AreOfPlan}
use Rattle.link_core.proofs.StepLemmas.{plan_rows}
use Rattle.link_base.specs.declared.fault.Fault.TheVariants as fault
use Rattle.comparators.specs.declared.ids.IdValue.TheVariants as id

-- The rows with the same field, listed pair by pair, are the pairs of the column.

pairs_on : (a b : List (List ℕ)) (at : ℕ) (fields : List (List ℕ)) → ((k : ℕ) → get_or a (at + k) [] ≡ get_or fields k [])
    → pairs_from at (matched_rows fields b) ≡ filter (is_column_pair a b) (product_from (length b) at (length fields))
pairs_on a b at [] are = refl
pairs_on a b at (field ∷ fields) are =
    let p = is_column_pair a b in
    let later : (k : ℕ) → get_or a ((at + 1) + k) [] ≡ get_or fields k [] = λ k. let next : (at + 1) + k ≡ at + suc k = omega arith in ap (λ n. get_or a n []) next ∙ are (suc k) in
    let first : get_or a at [] ≡ field = let start : at ≡ at + 0 = omega arith in ap (λ n. get_or a n []) start ∙ are zero in
    let here : map (pair at) (rows_with_field b field) ≡ filter p (pairs_of_row at 0 (length b)) =
    ap (λ f. map (pair at) (rows_with_field b f)) (sym first) ∙ row-pairs p at 0 (length b) in
    ap (λ ps. ps ++ pairs_from (at + 1) (matched_rows fields b)) here
    ∙ ap (λ ps. filter p (pairs_of_row at 0 (length b)) ++ ps) (pairs_on a b (at + 1) fields later)
    ∙ sym (filter-append p (pairs_of_row at 0 (length b)) (product_from (length b) (at + 1) (length fields)))

-- the pairs of the matched rows are those with the same field
pub columns_paired : (a b : List (List ℕ)) → pairs_from 0 (matched_rows a b) ≡ column_pairs a b
columns_paired a b = pairs_on a b 0 a (λ k. let same : 0 + k ≡ k = omega arith in ap (λ n. get_or a n []) same)

-- the pairs of a row, and those of the rows after it
rows_from : (rows : List (List ℕ)) (at : ℕ) (bs : List ℕ) → at < length rows → bs ≡ get_or rows at [] → pairs_from at (drop at rows) ≡ map (pair at) bs ++ pairs_from (at + 1) (drop (at + 1) rows)
rows_from rows at bs lt is = ap (pairs_from at) (drop_more rows at [] lt) ∙ ap (λ row. map (pair at) row ++ pairs_from (at + 1) (drop (at + 1) rows)) (sym is)

-- one row more of the pairs that are told
pub row_told : (rows : List (List ℕ)) (at : ℕ) (bs : List ℕ) (old new : List PairAt) → at < length rows → bs ≡ get_or rows at [] → new ≡ old ++ map (pair at) bs
    → old ++ pairs_from at (drop at rows) ≡ pairs_from 0 rows → new ++ pairs_from (at + 1) (drop (at + 1) rows) ≡ pairs_from 0 rows
row_told rows at bs old new lt is kept told =
    let rest = pairs_from (at + 1) (drop (at + 1) rows) in
    ap (λ ps. ps ++ rest) kept ∙ append_assoc old (map (pair at) bs) rest ∙ ap (λ ps. old ++ ps) (sym (rows_from rows at bs lt is)) ∙ told

-- all rows are told
pub all_told : (rows : List (List ℕ)) (at : ℕ) (pairs : List PairAt) → length rows ≤ at → length pairs ≤ MOST_PAIRS
    → pairs ++ pairs_from at (drop at rows) ≡ pairs_from 0 rows → pairs_within (pairs_from 0 rows) ≡ Ok pairs
all_told rows at pairs past few told =
    let all : pairs ≡ pairs_from 0 rows = sym (append-nil pairs) ∙ ap (λ rest. pairs ++ pairs_from at rest) (sym (drop_all at rows past)) ∙ told in
    ap pairs_within (sym all) ∙ within_limit pairs few

-- with the next row the pairs are too many
pub too_many_told : (rows : List (List ℕ)) (at : ℕ) (bs : List ℕ) (pairs : List PairAt) → at < length rows → bs ≡ get_or rows at [] → MOST_PAIRS < length pairs + length bs
    → pairs ++ pairs_from at (drop at rows) ≡ pairs_from 0 rows → pairs_within (pairs_from 0 rows) ≡ Err (fault.TooManyPairs MOST_PAIRS)
too_many_told rows at bs pairs lt is many told =
    let row = map (pair at) bs in
    let rest = pairs_from (at + 1) (drop (at + 1) rows) in
    let both = ap length (sym told) ∙ ap (λ ps. length (pairs ++ ps)) (rows_from rows at bs lt is) in
    past_limit (pairs_from 0 rows) (omega (arith, many, both, length-append pairs (row ++ rest), length-append row rest, length-map bs (pair at)))

-- The number of a field that is taken is the place of its text, and texts that are taken keep their numbers.

pub present_is : (field : List ℕ) → (length field ≡ 0 → ⊥) → present field ≡ Some field
present_is [] some = absurd (some refl)
present_is (byte ∷ bytes) some = refl

-- a text that is taken stands among the others
pub taken_within : (old : PoolState) (new : List (List ℕ)) (text : List ℕ) → new ≡ with_text old text → place_among new text < length new
taken_within old new text is = rw (is, held-turned text old.texts) (place-within old.texts text)

-- at the place that it was given
pub taken_place : (old : PoolState) (new : List (List ℕ)) (text : List ℕ) (id : ℕ) → new ≡ with_text old text
    → ((a b : ℕ) → a < length new → slice_get new a ≡ slice_get new b → a ≡ b) → slice_get new id ≡ Some text → id ≡ place_among new text
taken_place old new text id is same found =
    let within = taken_within old new text is in
    let reads : slice_get new (place_among new text) ≡ Some text = slice_get-get_or new (place_among new text) [] within ∙ ap Some (sym (at-place new text within)) in
    sym (same (place_among new text) id within (reads ∙ sym found))

pub kept_on : (old mid new : List (List ℕ)) → KeepNumbers old mid → KeepNumbers mid new → KeepNumbers old new
kept_on old mid new first second code h =
    let one = first code h in
    let two = second code one.1 in
    (two.0 ∙ one.0, two.1)

-- the numbers of the fields of rows of one, where one row more is taken

module _ (texts : List (List ℕ)) (f g : ℕ → Option (List ℕ)) (n : ℕ) (same : (k : ℕ) → k < n → f k ≡ g k) where
  numbers_same : (numbers : List ℕ) → AreNumbers texts f n numbers → AreNumbers texts g n numbers
  numbers_same numbers h = (h.0, λ k lt. h.1 k lt ∙ ap (number_among texts) (same k lt))

  numbered_same : AreNumbered texts f n → AreNumbered texts g n
  numbered_same h = λ k lt. subst (IsNumbered texts) (same k lt) (h k lt)

pub row_numbered : (before old new : PoolState) (rows : List (List (List ℕ))) (row : List (List ℕ)) (numbers more : List ℕ) (number : ℕ)
    → NumbersRows before rows old numbers → length (only_field row) ≤ MOST_FIELD_BYTES → new.limit ≡ old.limit → new.used ≤ old.used + length (only_field row)
    → KeepNumbers old.texts new.texts → number ≡ number_among new.texts (present (only_field row)) → IsNumbered new.texts (present (only_field row))
    → more ≡ numbers ++ number ∷ [] → NumbersRows before (rows ++ row ∷ []) new more
row_numbered before old new rows row numbers more number h short limit used kept is known grown =
    let n = length rows in
    let fields = map only_field rows in
    let all = rows ++ row ∷ [] in
    let code = compared_field (map only_field all) in
    let both : map only_field all ≡ fields ++ only_field row ∷ [] = map-append only_field rows (row ∷ []) in
    let wide : length fields ≡ n = length-map rows only_field in
    let count : length all ≡ n + 1 = length-append rows (row ∷ []) in
    let first : (k : ℕ) → k < n → compared_field fields k ≡ code k = λ k lt. ap present (sym (ap (λ xs. get_or xs k []) both ∙ get_or-append fields (only_field row ∷ []) [] k (omega (arith, wide, lt)))) in
    let last : present (only_field row) ≡ code n =
    ap present (sym (ap (λ xs. get_or xs n []) both ∙ ap (λ k. get_or (fields ++ only_field row ∷ []) k []) (sym wide) ∙ get_or-append_seam fields (only_field row) [] [])) in
    let known_first = numbered_same old.texts (compared_field fields) code n first h.numbered in
    let told = given_more old.texts new.texts code n numbers more number kept known_first (numbers_same old.texts (compared_field fields) code n first numbers h.numbers) grown (is ∙ ap (number_among new.texts) last) in
    let known_all = numbered_more old.texts new.texts code n kept known_first (subst (IsNumbered new.texts) last known) in
    record {
      room = h.room;
      limit = limit ∙ h.limit;
      used = omega (arith, used, h.used, short, count);
      kept = kept_on before.texts old.texts new.texts h.kept kept;
      numbers = subst (λ m. AreNumbers new.texts code m more) (sym count) told;
      numbered = subst (λ m. AreNumbered new.texts code m) (sym count) known_all;
    }

-- no row is taken yet
pub none_numbered : (pool : PoolState) → pool.used + MOST_ROWS * MOST_FIELD_BYTES ≤ pool.limit → NumbersRows pool [] pool []
none_numbered pool room = record {
  room = room;
  limit = refl;
  used = omega arith;
  kept = λ code h. (refl, h);
  numbers = (refl, λ k lt. absurd (omega (arith, lt)));
  numbered = λ k lt. absurd (omega (arith, lt));
}

-- the fields of the rows of a table without ids are those of the rows that were taken
first_fields : (rows : List (List (List ℕ))) (ids : List (List ℕ)) → map first_field (with_ids rows ids) ≡ map only_field rows
first_fields [] ids = refl
first_fields (row ∷ rows) [] = ap (λ fields. only_field row ∷ fields) (first_fields rows [])
first_fields (row ∷ rows) (id ∷ ids) = ap (λ fields. only_field row ∷ fields) (first_fields rows ids)

pub column_taken : (has_id : Bool) (most : ℕ) (old new : PoolState) (numbers : List ℕ) (expected column : Result (List TableRow) Fault) (ids : List (List ℕ)) (count : ℕ)
    → expected ≡ column → most ≤ MOST_ROWS → IsTaken has_id most (λ rows. NumbersRows old rows new numbers) expected ids count
    → (fields : List (List ℕ)) × (and_then column (λ rows. Ok (map first_field rows)) ≡ Ok fields) × NumbersFields old new fields numbers
column_taken has_id most old new numbers expected column ids count is few h =
    let taken = h.taken in
    let fields = map only_field h.rows in
    let wide : length fields ≡ length h.rows = length-map h.rows only_field in
    let told : and_then column (λ rows. Ok (map first_field rows)) ≡ Ok fields =
    ap (λ (r : Result (List TableRow) Fault). and_then r (λ rows. Ok (map first_field rows))) (sym is ∙ h.table) ∙ ap Ok (first_fields h.rows ids) in (
      fields,
      told,
      record {
        few = omega (arith, wide, h.as_many, h.few, few);
        limit = taken.limit;
        used = omega (arith, taken.used, h.as_many, h.few, few);
        kept = taken.kept;
        numbers = subst (λ n. AreNumbers new.texts (compared_field fields) n numbers) (sym wide) taken.numbers;
        numbered = subst (λ n. AreNumbered new.texts (compared_field fields) n) (sym wide) taken.numbered;
      },
    )

mapped_both : (f : ℕ → List ℕ) (g : List ℕ → List ℕ) (numbers : List ℕ) (fields : List (List ℕ)) → length numbers ≡ length fields
    → ((j : ℕ) → j < length fields → f (get_or numbers j 0) ≡ g (get_or fields j [])) → map f numbers ≡ map g fields
mapped_both f g [] [] len same = refl
mapped_both f g [] (field ∷ fields) len same = absurd (omega (arith, len))
mapped_both f g (n ∷ numbers) [] len same = absurd (omega (arith, len))
mapped_both f g (n ∷ numbers) (field ∷ fields) len same =
    let rest = mapped_both f g numbers fields (omega (arith, len)) (λ j lt. same (suc j) (omega (arith, lt))) in
    rw (same zero (omega arith), rest) refl

-- the rows of B with the number of a field of A are those with the field
pub rows_matched : (mid texts a b : List (List ℕ)) (numbers_a numbers_b : List ℕ) → length texts ≤ no_number
    → AreNumbers mid (compared_field a) (length a) numbers_a → AreNumbered mid (compared_field a) (length a) → KeepNumbers mid texts
    → AreNumbers texts (compared_field b) (length b) numbers_b → AreNumbered texts (compared_field b) (length b)
    → map (rows_with_number numbers_b (length texts)) numbers_a ≡ matched_rows a b
rows_matched mid texts a b numbers_a numbers_b few told_a known_a kept told_b known_b =
    let number : (j : ℕ) → j < length a → get_or numbers_a j 0 ≡ number_among texts (compared_field a j) = λ j lt. told_a.1 j lt ∙ sym (kept (compared_field a j) (known_a j lt)).0 in
    mapped_both (rows_with_number numbers_b (length texts)) (rows_with_field b) numbers_a a told_a.0
    (λ j lt.
    ap (rows_with_number numbers_b (length texts)) (number j lt)
    ∙ numbered-rows texts few numbers_b (compared_field b) (length b) told_b.0 told_b.1 known_b (compared_field a j))

-- the fields of both columns are known
pub columns_read : (x : Result (List (List ℕ)) Fault) (y : Result (List (List ℕ)) Fault) (a b : List (List ℕ)) → x ≡ Ok a → y ≡ Ok b
    → and_then {A = List (List ℕ) × List (List ℕ)} (and_then x (λ u. and_then y (λ v. Ok (u, v)))) (λ both. Ok (matched_rows both.0 both.1)) ≡ Ok (matched_rows a b)
columns_read x y a b of_a of_b = rw (of_a, of_b) refl

-- the pairs of the rows that match are those of the column
pub columns_matched : (x : Result (List (List ℕ) × List (List ℕ)) Fault) (rows : List (List ℕ)) → and_then x (λ both. Ok (matched_rows both.0 both.1)) ≡ Ok rows
    → and_then x (λ both. pairs_of_fields both.0 both.1) ≡ pairs_within (pairs_from 0 rows)
columns_matched (Ok both) rows e =
    let same : matched_rows both.0 both.1 ≡ rows = cc in
    ap pairs_within (sym (columns_paired both.0 both.1) ∙ ap (pairs_from 0) same)
columns_matched (Err f) rows e = absurd (cc)

-- a fault of the columns is one of their pairs
pub columns_refused : (x : Result (List (List ℕ) × List (List ℕ)) Fault) (f : Fault) → Refuses (and_then x (λ both. Ok (matched_rows both.0 both.1))) f
    → Refuses (and_then x (λ both. pairs_of_fields both.0 both.1)) f
columns_refused x f h = by (is_want f) x h
  where
    by : (free : Bool) (y : Result (List (List ℕ) × List (List ℕ)) Fault) → MatchBool free ⊤ (and_then y (λ both. Ok (matched_rows both.0 both.1)) ≡ Err f)
        → MatchBool free ⊤ (and_then y (λ both. pairs_of_fields both.0 both.1) ≡ Err f)
    by true y h = tt
    by false (Ok both) h = absurd (cc)
    by false (Err g) h = let same : g ≡ f = cc in ap Err same

-- The sides of prepared files are those that the comparators of a plan take.

-- the sides of all rows of a file
pub sides_of_plan : (texts : List (List ℕ)) (n : ℕ) (fields : List FieldKeys) (file : List Record) (rows : List (List IdValue)) → n ≡ length texts → AreFileSides texts (map (λ (f : FieldKeys). f.compare) fields) file rows → All (AreSidesOf n fields) rows
sides_of_plan texts n fields file rows many h k d within =
    let P : ℕ → Type 0 = λ m. AreSidesOf m fields (get_or rows k d) in
    let Q : List IdValue → Type 0 = λ sides. AreSidesOf (length texts) fields sides in
    let row = h.of_row k (omega (arith, h.as_many)) in
    subst P (sym many) (subst Q (get_or_default rows k [] d within) (sides_of_fields texts fields _ (get_or rows k []) row.as_many row.stand row.valid))

-- what is seen of shares tells in which fields a rare value is an outcome
pub rares_seen : (all : List FieldShares) → shared_rares (plain_all all) ≡ rare_in all
rares_seen [] = refl
rares_seen (s ∷ all) = ap (λ rares. s.rare ∷ rares) (rares_seen all)

-- a text of these cells is the text of the plan's rule
pub rule_text_is : {E : Type 0} (result : Result (List ℕ) E) (plan : Plan) (shares : List PlainShares) (by_shares : List FieldShares) (cells : List RuleCell) (rares : List Bool)
    → plain_all by_shares ≡ shares → IsFilled by_shares plan.terms.mu_ppm plan.terms.lambda_ppm cells → IsLeast by_shares cells → rares ≡ rares_of plan.fields
    → IfOk result (λ text. text ≡ text_of_rule rares cells) → IfOk result (IsRuleText plan shares)
rule_text_is (Ok text) plan shares by_shares cells rares same filled least flags told =
    record { cells = cells; rule = record { by_shares = by_shares; same = same; filled = filled }; least = least; lines = told ∙ ap (λ rs. text_of_rule rs cells) flags }
rule_text_is (Err e) plan shares by_shares cells rares same filled least flags told = tt

-- a slice of all of a vector, written back
pub written_whole : {X : Type 0} (xs ys : List X) (n : ℕ) → n ≡ length xs → take n (xs ++ ys) ≡ xs
written_whole xs ys n e = rw e (take-append_seam xs ys)

-- a text of these rows is the text of the plan's frontier
pub frontier_text_is : {E : Type 0} (result : Result (List ℕ) E) (plan : Plan) (shares : List PlainShares) (by_shares : List FieldShares) (mus : List ℕ) (rows written : List FrontierRow)
    → plain_all by_shares ≡ shares → length rows ≡ length mus → written ≡ rows
    → ((k : ℕ) (d : FrontierRow) → k < length mus → IsFrontierRow by_shares (slice_index mus k) plan.terms.lambda_ppm (get_or rows k d))
    → ((j k : ℕ) (d : FrontierRow) → j < length mus → k < length mus → slice_index mus j ≤ slice_index mus k → FallsTo (get_or rows j d) (get_or rows k d))
    → ((k : ℕ) (d : FrontierRow) → k < length mus → IsNearLeast by_shares (slice_index mus k) plan.terms.lambda_ppm (get_or rows k d))
    → IfOk result (λ text. text ≡ text_of_frontier mus written) → IfOk result (IsFrontierText plan shares mus)
frontier_text_is (Ok text) plan shares by_shares mus rows written same many is each falling near told =
    record { by_shares = by_shares; same = same; rows = rows; as_many = many; each = each; falling = falling; near_least = near; lines = told ∙ ap (λ rs. text_of_frontier mus rs) is }
frontier_text_is (Err e) plan shares by_shares mus rows written same many is each falling near told = tt

-- The texts of a run read no more of records than their ids.

pub length_alone : (records : List Record) → length (ids_alone records) ≡ length records
length_alone records = length-map records id_alone

id_stays : (records : List Record) (at : ℕ) → id_at (ids_alone records) at ≡ id_at records at
id_stays [] at = refl
id_stays (r ∷ rest) zero = refl
id_stays (r ∷ rest) (suc at) = id_stays rest at

pub pairs_stay : (rares : List Bool) (a b : List Record) (rows : List PairRow) → text_of_pairs rares (ids_alone a) (ids_alone b) rows ≡ text_of_pairs rares a b rows
pairs_stay rares a b rows i =
    row_text default_writer pairs_header
    ++ flat_map (λ (row : PairRow). row_text default_writer (id_stays a row.at.a i ∷ id_stays b row.at.b i ∷ decimal row.pattern ∷ outcome_letters rares row.pattern
    ∷ signed_decimal row.weight ∷ decision_word row.decision ∷ printed_verdict row.verdict ∷ [])) rows

pub links_stay : (a b : List Record) (links : List Candidate) → text_of_links (ids_alone a) (ids_alone b) links ≡ text_of_links a b links
links_stay a b links i =
    row_text default_writer links_header
    ++ flat_map (λ (link : Candidate). row_text default_writer (id_stays a link.a i ∷ id_stays b link.b i ∷ signed_decimal link.weight ∷ signed_decimal link.value
    ∷ source_of_link link.reviewed ∷ [])) links

row_stays : (side : List ℕ) (told : Bool) (p q : ℤ × Record) (xs ys : List (ℤ × Record)) → price_row side p ≡ price_row side q → flat_map (price_row side) xs ≡ flat_map (price_row side) ys
    → flat_map (price_row side) (if told then p ∷ xs else xs) ≡ flat_map (price_row side) (if told then q ∷ ys else ys)
row_stays side true p q xs ys same rest i = same i ++ rest i
row_stays side false p q xs ys same rest i = rest i

rows_stay : (side : List ℕ) (prices : List ℤ) (file : List Record) → price_rows side prices (ids_alone file) ≡ price_rows side prices file
rows_stay side [] file = refl
rows_stay side (price ∷ prices) [] = refl
rows_stay side (price ∷ prices) (r ∷ file) = row_stays side (is_priced (price, r)) (price, id_alone r) (price, r) _ _ refl (rows_stay side prices file)

pub prices_stay : (prices_a prices_b : List ℤ) (a b : List Record) → text_of_prices prices_a prices_b (ids_alone a) (ids_alone b) ≡ text_of_prices prices_a prices_b a b
prices_stay prices_a prices_b a b i =
    row_text default_writer prices_header ++ (rows_stay (codes "A") prices_a a i ++ rows_stay (codes "B") prices_b b i)

pub report_stays : (a b : List Record) (r : Report) → text_of_report (ids_alone a) (ids_alone b) r ≡ text_of_report a b r
report_stays a b r i =
    concat ((line (codes "rows") (decimal (length_alone a i) ∷ decimal (length_alone b i) ∷ [])
    ∷ line (codes "unreadable") (decimal r.unreadable_a ∷ decimal r.unreadable_b ∷ []) ∷ []) ++ pair_lines r ++ level_lines r.levels ++ link_lines r)
    ++ flat_map (λ (d : Dropped). row_text default_writer (id_stays a d.at.a i ∷ id_stays b d.at.b i ∷ cause_of_drop d.conflict ∷ [])) r.dropped.items

pub if_ok : {T E : Type 0} (P Q : T → Type 0) (r : Result T E) → ((x : T) → P x → Q x) → IfOk r P → IfOk r Q
if_ok P Q (Ok x) h p = h x p
if_ok P Q (Err f) h p = tt

-- the candidates among decided pairs are those of the files
module _ (plan : Plan) (p : PreparedView) (d : DecidedView) (entries : List Entry) where
  abbrev Wanted : List Candidate
  Wanted = candidates_in plan p.files (rule_in p d) entries

  abbrev Over : List (List IdValue) → List (List IdValue) → List Candidate → Type 0
  Over ra rb cs = (pairs : List PairAt) → AreDecisionsOn ra rb pairs d → AreCandidates (length ra) (length rb) (candidates_of (side_rule d.rule ra rb) entries plan.terms.award pairs) cs

  pub candidates_found : (ra rb : List (List IdValue)) (cs : List Candidate) → ra ≡ p.values.a.rows → rb ≡ p.values.b.rows → IsDecidedIn p d → IsDecidedFor plan p d → Over ra rb cs
      → AreCandidates (length p.files.a.records) (length p.files.b.records) Wanted cs
  candidates_found ra rb cs ea eb inside of_plan h =
      let over_a : Over p.values.a.rows rb cs = subst (λ r. Over r rb cs) ea h in
      let over : Over p.values.a.rows p.values.b.rows cs = subst (λ r. Over p.values.a.rows r cs) eb over_a in
      let found = over (compared_in plan p.files) of_plan.decisions in
      let found_b = subst (λ n. AreCandidates (length p.values.a.rows) n Wanted cs) inside.rows_b found in
      subst (λ n. AreCandidates n (length p.files.b.records) Wanted cs) inside.rows_a found_b

-- candidates as they are handed over, with the numbers of rows that are asked for
pub handed : (rows_a rows_b n m : ℕ) (wanted cs given : List Candidate) → n ≡ rows_a → m ≡ rows_b → given ≡ cs → AreCandidates rows_a rows_b wanted cs → AreCandidates n m wanted given
handed rows_a rows_b n m wanted cs given of_a of_b is found =
    subst (λ x. AreCandidates x m wanted given) (sym of_a) (subst (λ x. AreCandidates rows_a x wanted given) (sym of_b) (subst (λ (xs : List Candidate). AreCandidates rows_a rows_b wanted xs) (sym is) found))

-- links and dropped candidates stand in the files, by what holds of each candidate
of_links : (P : Candidate → Type 0) (candidates links : List Candidate) → All P candidates → All (Contains candidates) links → All P links
of_links P candidates links all among = All-weaker (Contains candidates) P (λ c h. All-contains P candidates c all h) links among

of_dropped : (P : Dropped → Type 0) (candidates links : List Candidate) → All (λ c. P (dropped c)) candidates → All P (dropped_of candidates links)
of_dropped P candidates links all =
    All-map P dropped (filter (λ c. not (is_chosen links c)) candidates) (All-filter (λ c. not (is_chosen links c)) (λ c. P (dropped c)) candidates all)

-- a choice among the candidates of files stands in them
pub choice_placed : (rows_a rows_b : ℕ) (wanted cs : List Candidate) (k : ChosenLinks) → AreCandidates rows_a rows_b wanted cs → IsChoice rows_a rows_b cs k → IsPlaced rows_a rows_b k
choice_placed rows_a rows_b wanted cs k found chosen =
    let one = chosen.greatest.one_to_one in
    let in_a : All (λ (c : Candidate). c.a < rows_a) cs = All-weaker (IsWithin rows_a rows_b) (λ (c : Candidate). c.a < rows_a) (λ c h. h.0) cs found.within in
    let in_b : All (λ (c : Candidate). c.b < rows_b) cs = All-weaker (IsWithin rows_a rows_b) (λ (c : Candidate). c.b < rows_b) (λ c h. h.1) cs found.within in
    let most = not_more cs k.links.items (record { rising = found.rising; links_rise = one.rising; among = one.among }) in
    record {
      few = omega (arith, most, found.few);
      in_a = of_links (λ l. l.a < rows_a) cs k.links.items in_a one.among;
      in_b = of_links (λ l. l.b < rows_b) cs k.links.items in_b one.among;
      left_a = subst (λ (ds : List Dropped). All (λ d. d.at.a < rows_a) ds) (sym chosen.dropped) (of_dropped (λ d. d.at.a < rows_a) cs k.links.items in_a);
      left_b = subst (λ (ds : List Dropped). All (λ d. d.at.b < rows_b) ds) (sym chosen.dropped) (of_dropped (λ d. d.at.b < rows_b) cs k.links.items in_b);
    }

-- the texts by ids are those of a run over the files
pub run_texts : (plan : Plan) (p : PreparedView) (d : DecidedView) (entries : List Entry) (a b : List Record) (found : List Candidate) (begun : Report) (texts : RunTexts)
    → a ≡ ids_alone p.files.a.records → b ≡ ids_alone p.files.b.records → found ≡ candidates_in plan p.files (rule_in p d) entries
    → IsBegun plan p.files (rule_in p d) entries begun → KeepsRows plan p d → AreTextsBy plan a b found d entries begun texts
    → AreRunTexts plan p.files (rule_in p d) entries texts
run_texts plan p d entries a b found begun texts of_a of_b same is_begun rows told =
    let chosen = told.chosen in
    let facts = told.choice in
    let links = chosen.links.items in
    let all_a = p.files.a.records in
    let all_b = p.files.b.records in
    let rares = rares_of plan.fields in
    record {
      links = links;
      prices_a = chosen.prices_a.items;
      prices_b = chosen.prices_b.items;
      report = with_links begun chosen;
      greatest = subst (λ (cs : List Candidate). IsGreatest cs links) same facts.greatest;
      certified = subst (λ (cs : List Candidate). Certifies cs links chosen.prices_a.items chosen.prices_b.items) same facts.certified;
      priced_a = facts.priced_a ∙ ap (λ (file : List Record). length file) of_a ∙ length_alone all_a;
      priced_b = facts.priced_b ∙ ap (λ (file : List Record). length file) of_b ∙ length_alone all_b;
      reported = record {
        unreadable_a = is_begun.unreadable_a;
        unreadable_b = is_begun.unreadable_b;
        pairs = is_begun.pairs;
        link = is_begun.link;
        possible = is_begun.possible;
        nonlink = is_begun.nonlink;
        undecided = is_begun.undecided;
        entries_ = is_begun.entries_;
        idle = is_begun.idle;
        levels = is_begun.levels;
        links_ = refl;
        total = facts.total;
        dropped = facts.dropped ∙ ap (λ (cs : List Candidate). dropped_of cs links) same;
      };
      pairs_text = told.pairs_text ∙ (λ i. text_of_pairs rares (of_a i) (of_b i) (shown_rows d.rule.cells entries (rows i)))
          ∙ pairs_stay rares all_a all_b (pair_rows_in plan p.files (rule_in p d) entries);
      rule_text = told.rule_text;
      links_text = told.links_text ∙ (λ i. text_of_links (of_a i) (of_b i) links) ∙ links_stay all_a all_b links;
      prices_text = told.prices_text ∙ (λ i. text_of_prices chosen.prices_a.items chosen.prices_b.items (of_a i) (of_b i)) ∙ prices_stay chosen.prices_a.items chosen.prices_b.items all_a all_b;
      report_text = told.report_text ∙ (λ i. text_of_report (of_a i) (of_b i) (with_links begun chosen)) ∙ report_stays all_a all_b (with_links begun chosen);
    }

-- candidates as they are wanted are so among themselves
pub as_they_are : (rows_a rows_b : ℕ) (wanted cs : List Candidate) → AreCandidates rows_a rows_b wanted cs → AreCandidates rows_a rows_b cs cs
as_they_are rows_a rows_b wanted cs found = record { same = refl; few = found.few; rising = found.rising; within = found.within; small = found.small }

-- A journal with new verdicts, and its text.

ok_is : {A : Type 0} (f : Option Fault) (x y : A) → ok_unless f x ≡ Ok y → x ≡ y
ok_is None x y e = cc
ok_is (Some f) x y e = absurd (cc)

-- verdicts on pairs of two files leave entries on pairs of them
verdicts_within : (double : Bool) (date : ℤ) (reviewer : List ℕ) (rows_a rows_b : ℕ) (entries : List Entry) (batch : List NewVerdict)
    → All (IsWithinFiles rows_a rows_b) entries → All (NamesRecords rows_a rows_b) batch
    → All (IsWithinFiles rows_a rows_b) (with_verdicts double date reviewer entries batch)
verdicts_within double date reviewer rows_a rows_b entries [] h placed = h
verdicts_within double date reviewer rows_a rows_b entries (v ∷ vs) h placed =
    let first = placed 0 v (omega arith) in
    verdicts_within double date reviewer rows_a rows_b (entries ++ entry_after double date reviewer entries v ∷ []) vs
    (All-push (IsWithinFiles rows_a rows_b) entries (entry_after double date reviewer entries v) h (record { of_a = first.in_a; of_b = first.in_b }))
    (λ k d within. placed (suc k) d (omega arith))

pub added_within : (double : Bool) (date : ℤ) (reviewer : List ℕ) (possible : List PairAt) (rows_a rows_b : ℕ) (entries new : List Entry) (batch : List NewVerdict)
    → added double date reviewer possible entries batch ≡ Ok new → All (IsWithinFiles rows_a rows_b) entries → All (NamesRecords rows_a rows_b) batch
    → All (IsWithinFiles rows_a rows_b) new
added_within double date reviewer possible rows_a rows_b entries new batch is h placed =
    let P : List Entry → Type 0 = λ es. All (IsWithinFiles rows_a rows_b) es in
    subst P (ok_is (batch_fault entries batch date possible) _ new is) (verdicts_within double date reviewer rows_a rows_b entries batch h placed)

-- after a step that gave a value, the answer is that of the next, and the fault likewise
pub answer_next : {A B : Type 0} (x : Result A Fault) (next : A → Result B Fault) (value : A) (result : Result B Fault) → x ≡ Ok value → IsAnswer (next value) result → IsAnswer (and_then x next) result
answer_next {B = B} x next value result is h =
    let P : Result _ Fault → Type 0 = λ r. IsAnswer (and_then r next) result in
    subst P (sym is) h

pub refuses_next : {A B : Type 0} (x : Result A Fault) (next : A → Result B Fault) (value : A) (f : Fault) → x ≡ Ok value → Refuses (next value) f → Refuses (and_then x next) f
refuses_next x next value f is h =
    let P : Result _ Fault → Type 0 = λ r. Refuses (and_then r next) f in
    subst P (sym is) h

-- The sides of prepared files stand for the values of their records, so that the comparison patterns by ids are those of the records.

-- the sides of a file of a plan
stand_for : (plan : Plan) (texts : List (List ℕ)) (file : List Record) (rows : List (List IdValue)) → AreOfPlan plan file → AreFileSides texts (kinds_of plan) file rows → StandForFile texts plan.fields file rows
stand_for plan texts file rows of sides =
    let many : length (kinds_of plan) ≡ length plan.fields = length-map plan.fields (λ (f : FieldKeys). f.compare) in
    record {
      as_many = sides.as_many;
      values = λ at within. (plan_rows plan file of at no_record within).as_many ∙ many;
      sides = λ at within. (sides.of_row at within).as_many ∙ many;
      stand = λ k f lt. record {
        as_many = sides.as_many;
        stand = λ at within.
            subst (λ (kind : CompareKind). StandsFor texts kind (get_or (get_or file at no_record).row k absent_value) (get_or (get_or rows at []) k id.Absent))
            (get_or-map (λ (g : FieldKeys). g.compare) plan.fields k f exact lt)
            ((sides.of_row at within).stand k (omega (arith, many, lt)));
      };
    }

-- what the law `same_patterns` says of the texts of a pool
abbrev pub SamePatterns : List (List ℕ) → Type 0
SamePatterns texts =
    (plan : Plan) (a b : List Record) (rows_a rows_b : List (List IdValue)) → KeepsRanges plan → StandForFile texts plan.fields a rows_a → StandForFile texts plan.fields b rows_b
    → pattern_over (comparators_of (length texts) plan.fields rows_a rows_b) rows_a rows_b ≡ pattern_of_pair plan.fields a b

-- the patterns of prepared files are those of their records
pub patterns_are : (plan : Plan) (p : PreparedView) (texts : List (List ℕ)) (n : ℕ) (rows_a rows_b : List (List IdValue)) → KeepsRanges plan → IsPreparedFor plan p → SamePatterns texts
    → texts ≡ p.values.texts → n ≡ length p.values.texts → rows_a ≡ p.values.a.rows → rows_b ≡ p.values.b.rows
    → pattern_over (comparators_of n plan.fields rows_a rows_b) rows_a rows_b ≡ pattern_of_pair plan.fields p.files.a.records p.files.b.records
patterns_are plan p texts n rows_a rows_b ranges ready law of_texts many of_a of_b =
    let here : SamePatterns p.values.texts = subst SamePatterns of_texts law in
    (λ i. pattern_over (comparators_of (many i) plan.fields (of_a i) (of_b i)) (of_a i) (of_b i))
    ∙ here plan p.files.a.records p.files.b.records p.values.a.rows p.values.b.rows ranges
    (stand_for plan p.values.texts p.files.a.records p.values.a.rows ready.of_a ready.pooled.a.sides) (stand_for plan p.values.texts p.files.b.records p.values.b.rows ready.of_b ready.pooled.b.sides)
