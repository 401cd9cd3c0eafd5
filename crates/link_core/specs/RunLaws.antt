-- Laws of what a run writes: it is small enough to be verified, and its candidates stand in its files.
use Rattle.std.proofs.Common.{◌≡◌, ◌∷◌, ◌∙◌, ℕ, List, [], length, Option, Some, None, Result, Ok, Err, ap, sym, refl, ◌≤◌, get_or, subst, arith, All, AllPairs, ◌≢◌, IsTrue, is_some, ◌<◌, ◌+◌, ◌^◌, map, ◌≤ℤ◌}
use Rattle.std.proofs.lemmas.List.{length-map, get_or-map}
use Rattle.file_reader.specs.Words.{records_in, IsWholeTable, taken, unless_fault, IsTextRow, table_of, table_is_whole, table_sound, heading_under, Wanted, TableRow, no_row}
use Rattle.link_base.specs.Words.{and_then, HaveDistinctIds, Record, empty_cell}
use Rattle.link_base.specs.declared.fault.Fault.{Fault}
use Rattle.link_base.specs.declared.fault.FileRole.{FileRole}
use Rattle.link_plan.specs.Within.{plan_within}
use Rattle.link_plan.specs.declared.plan.Plan.{Plan}
use Rattle.standard_files.specs.Files.{sorts_a, sorts_b, standard_file, standard_files, standard_pair, StandardFile, StandardPair, table_a, table_b, wanted_a, wanted_b}
use Rattle.standard_files.specs.Values.{standard_record, standard_records}
use Rattle.standard_files.specs.declared.sorts.TextSort.{TextSort}
use Rattle.standard_files.specs.Sides.{pooled_texts}
use Rattle.link_core.specs.Prepared.{kinds_of, prepared, with_fault}
use Rattle.std.proofs.lemmas.List.Elements.{All-map, All-weaker, All-from_get_or}
use Rattle.link_base.specs.declared.tables.Tables.{Tables}
use Rattle.link_limits.specs.declared.TheConstants.{MOST_FIELD_BYTES, MOST_ROWS, GREATEST_WEIGHT, LEAST_WEIGHT, MOST_FIELDS, MOST_PATTERNS}
use Rattle.review_journal.specs.Reading.{IsIdText}
use Rattle.written_check.specs.Laws.{HasShortId, IsSmallFile, AreSmallCells, HasAllowedWeight, IsSmallCell, AreCandidatesOf}
use Rattle.std.specs.List.{cons_option, enumerate_from, range_with_len}
use Rattle.std.proofs.Math.Nat.{pow-le-pow_right}
use Rattle.std.proofs.lemmas.Int.{ints}
use Rattle.std.proofs.lemmas.List.FromFn.{get_or-map-range_with_len, length-enumerate_from, length-map-range_with_len}
use Rattle.std.proofs.lemmas.List.Sorted.{All-permutation}
use Rattle.candidate_links.specs.CandidateLaws.{candidate_stands, given_rise, given_within}
use Rattle.candidate_links.specs.Candidates.{candidate_of, HasBounds}
use Rattle.decision_rule.specs.FilledLaws.{length_filled}
use Rattle.decision_rule.specs.Filled.{Chances, chances_at, chances_of, IsFilled}
use Rattle.link_base.specs.declared.rule.RuleCell.{RuleCell}
use Rattle.link_base.specs.declared.shares.FieldShares.{FieldShares}
use Rattle.pair_decisions.specs.Words.{compared_inside, compared_rise, FileRule, pattern_of_pair, rares_of, IsRuleOf, counts_by_pattern, given_in, shares_at}
use Rattle.patterns.specs.PatternLaws.{m_of_small, pattern_count_small, u_of_small, weight_range}
use Rattle.patterns.specs.Patterns.{pattern_count_of}
use Rattle.price_check.specs.Verdict.{HasAllowedValue}
use Rattle.review_journal.specs.declared.entry.Entry.{Entry}
use Rattle.sample_counts.specs.Sample.{sample_of}
use Rattle.link_plan.specs.Plan.{FieldKeys, plain_shares, PlainShares}
use Rattle.link_core.specs.Results.{candidates_in, compared_in}
use Rattle.link_core.specs.Rules.{counted_by}
use Rattle.link_base.specs.declared.fault.FileRole.TheVariants as role

-- Laws of a file that is read as both files of a plan: it has as many records as itself.

abbrev pub okay : (T : Type 0) → T → Result T Fault
okay T x = Ok x

pub ok_is : (T : Type 0) (x y : T) → okay T x ≡ okay T y → x ≡ y
ok_is T x y e = cc e

-- a chain that came to a value came to one at its first step
pub came : (A B : Type 0) (r : Result A Fault) (f : A → Result B Fault) (y : B) → and_then r f ≡ Ok y → (x : A) × (r ≡ Ok x) × (f x ≡ Ok y)
came A B (Ok x) f y e = (x, refl, e)
came A B (Err g) f y e = absurd (cc e)

-- a table has a row for each record under its header
whole_rows : (r s : FileRole) (v w : Wanted) (records : List (List (List ℕ))) (t u : List TableRow) → IsWholeTable r v records t → IsWholeTable s w records u → length t ≡ length u
whole_rows r s v w [] t u h g = absurd h
whole_rows r s v w (header ∷ rows) t u h g =
    ap (λ (x : List TableRow). length x) h.1.all ∙ length-map rows (taken (heading_under r v header))
    ∙ sym (length-map rows (taken (heading_under s w header))) ∙ sym (ap (λ (x : List TableRow). length x) g.1.all)

-- a file in standard values has the rows of its table
pub unless_is : (o : Option Fault) (x y : StandardFile) → unless_fault o (Ok x) ≡ Ok y → x ≡ y
unless_is None x y e = ok_is StandardFile x y e
unless_is (Some f) x y e = absurd (cc e)

file_rows : (r : FileRole) (plan : Plan) (sorts : List TextSort) (table : List TableRow) (file : StandardFile) → standard_file r plan sorts table ≡ Ok file → length file.records ≡ length table
file_rows r plan sorts table file e =
    ap (λ (f : StandardFile). length f.records) (sym (unless_is _ _ file e)) ∙ length-map table (standard_record plan.tables sorts)

pair_rows : (plan : Plan) (t u : List TableRow) (files : StandardPair) → length u ≡ length t → standard_pair plan t u ≡ Ok files → length files.b.records ≡ length files.a.records
pair_rows plan t u files same e =
    let of_a = came StandardFile StandardPair (standard_file role.A plan (sorts_a plan) t) _ files e in
    let of_b = came StandardFile StandardPair (standard_file role.B plan (sorts_b plan) u) _ files of_a.2 in
    let is = ok_is StandardPair (record { a = of_a.0; b = of_b.0 }) files of_b.2 in
    ap (λ (p : StandardPair). length p.b.records) (sym is) ∙ file_rows role.B plan (sorts_b plan) u of_b.0 of_b.1 ∙ same
    ∙ sym (file_rows role.A plan (sorts_a plan) t of_a.0 of_a.1) ∙ ap (λ (p : StandardPair). length p.a.records) is

pub same_rows : (plan : Plan) (limit : ℕ) (bytes : List ℕ) (files : StandardPair) → prepared (plan_within plan) limit bytes bytes ≡ Ok files → length files.b.records ≡ length files.a.records
same_rows plan limit bytes files e =
    let w = plan_within plan in
    let read = came StandardPair StandardPair (standard_files w bytes bytes) _ files e in
    let of_a = came (List TableRow) StandardPair (table_a w bytes) _ read.0 read.1 in
    let of_b = came (List TableRow) StandardPair (table_b w bytes) _ read.0 of_a.2 in
    let records = records_in plan.delimiter_a bytes in
    let same : length of_b.0 ≡ length of_a.0 =
    whole_rows role.B role.A (wanted_b w) (wanted_a w) records of_b.0 of_a.0 (table_is_whole role.B (wanted_b w) records of_b.0 of_b.1) (table_is_whole role.A (wanted_a w) records of_a.0 of_a.1) in
    let room = came (List (List ℕ)) StandardPair (with_fault (pooled_texts limit (kinds_of w) w.passes read.0.a.records read.0.b.records)) _ files read.2 in
    let is = ok_is StandardPair read.0 files room.2 in
    ap (λ (v : StandardPair). length v.b.records) (sym is) ∙ pair_rows w of_a.0 of_b.0 read.0 same of_b.2 ∙ ap (λ (v : StandardPair). length v.a.records) is

-- Laws of the records of prepared files (`prepared`), by their bytes alone: they are not too many, and their ids are distinct texts as tables
-- have them.

pub record IsReadFile (file : List Record) : Type 0 where
  pub small : IsSmallFile file
  pub texts : All IsIdText file
  pub distinct : HaveDistinctIds file

pub record AreReadFiles (files : StandardPair) : Type 0 where
  pub of_a : IsReadFile files.a.records
  pub of_b : IsReadFile files.b.records

-- the id of a row is a text
not_empty : (id : List ℕ) → id ≢ [] → 1 ≤ length id
not_empty [] none = absurd (none refl)
not_empty (byte ∷ bytes) none = omega arith

-- records have the ids of their rows
distinct_records : (t : Tables) (sorts : List TextSort) (table : List TableRow) → AllPairs (λ (x y : TableRow). x.id ≢ y.id) table → HaveDistinctIds (standard_records t sorts table)
distinct_records t sorts table distinct i j d lt within same =
    let many : length (standard_records t sorts table) ≡ length table = length-map table (standard_record t sorts) in
    let at_i : get_or (standard_records t sorts table) i d ≡ standard_record t sorts (get_or table i no_row) = get_or-map (standard_record t sorts) table i no_row d (omega (arith, many)) in
    let at_j : get_or (standard_records t sorts table) j d ≡ standard_record t sorts (get_or table j no_row) = get_or-map (standard_record t sorts) table j no_row d (omega (arith, many)) in
    distinct i j no_row lt (omega (arith, many)) (ap (λ (r : Record). r.id) (sym at_i) ∙ same ∙ ap (λ (r : Record). r.id) at_j)

read_file : (r : FileRole) (wanted : Wanted) (records : List (List (List ℕ))) (table : List TableRow) (plan : Plan) (sorts : List TextSort) (file : StandardFile)
    → IsTrue (is_some wanted.id) → wanted.most ≤ MOST_ROWS → table_of r wanted records ≡ Ok table → standard_file r plan sorts table ≡ Ok file → IsReadFile file.records
read_file r wanted records table plan sorts file has_id most read made =
    let sound = table_sound r wanted records table read in
    let is = ap (λ (f : StandardFile). f.records) (unless_is _ _ file made) in
    let whole : IsReadFile (standard_records plan.tables sorts table) = record {
      small = record {
        few = omega (arith, length-map table (standard_record plan.tables sorts), sound.few, most);
        ids = All-map HasShortId (standard_record plan.tables sorts) table (All-weaker IsTextRow (λ (x : TableRow). length x.id ≤ MOST_FIELD_BYTES) (λ x h. h.id.short) table sound.texts);
      };
      texts = All-map IsIdText (standard_record plan.tables sorts) table (λ k d within.
          let id = (sound.texts k d within).id in record { some = not_empty _ (sound.ids has_id k d within); few = id.short; text = id.utf8 });
      distinct = distinct_records plan.tables sorts table (sound.distinct has_id);
    } in
    subst IsReadFile is whole

pub read_files : (plan : Plan) (limit : ℕ) (bytes_a bytes_b : List ℕ) (files : StandardPair) → prepared plan limit bytes_a bytes_b ≡ Ok files → AreReadFiles files
read_files plan limit bytes_a bytes_b files e =
    let read = came StandardPair StandardPair (standard_files plan bytes_a bytes_b) _ files e in
    let of_a = came (List TableRow) StandardPair (table_a plan bytes_a) _ read.0 read.1 in
    let of_b = came (List TableRow) StandardPair (table_b plan bytes_b) _ read.0 of_a.2 in
    let a = came StandardFile StandardPair (standard_file role.A plan (sorts_a plan) of_a.0) _ read.0 of_b.2 in
    let b = came StandardFile StandardPair (standard_file role.B plan (sorts_b plan) of_b.0) _ read.0 a.2 in
    let pair : StandardPair = record { a = a.0; b = b.0 } in
    let pair_is = ok_is StandardPair pair read.0 b.2 in
    let room = came (List (List ℕ)) StandardPair (with_fault (pooled_texts limit (kinds_of plan) plan.passes read.0.a.records read.0.b.records)) _ files read.2 in
    let is = ok_is StandardPair read.0 files room.2 in
    let made : AreReadFiles pair = record {
      of_a = read_file role.A (wanted_a plan) (records_in plan.delimiter_a bytes_a) of_a.0 plan (sorts_a plan) a.0 refl (omega arith) of_a.1 a.1;
      of_b = read_file role.B (wanted_b plan) (records_in plan.delimiter_b bytes_b) of_b.0 plan (sorts_b plan) b.0 refl (omega arith) of_b.1 b.1;
    } in
    let of_pair : AreReadFiles read.0 = subst AreReadFiles {x = pair} {y = read.0} pair_is made in
    subst AreReadFiles {x = read.0} {y = files} is of_pair

-- chances of a pattern of six fields at most
record AreSmall (ch : Chances) : Type 0 where
  pattern : ch.pattern < MOST_PATTERNS
  m : ch.m < 2 ^ 64
  u : ch.u < 2 ^ 64
  weight_low : LEAST_WEIGHT ≤ℤ ch.weight
  weight_high : ch.weight ≤ℤ GREATEST_WEIGHT

module _ (shares : List FieldShares) (few : length shares ≤ 6) where
  chances_small : (pattern : ℕ) → pattern < pattern_count_of shares → AreSmall (chances_at shares pattern)
  chances_small pattern lt =
      let most : 1024 ^ length shares ≤ 1024 ^ 6 = pow-le-pow_right {n = 1024} (omega arith) few in
      let range = weight_range shares pattern lt in
      record {
        pattern = omega (arith, lt, pattern_count_small shares few);
        m = omega (arith, m_of_small shares pattern lt, most);
        u = omega (arith, u_of_small shares pattern lt, most);
        weight_low = omega (arith, ints, range.0, few);
        weight_high = omega (arith, ints, range.1, few);
      }

  all_small : All AreSmall (map (chances_at shares) (range_with_len 0 (pattern_count_of shares)))
  all_small =
      All-from_get_or AreSmall (map (chances_at shares) (range_with_len 0 (pattern_count_of shares))) (chances_of empty_cell)
      (λ k lt. let n = pattern_count_of shares in
      let in_range : k < n = omega (arith, lt, length-map-range_with_len (chances_at shares) 0 n) in
      rw (get_or-map-range_with_len (chances_at shares) 0 n k k (chances_of empty_cell) in_range (omega arith)) (chances_small k in_range))

  cells_small : (mu_ppm lambda_ppm : ℕ) (cells : List RuleCell) → IsFilled shares mu_ppm lambda_ppm cells → All IsSmallCell cells
  cells_small mu_ppm lambda_ppm cells filled k d lt =
      let all = All-permutation AreSmall _ _ filled.patterns all_small in
      let there : k < length (map chances_of cells) = omega (arith, lt, length-map cells chances_of) in
      let here : AreSmall (chances_of (get_or cells k d)) = subst AreSmall (get_or-map chances_of cells k d (chances_of d) lt) (all k (chances_of d) there) in
      record {
        pattern = here.pattern;
        m = here.m;
        u = here.u;
        ranges = record { weight_low = here.weight_low; weight_high = here.weight_high; shares = filled.rule k d lt };
      }

-- the cells of a plan's rule
pub small_cells : (plan : Plan) (shares : List PlainShares) (cells : List RuleCell) → length shares ≤ MOST_FIELDS → length plan.fields ≤ MOST_FIELDS → IsRuleOf plan shares cells → AreSmallCells (rares_of plan.fields) cells
small_cells plan shares cells few fields rule =
    let by = rule.by_shares in
    let same : length by ≡ length shares = sym (length-map by plain_shares) ∙ ap (λ (s : List PlainShares). length s) rule.same in
    let by_few : length by ≤ 6 = omega (arith, same, few) in
    record {
      fields = omega (arith, length-map plan.fields (λ (f : FieldKeys). is_some f.rare), fields);
      few = omega (arith, length_filled by cells rule.filled.patterns, pattern_count_small by by_few);
      each = cells_small by by_few plan.terms.mu_ppm plan.terms.lambda_ppm cells rule.filled;
    }

-- candidates stand in the files, and are worth no more than they may
module _ (plan : Plan) (files : StandardPair) (rule : FileRule) (entries : List Entry) where
  pub candidates_are : AreReadFiles files → plan.terms.award ≤ 1000 → All (HasBounds plan.terms.award) (candidates_in plan files rule entries) → AreCandidatesOf files.a.records files.b.records (candidates_in plan files rule entries)
  candidates_are read award bounds =
      let stands = candidate_stands rule entries plan.terms.award in
      record {
        distinct_a = read.of_a.distinct;
        distinct_b = read.of_b.distinct;
        rising = given_rise (candidate_of rule entries plan.terms.award) stands (compared_in plan files) (compared_rise files.a.records files.b.records plan.passes);
        within = given_within (candidate_of rule entries plan.terms.award) stands (length files.a.records) (length files.b.records) (compared_in plan files)
            (compared_inside files.a.records files.b.records plan.passes);
        allowed = All-weaker (HasBounds plan.terms.award) HasAllowedValue (λ c b. (omega (arith, ints, b.value_low), omega (arith, ints, b.value_high, award))) (candidates_in plan files rule entries) bounds;
      }

  pub weights_are : All (HasBounds plan.terms.award) (candidates_in plan files rule entries) → All HasAllowedWeight (candidates_in plan files rule entries)
  weights_are bounds =
      All-weaker (HasBounds plan.terms.award) HasAllowedWeight (λ c b. (omega (arith, ints, b.weight_low), omega (arith, ints, b.weight_high))) (candidates_in plan files rule entries) bounds

-- a plan has no more shares than fields
given_or : {Y : Type 0} (o : Option Y) (ys : List Y) (n : ℕ) → length ys ≤ n → length (cons_option o ys) ≤ n + 1
given_or None ys n h = omega (arith, h)
given_or (Some y) ys n h = omega (arith, h)

pub given_few : (fields : List FieldKeys) → length (given_in fields) ≤ length fields
given_few [] = omega arith
given_few (f ∷ fields) = omega (arith, given_or f.shares (given_in fields) (length fields) (given_few fields))

pub counted_few : (plan : Plan) (files : StandardPair) (bytes : List ℕ) (shares : List PlainShares) → counted_by plan files bytes ≡ Ok shares → length shares ≤ length plan.fields
counted_few plan files bytes shares e =
    let sample = came _ (List PlainShares) (sample_of files.a.records files.b.records (records_in 44 bytes)) _ shares e in
    let is = ok_is (List PlainShares) _ shares sample.2 in
    let rares = rares_of plan.fields in
    let counts = counts_by_pattern rares (pattern_of_pair plan.fields files.a.records files.b.records) sample.0 in
    let many : length shares ≡ length (enumerate_from 0 rares) = ap (λ (s : List PlainShares). length s) (sym is) ∙ length-map (enumerate_from 0 rares) (shares_at counts) in
    omega (arith, many, length-enumerate_from 0 rares, length-map plan.fields (λ (f : FieldKeys). is_some f.rare))
