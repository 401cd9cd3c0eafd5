-- Counts of pairs by status and outcome.
use Rattle.std.proofs.Common.{◌≡◌, ◌<◌, ◌≤◌, ◌+◌, ◌∷◌, ◌∙◌, ℕ, Bool, true, false, not, cond, List, [], length, map, take, get_or, sum, Option, sym, ap, arith, ◌&&◌, suc, Some, None, Result, Ok, refl, subst, if◌then◌else◌, ◌++◌, length-append, position, zero, ltb, eqb, ◌||◌, ◌-◌, ◌*◌, ◌%◌, is_eq}
use Rattle.std.specs.List.{All, filter, list_any, count_by, range_with_len, sum_by}
use Rattle.std.proofs.lemmas.List.{length-map, length-take}
use Rattle.std.proofs.lemmas.List.Sums.{length-filter, count_by-le-length, prefix_len-le-length, sum_by_more, sum_by-take-le, sum_by_push}
use Rattle.std.proofs.lemmas.List.Filters.{length-filter_more}
use Rattle.link_limits.specs.declared.TheConstants.{MOST_ROWS}
use Rattle.patterns.specs.Patterns.{pattern_count_by, digit_of, AreSides}
use Rattle.sample_counts.specs.declared.counts.Judged.{Judged}
use Rattle.sample_counts.specs.declared.reviewed.Reviewed.{Reviewed}
use Rattle.sample_counts.specs.CountLaws.{all-digits, some-matched, some-unmatched, filter-cons, quotas_le}
use Rattle.sample_counts.specs.Counts.{AreJudged, digit_in, has_status, is_digit, AreOutcomeCounts, CountsState, is_reviewed_as, judged_by, outcome_in, same_outcome}
use Rattle.link_base.specs.declared.fault.Fault.{Fault}
use Rattle.link_base.specs.declared.rule.Outcome.{Outcome}
use Rattle.link_base.specs.declared.rule.Outcome.TheVariants.{Missing, Rare}
use Rattle.patterns.specs.PatternLaws.{outcome-pattern}
use Rattle.sample_counts.specs.Sample.{IsInFiles, field_at, is_matched_by, named_pair, reviewed_row, is_pair}
use Rattle.link_base.specs.Words.{and_then, Refuses, Record, refuses_then}
use Rattle.link_base.specs.declared.fault.Fault.TheVariants as fault
use Rattle.link_base.specs.declared.fault.FileRole.TheVariants as role
use Rattle.file_reader.specs.Words.{or_fault, pair_in}
use Rattle.std.specs.BTreeMap.{BTreeMap, get, Updates}
use Rattle.std.proofs.lemmas.Bool.Decides.{nat_tests}
use Rattle.std.proofs.lemmas.List.Folds.{position_or_len_push}
use Rattle.std.proofs.lemmas.List.Quantifiers.{position-Some}
use Rattle.sample_counts.specs.Places.{HasPlaces, pair_cmp}
use mir.Val.{bool_byte}
use Rattle.sample_counts.specs.Remainders.{is_ahead, quota_of, spread_of}

pub filter-le : (p : Judged → Bool) (rows : List Judged) (n : ℕ) → length rows ≤ n → length (filter p rows) ≤ n
filter-le p rows n h = omega (arith, length-filter p rows, count_by-le-length p rows, h)

four-sum : (w x y z : ℕ) → sum (w ∷ x ∷ y ∷ z ∷ []) ≡ w + x + y + z
four-sum w x y z = grind arith

pub are-judged : (rares : List Bool) (judged : Reviewed → Judged) (same : (r : Reviewed) → (judged r).matched ≡ r.matched) (sample : List Reviewed) (rows : List Judged) → rows ≡ map judged sample → length sample ≤ MOST_ROWS → list_any (λ (r : Reviewed). r.matched) sample ≡ true → list_any (λ (r : Reviewed). not r.matched) sample ≡ true → All (λ (row : Judged). row.pattern < pattern_count_by rares) rows → AreJudged rares rows
are-judged rares judged same sample rows is few m u fit =
    let long : length rows ≡ length sample = ap length is ∙ length-map sample judged in
    record {
      few = omega arith;
      matched = rw is (some-matched judged same sample m);
      unmatched = rw is (some-unmatched judged same sample u);
      in_shape = fit;
    }

pub some-of : (rares : List Bool) (rows : List Judged) (matched : Bool) → AreJudged rares rows → 1 ≤ length (filter (has_status matched) rows)
some-of rares rows true h = h.matched
some-of rares rows false h = h.unmatched

pub total-of : (rares : List Bool) (field : ℕ) (matched : Bool) (rows : List Judged) (w x y z : ℕ) → ((k : ℕ) → k < 4 → get_or (w ∷ x ∷ y ∷ z ∷ []) k 0 ≡ length (filter (λ row. is_digit k (digit_in rares field matched row)) rows)) → sum (w ∷ x ∷ y ∷ z ∷ []) ≡ length (filter (has_status matched) rows)
total-of rares field matched rows w x y z h =
    let count = λ (k : ℕ). length (filter (λ row. is_digit k (digit_in rares field matched row)) rows) in
    let a : w ≡ count 0 = h 0 (omega arith) in
    let b : x ≡ count 1 = h 1 (omega arith) in
    let c : y ≡ count 2 = h 2 (omega arith) in
    let d : z ≡ count 3 = h 3 (omega arith) in
    omega (arith, four-sum w x y z, all-digits rares field matched rows, a, b, c, d)

-- one pair more
pub tally-step : (class : Judged → Option ℕ) (rows : List Judged) (i : ℕ) (d : Judged) (before after k : ℕ) (digit : Option ℕ) → i < length rows → before ≡ length (filter (λ row. is_digit k (class row)) (take i rows)) → after ≡ before + cond (is_digit k digit) 1 0 → digit ≡ class (get_or rows i d) → after ≡ length (filter (λ row. is_digit k (class row)) (take (i + 1) rows))
tally-step class rows i d before after k digit within is_before is_after is_digit_of =
    let more = length-filter_more (λ row. is_digit k (class row)) rows i d within in
    is_after ∙ (λ j. is_before j + cond (is_digit k (is_digit_of j)) 1 0) ∙ sym more

pub front-le : (p : Judged → Bool) (rows : List Judged) (i n : ℕ) → length rows ≤ n → length (filter p (take i rows)) ≤ n
front-le p rows i n h = filter-le p (take i rows) n (omega (arith, length-take i rows))

-- Counts of patterns are counts of outcomes.

digit_test : (s : Bool) (o wanted : Outcome) → is_digit (digit_of wanted) (if s then Some (digit_of o) else None) ≡ (s && same_outcome o wanted)
digit_test true o wanted = refl
digit_test false o wanted = refl

-- as many rows of sides as records
pub inside_sides : (sample : List Reviewed) (m n k l : ℕ) → k ≡ m → l ≡ n → All (IsInFiles m n) sample → All (IsInFiles k l) sample
inside_sides sample m n k l a b inside = rw (a, b) inside

module _ (p : Judged → Bool) (q : Reviewed → Bool) (judged : Reviewed → Judged) where
  -- a test of judged pairs that goes by one of reviewed pairs holds as often
  filter-judged : (sample : List Reviewed) → All (λ (r : Reviewed). p (judged r) ≡ q r) sample → length (filter p (map judged sample)) ≡ length (filter q sample)
  filter-judged [] all = refl
  filter-judged (r ∷ sample) all =
      omega (arith, filter-cons p (judged r) (map judged sample), filter-cons q r sample, ap {B = ℕ} (λ b. cond b 1 0) (all 0 r (omega arith)), filter-judged sample (λ k d h. all (suc k) d (omega arith)))

module _ {C S : Type 0} (rare : C → Bool) (outcome : C → S → S → Outcome) (valid : C → S → Type 0) (only_rare : (c : C) (x y : S) → outcome c x y ≡ Rare → rare c ≡ true) (kinds : List C) (of_a of_b : List (List S)) (sides_a : All (AreSides valid kinds) of_a) (sides_b : All (AreSides valid kinds) of_b) where
  -- the digit of a pair's pattern is the outcome of its rows
  pair_digit : (field : ℕ) (matched : Bool) (wanted : Outcome) (r : Reviewed) → field < length kinds → IsInFiles (length of_a) (length of_b) r → is_digit (digit_of wanted) (digit_in (map rare kinds) field matched (judged_by rare outcome kinds of_a of_b r)) ≡ (is_reviewed_as matched r && same_outcome (outcome_in outcome kinds of_a of_b field r) wanted)
  pair_digit field matched wanted r within inside =
      let row_a = sides_a r.a [] inside.of_a in
      let row_b = sides_b r.b [] inside.of_b in
      let digit = outcome-pattern only_rare kinds (get_or of_a r.a []) (get_or of_b r.b []) row_a.as_many row_b.as_many field Missing within in
      rw digit (digit_test (is_reviewed_as matched r) (outcome_in outcome kinds of_a of_b field r) wanted)

  counted_outcomes : (sample : List Reviewed) (counts : CountsState) → All (IsInFiles (length of_a) (length of_b)) sample → counts.rares ≡ map rare kinds → counts.rows ≡ map (judged_by rare outcome kinds of_a of_b) sample → AreOutcomeCounts outcome kinds of_a of_b sample counts
  counted_outcomes sample counts inside rares rows field matched wanted within =
      (λ i. length (filter (λ row. is_digit (digit_of wanted) (digit_in (rares i) field matched row)) (rows i)))
      ∙ filter-judged
      (λ row. is_digit (digit_of wanted) (digit_in (map rare kinds) field matched row))
      (λ r. is_reviewed_as matched r && same_outcome (outcome_in outcome kinds of_a of_b field r) wanted)
      (judged_by rare outcome kinds of_a of_b) sample (λ k d h. pair_digit field matched wanted (get_or sample k d) within (inside k d h))

  -- the counts of the sample that was read are those of its outcomes
  pub read_outcomes : (read : Result (List Reviewed) Fault) (kept sample : List Reviewed) (counts : CountsState) → read ≡ Ok kept → All (IsInFiles (length of_a) (length of_b)) kept → counts.rares ≡ map rare kinds → counts.rows ≡ map (judged_by rare outcome kinds of_a of_b) kept → read ≡ Ok sample → AreOutcomeCounts outcome kinds of_a of_b sample counts
  read_outcomes read kept sample counts is_kept inside rares rows is_sample =
      let same : kept ≡ sample = cc in
      let Are : List Reviewed → Type 0 = λ s. AreOutcomeCounts outcome kinds of_a of_b s counts in
      subst Are same (counted_outcomes kept counts inside rares rows)

-- Rows of a sample one by one.

module _ (a b : List Record) where
  found_status : (fields : List (List ℕ)) (status : List ℕ) (matched : Bool) → status ≡ field_at fields 2 → Some matched ≡ is_matched_by status → is_matched_by (field_at fields 2) ≡ Some matched
  found_status fields status matched es em = ap is_matched_by (sym es) ∙ sym em

  named_refused : (number : ℕ) (fields : List (List ℕ)) (status : List ℕ) (matched : Bool) (f : Fault) → status ≡ field_at fields 2 → Some matched ≡ is_matched_by status → Refuses (named_pair a b number fields matched) f → Refuses (reviewed_row a b number fields) f
  named_refused number fields status matched f es em h = subst (λ (o : Option Bool). Refuses (and_then (or_fault (fault.BadStatus number) o) (named_pair a b number fields)) f) (sym (found_status fields status matched es em)) h

  pub pair_refused : (number : ℕ) (fields : List (List ℕ)) (status id_a id_b : List ℕ) (matched : Bool) (f : Fault) → status ≡ field_at fields 2 → id_a ≡ field_at fields 0 → id_b ≡ field_at fields 1
      → Some matched ≡ is_matched_by status → Refuses (pair_in role.Sample number id_a id_b a b) f → Refuses (reviewed_row a b number fields) f
  pair_refused number fields status id_a id_b matched f es ea eb em h =
      let told = rw (ea, eb) at h in
      named_refused number fields status matched f es em (refuses_then (pair_in role.Sample number (field_at fields 0) (field_at fields 1) a b) _ f told)

-- the places of distinct pairs, and one pair more
tested : (x y : ℕ) (r : Reviewed) → is_eq (pair_cmp (r.a, r.b) (x, y)) ≡ is_pair x y r
tested x y r = grind (arith, nat_tests)

position-new : (test : Reviewed → Bool) (xs : List Reviewed) (x : Reviewed) → test x ≡ true → position test xs ≡ None → position test (xs ++ x ∷ []) ≡ Some (length xs)
position-new test xs x is none =
    grind (arith, nat_tests, position_or_len_push test xs x, prefix_len-le-length (λ y. not (test y)) xs, length-append xs (x ∷ []))

position-other : (test : Reviewed → Bool) (xs : List Reviewed) (x : Reviewed) → test x ≡ false → position test (xs ++ x ∷ []) ≡ position test xs
position-other test xs x is = grind (arith, nat_tests, position_or_len_push test xs x, length-append xs (x ∷ []))

-- a place that was given is one of a pair so far
pub place_within : (places : BTreeMap (ℕ × ℕ) ℕ) (done : List Reviewed) (a b place : ℕ) → HasPlaces places done → Some place ≡ get pair_cmp places (a, b) → place < length done
place_within places done a b place placed is = (position-Some (is_pair a b) done place (record { a = 0; b = 0; matched = true }) (sym (is ∙ placed a b))).0

module _ (old new : BTreeMap (ℕ × ℕ) ℕ) (done : List Reviewed) (r : Reviewed) (place : ℕ) (placed : HasPlaces old done) (at_end : place ≡ length done) (absent : get pair_cmp old (r.a, r.b) ≡ None) (updates : Updates pair_cmp old new (r.a, r.b) (Some place)) where
  place_now : (x y : ℕ) (test : Bool) → is_pair x y r ≡ test → get pair_cmp new (x, y) ≡ (if test then Some place else get pair_cmp old (x, y))
  place_now x y test is = updates.0 (x, y) ∙ ap (λ t. if t then Some place else get pair_cmp old (x, y)) (tested x y r ∙ is)

  found : (x y : ℕ) (test : Bool) → is_pair x y r ≡ test → get pair_cmp new (x, y) ≡ position (is_pair x y) (done ++ r ∷ [])
  found x y true is =
      let same_a : x ≡ r.a = grind (arith, nat_tests) in
      let same_b : y ≡ r.b = grind (arith, nat_tests) in
      let none : position (is_pair x y) done ≡ None = sym (placed x y) ∙ (λ i. get pair_cmp old (same_a i, same_b i)) ∙ absent in
      place_now x y true is ∙ ap Some at_end ∙ sym (position-new (is_pair x y) done r is none)
  found x y false is = place_now x y false is ∙ placed x y ∙ sym (position-other (is_pair x y) done r is)

  pub places_push : HasPlaces new (done ++ r ∷ [])
  places_push x y = found x y (is_pair x y r) refl

-- What is left, and who is ahead, one outcome more.

pub range_push : (a n : ℕ) → range_with_len a (n + 1) ≡ range_with_len a n ++ (a + n) ∷ []
range_push a zero = ap (λ k. k ∷ []) (omega arith)
range_push a (suc n) =
    let e : suc n + 1 ≡ suc (n + 1) = omega arith in
    let f : a + 1 + n ≡ a + suc n = omega arith in
    ap (range_with_len a) e ∙ ap (λ l. a ∷ l) (range_push (a + 1) n ∙ ap (λ k. range_with_len (a + 1) n ++ k ∷ []) f)

pub left_step : (counts : List ℕ) (i left : ℕ) → 1 ≤ sum counts → i < length counts → left + sum_by (quota_of counts) (take i counts) ≡ spread_of counts → (quota_of counts (get_or counts i 0) ≤ left) × ((left - quota_of counts (get_or counts i 0)) + sum_by (quota_of counts) (take (i + 1) counts) ≡ spread_of counts)
left_step counts i left some lt e =
    let more = sum_by_more (quota_of counts) counts i 0 lt in
    let most = sum_by-take-le (quota_of counts) counts (i + 1) in
    let all = quotas_le counts some in
    (omega (arith, more, most, all, e), omega (arith, more, most, all, e))

pub count_more : (p : ℕ → Bool) (k : ℕ) → count_by p (range_with_len 0 (k + 1)) ≡ count_by p (range_with_len 0 k) + cond (p k) 1 0
count_more p k =
    let e : range_with_len 0 (k + 1) ≡ range_with_len 0 k ++ k ∷ [] = range_push 0 k ∙ ap (λ n. range_with_len 0 k ++ n ∷ []) (omega arith) in
    ap (count_by p) e ∙ sum_by_push (λ n. cond (p n) 1 0) (range_with_len 0 k) k

byte_is : (b : Bool) → bool_byte b ≡ cond b 1 0
byte_is true = refl
byte_is false = refl

byte_small : (b : Bool) → bool_byte b ≤ 1
byte_small true = omega arith
byte_small false = omega arith

pub ahead_step : (counts : List ℕ) (i k n ahead : ℕ) (b : Bool) (x : ℕ) → n ≡ sum counts → b ≡ (ltb (spread_of counts * get_or counts i 0 % n) (spread_of counts * get_or counts k 0 % n) || (eqb (spread_of counts * get_or counts k 0 % n) (spread_of counts * get_or counts i 0 % n) && ltb k i)) → x ≡ bool_byte b → ahead ≤ k → ahead ≡ count_by (is_ahead counts i) (range_with_len 0 k) → (ahead + x ≤ k + 1) × (ahead + x ≡ count_by (is_ahead counts i) (range_with_len 0 (k + 1)))
ahead_step counts i k n ahead b x e eb ex le h =
    let same : b ≡ is_ahead counts i k = rw e at eb in
    let is : x ≡ cond (is_ahead counts i k) 1 0 = ex ∙ byte_is b ∙ ap (λ t. cond t 1 0) same in
    (omega (arith, ex, byte_small b), omega (arith, is, h, count_more (is_ahead counts i) k))
