-- The rows of written files that are verified, and written files with such rows.
use Rattle.std.proofs.Common.{◌≡◌, ◌<◌, ◌≤◌, ◌≤ℤ◌, ◌+ℤ◌, ◌+◌, ◌==◌, ◌∷◌, ◌++◌, ◌∙◌, ℕ, ℤ, pos, zero, suc, Bool, true, false, List, [], All, length, drop, get_or, if◌then◌else◌, map, Option, Some, None, Ok, Err, refl, sym, ap, subst, arith, bytes_eq, codes, decimal, filter, not, replicate, slice_set, zip, int_eq}
use Rattle.std.proofs.lemmas.Bool.{and_parts, eqb-true, not-false}
use Rattle.std.proofs.lemmas.Bool.Decides.{Decides-int_eq}
use Rattle.std.proofs.lemmas.Int.{ints}
use Rattle.std.proofs.lemmas.List.{append_assoc, append-nil, length-replicate, length-set}
use Rattle.std.proofs.lemmas.List.Elements.{All-replicate, All-set}
use Rattle.std.proofs.lemmas.List.Quantifiers.{position-Some}
use Rattle.std.proofs.lemmas.Option.{cond_some, same_Some}
use Rattle.std.proofs.lemmas.Slice.Eq.{bytes_eq-Decides}
use Rattle.file_reader.specs.Words.{records_in}
use Rattle.link_base.specs.Words.{and_then, id_at, no_record, position_of_id, Record}
use Rattle.link_base.specs.declared.rule.Candidate.{Candidate}
use Rattle.link_base.specs.declared.rule.RuleCell.{RuleCell}
use Rattle.link_limits.specs.declared.TheConstants.{MOST_VALUE}
use Rattle.link_report.specs.LinksText.{is_priced, price_fields, prices_header, cell_fields, rule_header}
use Rattle.link_report.specs.Reading.{first_misfit, rows_of_prices, rows_under, side_rows}
use Rattle.price_check.specs.Assignment.{IsCovered, price_sum, worth}
use Rattle.price_check.specs.Law.{GreatestValueIsLeast, PricesAreBoundedByCandidates}
use Rattle.written_check.proofs.LinkLemmas.{apart_none, all_fail, Row}
use Rattle.written_check.proofs.FormLemmas.{same_rows, none_of_none, price_is, some_price, came, links_are, ok_is, okay, rows_read, under_fit}
use Rattle.written_check.proofs.StepLemmas.{small_a, small_b, after_prices, apart_links, covered_so, sums_ok, unless_none}
use Rattle.written_check.proofs.WrittenLemmas.{DecimalsRead, links_read, no_difference, prices_read}
use Rattle.written_check.specs.Certified.{balanced, covered_then, first_uncovered, is_covered, ArePrices, have_none, no_prices, price_in, priced_at, priced_more, PricePair, prices_in, prices_verified, row_priced, side_priced, with_a, with_b}
use Rattle.written_check.specs.Laws.{HaveCertifiedRows, RowsAreVerified, VerifiedHaveRows}
use Rattle.written_check.specs.LinkRows.{apart_verified, links_in, links_verified, refuted_by, rows_of_file, unless_row, first_difference, rule_verified}
use Rattle.written_check.specs.declared.refutation.Refutation.{Refutation}
use Rattle.written_check.specs.declared.refutation.Refutation.TheVariants as refutation

-- ---- the rows of a rule

rule_rows : (rares : List Bool) (cells : List RuleCell) (text last : List ℕ) → rule_verified rares cells text ≡ Ok last → rows_under rule_header (records_in 44 text) ≡ Ok (map (cell_fields rares) cells)
rule_rows rares cells text last e =
    let wanted = map (cell_fields rares) cells in
    let read = came (rows_of_file refutation.Rule rule_header text) (λ rows. unless_row refutation.Rule text (first_difference 1 rows wanted)) last e in
    let rows : rows_under rule_header (records_in 44 text) ≡ Ok read.0 = rows_read (List Row) refutation.Rule (rows_under rule_header (records_in 44 text)) read.0 read.1 in
    rows ∙ ap (okay ℕ (List Row)) (same_rows 1 read.0 wanted (unless_none refutation.Rule text last (first_difference 1 read.0 wanted) read.2))

-- ---- rows that are read are as wide as their header

fits_if : (width number : ℕ) (row : Row) (rows : List Row) (t : Bool) → (length row == width) ≡ t → (if t then first_misfit width (number + 1) rows else Some number) ≡ None
    → (length row ≡ width) × (first_misfit width (number + 1) rows ≡ None)
fits_if width number row rows true is e = (eqb-true (length row) width is, e)
fits_if width number row rows false is e = absurd (cc e)

three : (row : Row) → length row ≡ 3 → row ≡ get_or row 0 [] ∷ get_or row 1 [] ∷ get_or row 2 [] ∷ []
three [] e = absurd (omega (arith, e))
three (x ∷ []) e = absurd (omega (arith, e))
three (x ∷ y ∷ []) e = absurd (omega (arith, e))
three (x ∷ y ∷ z ∷ []) e = refl
three (x ∷ y ∷ z ∷ w ∷ rest) e = absurd (omega (arith, e))

-- ---- the rows of the prices of a side

module _ (side : List ℕ) where
  abbrev told : Bool → ℤ → Record → List ℤ → List Record → List Row
  told t p r prices file = map (price_fields side) (if not t then (p, r) ∷ filter is_priced (zip prices file) else filter is_priced (zip prices file))

  -- prices of 0 have no row
  none_told : (prices : List ℤ) (file : List Record) → have_none prices ≡ true → side_rows side prices file ≡ []
  none_told [] file e = refl
  none_told (p ∷ prices) [] e = refl
  none_told (p ∷ prices) (r ∷ file) e =
      let parts = and_parts (int_eq p (pos 0)) (have_none prices) e in
      ap (λ (t : Bool). told t p r prices file) parts.0 ∙ none_told prices file parts.1

  put_later : (t : Bool) (p : ℤ) (r : Record) (prices more : List ℤ) (file : List Record) (row : Row) → side_rows side more file ≡ side_rows side prices file ++ row ∷ []
      → told t p r more file ≡ told t p r prices file ++ row ∷ []
  put_later true p r prices more file row go = go
  put_later false p r prices more file row go = ap (λ (rows : List Row). price_fields side (p, r) ∷ rows) go

  -- a price that is put after all that are not 0 has the last row
  put_told : (prices : List ℤ) (file : List Record) (at n : ℕ) → 1 ≤ n → at < length prices → length prices ≡ length file → have_none (drop at prices) ≡ true
      → side_rows side (slice_set prices at (pos n)) file ≡ side_rows side prices file ++ price_fields side (pos n, get_or file at no_record) ∷ []
  put_told [] file at n some within long none = absurd (omega (arith, within))
  put_told (p ∷ prices) [] at n some within long none = absurd (omega (arith, long))
  put_told (p ∷ prices) (r ∷ file) zero n some within long none =
      let parts = and_parts (int_eq p (pos 0)) (have_none prices) none in
      let row = price_fields side (pos n, r) in
      ap (λ (t : Bool). told t (pos n) r prices file) (some_price n some)
      ∙ ap (λ (rows : List Row). row ∷ rows) (none_told prices file parts.1)
      ∙ ap (λ (rows : List Row). rows ++ row ∷ []) (sym (none_told (p ∷ prices) (r ∷ file) none))
  put_told (p ∷ prices) (r ∷ file) (suc at) n some within long none =
      put_later (int_eq p (pos 0)) p r prices (slice_set prices at (pos n)) file (price_fields side (pos n, get_or file at no_record))
      (put_told prices file at n some (omega (arith, within)) (omega (arith, long)) none)

-- a row that is taken for a side is its last one
record SideTold (side : List ℕ) (file : List Record) (row : Row) (before after : List ℤ) : Type 0 where
  long : length after ≡ length before
  small : ArePrices before → ArePrices after
  rows : side_rows side after file ≡ side_rows side before file ++ (side ∷ get_or row 1 [] ∷ get_or row 2 [] ∷ []) ∷ []

known_there : (file : List Record) (id : List ℕ) (at : ℕ) → position_of_id id file ≡ Some at → (at < length file) × (id_at file at ≡ id)
known_there file id at e =
    let found = position-Some (λ (r : Record). bytes_eq id r.id) file at no_record e in
    (found.0, sym ((bytes_eq-Decides id (id_at file at)).0 found.1))

module _ (side : List ℕ) (file : List Record) (row : Row) (prices qs : List ℤ) (long : length prices ≡ length file) where
  side_by : (place price : Option ℕ) → position_of_id (get_or row 1 []) file ≡ place → price_in (get_or row 2 []) ≡ price → priced_at prices place price ≡ Some qs → SideTold side file row prices qs
  side_by None price is_at is_price e = absurd (cc e)
  side_by (Some at) None is_at is_price e = absurd (cc e)
  side_by (Some at) (Some n) is_at is_price e =
      let set = cond_some (have_none (drop at prices)) (slice_set prices at (pos n)) qs e in
      let there = known_there file (get_or row 1 []) at is_at in
      let price = price_is (get_or row 2 []) n is_price in
      let put = put_told side prices file at n price.0 (omega (arith, there.0, long)) long set.0 in
      let id : id_at file at ≡ get_or row 1 [] = there.1 in
      let text : decimal n ≡ get_or row 2 [] = price.2 in
      subst (SideTold side file row prices) set.1
      (record { long = length-set prices at (pos n); small = All-set (λ p. (pos 0 ≤ℤ p) × (p ≤ℤ pos MOST_VALUE)) prices at (pos n) (omega (arith, ints), omega (arith, ints, price.1)); rows = put ∙ (λ i. side_rows side prices file ++ (side ∷ id i ∷ text i ∷ []) ∷ []) })

  side_told : side_priced file row prices ≡ Some qs → SideTold side file row prices qs
  side_told e = side_by (position_of_id (get_or row 1 []) file) (price_in (get_or row 2 [])) refl refl e

-- ---- the rows of all prices

-- prices after rows: one for each record and within their bounds as before, and these rows are the last ones
record Told (a b : List Record) (read : List Row) (before after : PricePair) : Type 0 where
  long_a : length after.a ≡ length before.a
  long_b : length after.b ≡ length before.b
  small_a : ArePrices before.a → ArePrices after.a
  small_b : ArePrices before.b → ArePrices after.b
  rows : rows_of_prices after.a after.b a b ≡ rows_of_prices before.a before.b a b ++ read

before_none : (xs ys none : List Row) (row : Row) → none ≡ [] → ys ≡ xs ++ row ∷ [] → ys ++ none ≡ (xs ++ none) ++ row ∷ []
before_none xs ys none row is e =
    ap (λ (z : List Row). ys ++ z) is ∙ append-nil ys ∙ e ∙ ap (λ (z : List Row). z ++ row ∷ []) (sym (append-nil xs) ∙ ap (λ (z : List Row). xs ++ z) (sym is))

whole_row : (side : List ℕ) (row : Row) → length row ≡ 3 → get_or row 0 [] ≡ side → side ∷ get_or row 1 [] ∷ get_or row 2 [] ∷ [] ≡ row
whole_row side row wide is = ap (λ (x : List ℕ). x ∷ get_or row 1 [] ∷ get_or row 2 [] ∷ []) (sym is) ∙ sym (three row wide)

module _ (a b : List Record) (row : Row) (s more : PricePair) (wide : length row ≡ 3) (long_a : length s.a ≡ length a) (long_b : length s.b ≡ length b) where
  a_told : (o : Option (List ℤ)) → side_priced a row s.a ≡ o → get_or row 0 [] ≡ codes "A" → have_none s.b ≡ true → with_a s o ≡ Some more → Told a b (row ∷ []) s more
  a_told None is side none e = absurd (cc e)
  a_told (Some qs) is side none e =
      let one = side_told (codes "A") a row s.a qs long_a is in
      let last : side_rows (codes "A") qs a ≡ side_rows (codes "A") s.a a ++ row ∷ [] =
      one.rows ∙ ap (λ (r : Row). side_rows (codes "A") s.a a ++ r ∷ []) (whole_row (codes "A") row wide side) in
      subst (Told a b (row ∷ []) s) (same_Some (record { a = qs; b = s.b }) more e)
      (record { long_a = one.long; long_b = refl; small_a = one.small; small_b = λ h. h; rows = before_none (side_rows (codes "A") s.a a) (side_rows (codes "A") qs a) (side_rows (codes "B") s.b b) row (none_told (codes "B") s.b b none) last })

  b_told : (o : Option (List ℤ)) → side_priced b row s.b ≡ o → get_or row 0 [] ≡ codes "B" → with_b s o ≡ Some more → Told a b (row ∷ []) s more
  b_told None is side e = absurd (cc e)
  b_told (Some qs) is side e =
      let one = side_told (codes "B") b row s.b qs long_b is in
      let of_a = side_rows (codes "A") s.a a in
      let last : side_rows (codes "B") qs b ≡ side_rows (codes "B") s.b b ++ row ∷ [] =
      one.rows ∙ ap (λ (r : Row). side_rows (codes "B") s.b b ++ r ∷ []) (whole_row (codes "B") row wide side) in
      subst (Told a b (row ∷ []) s) (same_Some (record { a = s.a; b = qs }) more e)
      (record { long_a = refl; long_b = one.long; small_a = λ h. h; small_b = one.small; rows = ap (λ (rows : List Row). of_a ++ rows) last ∙ sym (append_assoc of_a (side_rows (codes "B") s.b b) (row ∷ [])) })

  choice_told : (in_a none in_b : Bool) → bytes_eq (get_or row 0 []) (codes "A") ≡ in_a → have_none s.b ≡ none → bytes_eq (get_or row 0 []) (codes "B") ≡ in_b
      → (if in_a then (if none then with_a s (side_priced a row s.a) else None) else if in_b then with_b s (side_priced b row s.b) else None) ≡ Some more → Told a b (row ∷ []) s more
  choice_told true true in_b is_a is_none is_b e = a_told (side_priced a row s.a) refl ((bytes_eq-Decides (get_or row 0 []) (codes "A")).0 is_a) is_none e
  choice_told true false in_b is_a is_none is_b e = absurd (cc e)
  choice_told false none true is_a is_none is_b e = b_told (side_priced b row s.b) refl ((bytes_eq-Decides (get_or row 0 []) (codes "B")).0 is_b) e
  choice_told false none false is_a is_none is_b e = absurd (cc e)

  row_told : row_priced a b row s ≡ Some more → Told a b (row ∷ []) s more
  row_told e = choice_told (bytes_eq (get_or row 0 []) (codes "A")) (have_none s.b) (bytes_eq (get_or row 0 []) (codes "B")) refl refl refl e

module _ (a b : List Record) where
  step_told : (number : ℕ) (s last : PricePair) (row : Row) (rows : List Row) (o : Option PricePair) → ((more : PricePair) → o ≡ Some more → Told a b (row ∷ []) s more)
      → ((more : PricePair) → Told a b (row ∷ []) s more → prices_in a b (number + 1) more rows ≡ Ok last → Told a b rows more last)
      → priced_more (λ more. prices_in a b (number + 1) more rows) number o ≡ Ok last → Told a b (row ∷ rows) s last
  step_told number s last row rows None h go e = absurd (cc e)
  step_told number s last row rows (Some more) h go e =
      let one = h more refl in
      let rest = go more one e in
      record {
        long_a = rest.long_a ∙ one.long_a;
        long_b = rest.long_b ∙ one.long_b;
        small_a = λ small. rest.small_a (one.small_a small);
        small_b = λ small. rest.small_b (one.small_b small);
        rows = rest.rows ∙ ap (λ (z : List Row). z ++ rows) one.rows ∙ append_assoc (rows_of_prices s.a s.b a b) (row ∷ []) rows;
      }

  -- what rows come to, after those so far
  all_told : (number : ℕ) (s last : PricePair) (rows : List Row) → length s.a ≡ length a → length s.b ≡ length b → first_misfit 3 number rows ≡ None → prices_in a b number s rows ≡ Ok last → Told a b rows s last
  all_told number s last [] long_a long_b fits e =
      subst (Told a b [] s) (ok_is Refutation PricePair s last e) (record { long_a = refl; long_b = refl; small_a = λ h. h; small_b = λ h. h; rows = sym (append-nil (rows_of_prices s.a s.b a b)) })
  all_told number s last (row ∷ rows) long_a long_b fits e =
      let wide = fits_if 3 number row rows (length row == 3) refl fits in
      step_told number s last row rows (row_priced a b row s) (λ more is. row_told a b row s more wide.0 long_a long_b is)
      (λ more one. all_told (number + 1) more last rows (one.long_a ∙ long_a) (one.long_b ∙ long_b) wide.1) e

  no_rows : rows_of_prices (no_prices a b).a (no_prices a b).b a b ≡ []
  no_rows =
      ap (λ (z : List Row). z ++ side_rows (codes "B") (no_prices a b).b b) (none_told (codes "A") (no_prices a b).a a (none_of_none (length a)))
      ∙ none_told (codes "B") (no_prices a b).b b (none_of_none (length b))

-- prices that are read are one for each record, at least 0 and at most the greatest that is allowed, and their rows are those of the text
pub record PricesVerified (a b : List Record) (text : List ℕ) (prices : PricePair) : Type 0 where
  pub rows_a : length prices.a ≡ length a
  pub rows_b : length prices.b ≡ length b
  pub small_a : ArePrices prices.a
  pub small_b : ArePrices prices.b
  pub rows : rows_under prices_header (records_in 44 text) ≡ Ok (rows_of_prices prices.a prices.b a b)

zero_prices : (n : ℕ) → ArePrices (replicate n (pos 0))
zero_prices n = All-replicate (λ p. (pos 0 ≤ℤ p) × (p ≤ℤ pos MOST_VALUE)) n (pos 0) (omega (arith, ints), omega (arith, ints))

pub prices_are : (a b : List Record) (text : List ℕ) (prices : PricePair) → prices_verified a b text ≡ Ok prices → PricesVerified a b text prices
prices_are a b text prices e =
    let read = came (rows_of_file refutation.Price prices_header text) (λ rows. prices_in a b 1 (no_prices a b) rows) prices e in
    let rows : rows_under prices_header (records_in 44 text) ≡ Ok read.0 = rows_read (List Row) refutation.Price (rows_under prices_header (records_in 44 text)) read.0 read.1 in
    let all = all_told a b 1 (no_prices a b) prices read.0 (length-replicate (length a) (pos 0)) (length-replicate (length b) (pos 0)) (under_fit prices_header (records_in 44 text) read.0 rows) read.2 in
    record {
      rows_a = all.long_a ∙ length-replicate (length a) (pos 0);
      rows_b = all.long_b ∙ length-replicate (length b) (pos 0);
      small_a = all.small_a (zero_prices (length a));
      small_b = all.small_b (zero_prices (length b));
      rows = rows ∙ ap (okay ℕ (List Row)) (sym (all.rows ∙ ap (λ (z : List Row). z ++ read.0) (no_rows a b)));
    }

-- ---- the sums

record SumsTold (cs links last : List Candidate) (prices : PricePair) : Type 0 where
  same : last ≡ links
  covered : All (IsCovered prices.a prices.b) cs
  balanced_ : price_sum prices.a +ℤ price_sum prices.b ≡ worth links

balanced_if : (links last : List Candidate) (x y : ℤ) (t : Bool) → int_eq x y ≡ t → (if t then Ok links else Err (refutation.Sum x y)) ≡ Ok last → (last ≡ links) × (y ≡ x)
balanced_if links last x y true is e = (sym (ok_is Refutation (List Candidate) links last e), sym ((Decides-int_eq x y).0 is))
balanced_if links last x y false is e = absurd (cc e)

sums_if : (cs links last : List Candidate) (prices : PricePair) (o : Option Candidate) → first_uncovered cs prices ≡ o
    → covered_then o (balanced links (worth links) (price_sum prices.a +ℤ price_sum prices.b)) ≡ Ok last → SumsTold cs links last prices
sums_if cs links last prices (Some c) is e = absurd (cc e)
sums_if cs links last prices None is e =
    let sums = balanced_if links last (worth links) (price_sum prices.a +ℤ price_sum prices.b) _ refl e in
    let none = all_fail (λ c. not (is_covered prices.a prices.b c)) cs is in
    record { same = sums.0; covered = λ k d lt. covered_so prices.a prices.b (get_or cs k d) (not-false (is_covered prices.a prices.b (get_or cs k d)) (none k d lt)); balanced_ = sums.1 }

-- ---- verified files, and files with such rows

pub verified_rows : VerifiedHaveRows
verified_rows = λ rares cells cs a b texts last e.
    let of_rule = came (rule_verified rares cells texts.rule) _ last e in
    let of_links = came (links_verified cs a b texts.links) _ last of_rule.2 in
    let links = of_links.0 in
    let of_apart = came (apart_verified links) _ last of_links.2 in
    let of_prices = came (prices_verified a b texts.prices) _ last of_apart.2 in
    let prices = of_prices.0 in
    let read = links_are cs a b texts.links links of_links.1 in
    let priced = prices_are a b texts.prices prices of_prices.1 in
    let sums = sums_if cs links last prices (first_uncovered cs prices) refl of_prices.2 in
    subst (HaveCertifiedRows rares cells cs a b texts) (sym sums.same)
    (record {
      prices_a = prices.a;
      prices_b = prices.b;
      rows = record { of_rule = rule_rows rares cells texts.rule of_rule.0 of_rule.1; of_links = read.rows; of_prices = priced.rows };
      one_to_one = record { among = read.taken.among; rising = read.taken.rising; apart = apart_links links of_apart.0 of_apart.1 };
      certified = record {
        floor_a = λ k d lt. (priced.small_a k d lt).0;
        floor_b = λ k d lt. (priced.small_b k d lt).0;
        covered = sums.covered;
        balanced = sums.balanced_;
      };
      priced_a = priced.rows_a;
      priced_b = priced.rows_b;
    })

pub rows_verified : DecimalsRead → PricesAreBoundedByCandidates → GreatestValueIsLeast → RowsAreVerified
rows_verified decimals bounded least = λ rares cells cs a b texts links are h.
    let ps = h.prices_a in
    let qs = h.prices_b in
    let wanted = map (cell_fields rares) cells in
    let of_rule : rule_verified rares cells texts.rule ≡ Ok texts.rule =
    ap (λ r. and_then (refuted_by refutation.Rule r) (λ read. unless_row refutation.Rule texts.rule (first_difference 1 read wanted))) h.rows.of_rule
    ∙ ap (unless_row refutation.Rule texts.rule) (no_difference 1 wanted) in
    let of_links : links_verified cs a b texts.links ≡ Ok links =
    ap (λ r. and_then (refuted_by refutation.Link r) (λ read. links_in cs a b [] read)) h.rows.of_links
    ∙ links_read cs a b are.distinct_a are.distinct_b are.rising are.within [] links h.one_to_one.rising h.one_to_one.among in
    let of_apart : apart_verified links ≡ Ok links = ap (unless_row refutation.Reused links) (apart_none [] links h.one_to_one.apart) in
    let prices : PricePair = record { a = ps; b = qs } in
    let of_prices : prices_verified a b texts.prices ≡ Ok prices =
    ap (λ r. and_then (refuted_by refutation.Price r) (λ read. prices_in a b 1 (no_prices a b) read)) h.rows.of_prices
    ∙ prices_read decimals a b ps qs are.distinct_a are.distinct_b h.priced_a h.priced_b
    (small_a bounded least cs links are.allowed h.one_to_one ps qs h.certified) (small_b bounded least cs links are.allowed h.one_to_one ps qs h.certified) in
    after_prices rares cells cs a b texts texts.rule links links prices of_rule of_links of_apart of_prices
    ∙ sums_ok cs links prices h.certified.covered (sym h.certified.balanced)
