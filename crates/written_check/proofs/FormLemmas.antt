-- Written files that are verified: what their links are.
use Rattle.std.proofs.Common.{◌≡◌, ◌≤◌, ◌+◌, ◌∷◌, ◌++◌, ◌∙◌, ℕ, Bool, true, false, List, [], All, length, if◌then◌else◌, map, Option, Some, None, Result, Ok, Err, refl, sym, ap, subst, arith, AllPairs, Contains, ◌==◌, not, is_some, IsTrue, ◌<◌, ◌-◌, ℤ, pos, zero, suc, drop, get_or, ◌&&◌, decimal, nat_le, replicate, slice_set, int_eq}
use Rattle.std.proofs.lemmas.List.{append_assoc, append-nil, length-map, map-append, drop-set-lt, get_or-drop, get_or-set_same, length-drop, length-set}
use Rattle.std.proofs.lemmas.List.Elements.{All-nil, All-push, All-map}
use Rattle.std.proofs.lemmas.Option.{cond_some}
use Rattle.price_check.specs.Assignment.{IsBefore}
use Rattle.file_reader.specs.Words.{records_in, records_few}
use Rattle.link_base.specs.Words.{and_then, Record, position_of_id}
use Rattle.link_base.specs.declared.rule.Candidate.{Candidate}
use Rattle.link_report.specs.Reading.{row_same, fits, first_misfit, rows_under, same_row, unless_at, rows_begun}
use Rattle.link_report.specs.LinksText.{link_fields, links_header, prices_header, cell_fields, rule_header}
use Rattle.written_check.proofs.LinkLemmas.{found_some, Row, taken_rising}
use Rattle.written_check.specs.Certified.{AreTaken, no_prices, PricePair, prices_in, prices_verified, have_none, IsReadTo, price_in, priced_at, side_priced}
use Rattle.written_check.specs.LinkRows.{after_all, candidate_in, links_in, links_verified, taken_more, refuted_by, rows_of_file, unless_row, first_difference, rule_verified}
use Rattle.written_check.specs.declared.refutation.Refutation.{Refutation}
use Rattle.written_check.specs.declared.refutation.Refutation.TheVariants as refutation
use Rattle.std.proofs.lemmas.Bool.{true≢false, and_parts, leb-true}
use Rattle.link_base.specs.declared.rule.RuleCell.{RuleCell}
use Rattle.std.proofs.lemmas.Int.{ints}
use Rattle.std.proofs.lemmas.List.Folds.{list_all_at}
use Rattle.std.proofs.lemmas.List.Sums.{AllPass-from_list_all, list_all-from_AllPass}
use Rattle.csv_rows.specs.NumberLaws.{decimal_of_read}
use Rattle.csv_rows.specs.Numbers.{is_decimal, number_in}
use Rattle.link_limits.specs.declared.TheConstants.{MOST_VALUE}

-- a chain that came to a value came to one at its first step
pub came : {A B : Type 0} (r : Result A Refutation) (f : A → Result B Refutation) (y : B) → and_then r f ≡ Ok y → (x : A) × (r ≡ Ok x) × (f x ≡ Ok y)
came (Ok x) f y e = (x, refl, e)
came (Err g) f y e = absurd (cc e)

abbrev pub okay : (E T : Type 0) → T → Result T E
okay E T x = Ok x

pub ok_is : (E T : Type 0) (x y : T) → okay E T x ≡ okay E T y → x ≡ y
ok_is E T x y e = cc e

-- a candidate after all that were taken is the one that was found
after_is : (taken : List Candidate) (found : Option Candidate) (c : Candidate) → after_all taken found ≡ Some c → found ≡ Some c
after_is taken None c e = e
after_is taken (Some d) c e = ap Some (cond_some _ d c e).1

-- what the links of rows are, after those that were taken
pub record LinksOf (cs : List Candidate) (a b : List Record) (taken : List Candidate) (rows : List Row) (links : List Candidate) : Type 0 where
  pub fields : map (link_fields a b) links ≡ map (link_fields a b) taken ++ rows
  pub among : All (Contains cs) taken → All (Contains cs) links
  pub rising : AllPairs IsBefore taken → AllPairs IsBefore links

module _ (cs : List Candidate) (a b : List Record) where
  links_by : (taken : List Candidate) (row : Row) (rows : List Row) (links : List Candidate) (o : Option Candidate) → after_all taken (candidate_in cs a b row) ≡ o
      → ((c : Candidate) → links_in cs a b (taken ++ c ∷ []) rows ≡ Ok links → LinksOf cs a b (taken ++ c ∷ []) rows links)
      → taken_more (λ more. links_in cs a b more rows) taken o ≡ Ok links → LinksOf cs a b taken (row ∷ rows) links
  links_by taken row rows links None is go e = absurd (cc e)
  links_by taken row rows links (Some c) is go e =
      let found = found_some (λ x. same_row (link_fields a b x) row) cs c (after_is taken (candidate_in cs a b row) c is) in
      let own : link_fields a b c ≡ row = row_same (link_fields a b c) row found.passes in
      let rest = go c e in
      record {
        fields =
            rest.fields ∙ ap (λ (r : List Row). r ++ rows) (map-append (link_fields a b) taken (c ∷ []))
            ∙ append_assoc (map (link_fields a b) taken) (link_fields a b c ∷ []) rows ∙ ap (λ (r : Row). map (link_fields a b) taken ++ r ∷ rows) own;
        among = λ t. rest.among (All-push (Contains cs) taken c t found.among);
        rising = λ t. rest.rising (taken_rising taken (candidate_in cs a b row) c t (sym is));
      }

  pub links_of : (taken : List Candidate) (rows : List Row) (links : List Candidate) → links_in cs a b taken rows ≡ Ok links → LinksOf cs a b taken rows links
  links_of taken [] links e = subst (LinksOf cs a b taken []) (ok_is Refutation (List Candidate) taken links e) (record { fields = sym (append-nil (map (link_fields a b) taken)); among = λ h. h; rising = λ h. h })
  links_of taken (row ∷ rows) links e = links_by taken row rows links (after_all taken (candidate_in cs a b row)) refl (λ c. links_of (taken ++ c ∷ []) rows links) e

-- the rows of a file that is read
pub rows_read : (T : Type 0) (refutes : ℕ → Refutation) (r : Result T ℕ) (x : T) → refuted_by refutes r ≡ Ok x → r ≡ Ok x
rows_read T refutes (Ok y) x e = ap (okay ℕ T) (ok_is Refutation T y x e)
rows_read T refutes (Err n) x e = absurd (cc e)

-- the rows under a header are those after it, and of its width
after_header : (rest got : List Row) (o : Option ℕ) → unless_at rest o ≡ Ok got → (rest ≡ got) × (o ≡ None)
after_header rest got None e = (ok_is ℕ (List Row) rest got e, refl)
after_header rest got (Some n) e = absurd (cc e)

under_by : (header : Row) (rest got : List Row) (t : Bool) → (if t then unless_at rest (first_misfit (length header) 1 rest) else Err 0) ≡ Ok got → (rest ≡ got) × (first_misfit (length header) 1 got ≡ None)
under_by header rest got true e = (let rows = after_header rest got (first_misfit (length header) 1 rest) e in (rows.0, ap (first_misfit (length header) 1) (sym rows.0) ∙ rows.1))
under_by header rest got false e = absurd (cc e)

pub under_fit : (header : Row) (records got : List Row) → rows_under header records ≡ Ok got → first_misfit (length header) 1 got ≡ None
under_fit header [] got e = absurd (cc e)
under_fit header (first ∷ rest) got e = (under_by header rest got (same_row first header) e).1

fewer : (header : Row) (records got : List Row) → rows_under header records ≡ Ok got → length got ≤ length records
fewer header [] got e = absurd (cc e)
fewer header (first ∷ rest) got e = omega (arith, ap (λ (r : List Row). length r) (under_by header rest got (same_row first header) e).0)

-- links that are verified are taken of the candidates, and there are no more of them than rows
pub record LinksVerified (cs : List Candidate) (a b : List Record) (text : List ℕ) (links : List Candidate) : Type 0 where
  pub rows : rows_under links_header (records_in 44 text) ≡ Ok (map (link_fields a b) links)
  pub taken : AreTaken cs links
  pub few : length links ≤ length text + 1

pub links_are : (cs : List Candidate) (a b : List Record) (text : List ℕ) (links : List Candidate) → links_verified cs a b text ≡ Ok links → LinksVerified cs a b text links
links_are cs a b text links e =
    let read = came (rows_of_file refutation.Link links_header text) (λ rows. links_in cs a b [] rows) links e in
    let rows : rows_under links_header (records_in 44 text) ≡ Ok read.0 = rows_read (List Row) refutation.Link (rows_under links_header (records_in 44 text)) read.0 read.1 in
    let of = links_of cs a b [] read.0 links read.2 in
    record {
      rows = rows ∙ ap (okay ℕ (List Row)) (sym of.fields);
      taken = record { among = of.among (All-nil (Contains cs)); rising = of.rising (λ i j d lt within. absurd (omega (arith, within))) };
      few = omega (arith, fewer links_header (records_in 44 text) read.0 rows, records_few 44 text, length-map links (link_fields a b), ap (λ (r : List Row). length r) of.fields);
    }

-- Rows that are all taken are of the form of their file.

-- rows after a header that have no misfit are the rows under it
pub begun_under : (header : Row) (records rows : List Row) → Some rows ≡ rows_begun header records → first_misfit (length header) 1 rows ≡ None → rows_under header records ≡ Ok rows
begun_under header [] rows is fit = absurd (cc is)
begun_under header (first ∷ more) rows is fit =
    let begun = cond_some (same_row first header) more rows (sym is) in
    rw begun.0 (subst (λ (r : List Row). unless_at r (first_misfit (length header) 1 r) ≡ Ok rows) (sym begun.1) (ap (unless_at rows) fit))

-- a row that fits is passed
pub fit_passed : (width n : ℕ) (row : Row) (rows : List Row) → length row ≡ width → first_misfit width n (row ∷ rows) ≡ first_misfit width (n + 1) rows
fit_passed width n row rows e = rw (is_width e) refl
  where
    is_width : length row ≡ width → (length row == width) ≡ true
    is_width e = grind arith

-- rows that are all links
module _ (cs : List Candidate) (a b : List Record) where
  links_fit : (rows : List Row) (links : List Candidate) → links_in cs a b [] rows ≡ Ok links → first_misfit (length links_header) 1 rows ≡ None
  links_fit rows links e =
      subst (λ (r : List Row). first_misfit 5 1 r ≡ None) (links_of cs a b [] rows links e).fields
      (fits 5 1 (map (link_fields a b) links) (All-map (λ (r : Row). length r ≡ 5) (link_fields a b) links (λ k d lt. refl)))

  pub links_in_order : (text : List ℕ) (rows : List Row) (links : List Candidate) → Some rows ≡ rows_begun links_header (records_in 44 text) → links_in cs a b [] rows ≡ Ok links
      → links_verified cs a b text ≡ Ok links
  links_in_order text rows links is e =
      ap (λ (r : Result (List Row) ℕ). and_then (refuted_by refutation.Link r) (λ (rs : List Row). links_in cs a b [] rs))
      (begun_under links_header (records_in 44 text) rows is (links_fit rows links e))
      ∙ e

-- what the rows under the header of prices come to
pub prices_under : (a b : List Record) (text : List ℕ) (rows : List Row) → rows_under prices_header (records_in 44 text) ≡ Ok rows → prices_verified a b text ≡ prices_in a b 1 (no_prices a b) rows
prices_under a b text rows e = ap (λ (r : Result (List Row) ℕ). and_then (refuted_by refutation.Price r) (λ (rs : List Row). prices_in a b 1 (no_prices a b) rs)) e

-- rows that are all prices
pub prices_in_order : (a b : List Record) (text : List ℕ) (rows : List Row) (prices : PricePair) → Some rows ≡ rows_begun prices_header (records_in 44 text)
    → first_misfit (length prices_header) 1 rows ≡ None → prices_in a b 1 (no_prices a b) rows ≡ Ok prices → prices_verified a b text ≡ Ok prices
prices_in_order a b text rows prices is fit e = prices_under a b text rows (begun_under prices_header (records_in 44 text) rows is fit) ∙ e

pub none_is : {X : Type 0} (o : Option X) (t : Bool) → is_some o ≡ not t → IsTrue t → o ≡ None
none_is None t e h = refl
none_is (Some x) true e h = absurd (true≢false e)
none_is (Some x) false e h = absurd (true≢false (sym h))

-- rows that differ from none that is wanted are those
same_if : (n : ℕ) (row w : Row) (rows wanted : List Row) (t : Bool) → same_row row w ≡ t → (first_difference (n + 1) rows wanted ≡ None → rows ≡ wanted)
    → (if t then first_difference (n + 1) rows wanted else Some n) ≡ None → row ∷ rows ≡ w ∷ wanted
same_if n row w rows wanted true is go e = ap (λ (r : Row). r ∷ rows) (row_same row w is) ∙ ap (λ (r : List Row). w ∷ r) (go e)
same_if n row w rows wanted false is go e = absurd (cc e)

pub same_rows : (n : ℕ) (rows wanted : List Row) → first_difference n rows wanted ≡ None → rows ≡ wanted
same_rows n [] [] e = refl
same_rows n [] (w ∷ wanted) e = absurd (cc e)
same_rows n (row ∷ rows) [] e = absurd (cc e)
same_rows n (row ∷ rows) (w ∷ wanted) e = same_if n row w rows wanted (same_row row w) refl (same_rows (n + 1) rows wanted) e

-- rows that are all those of cells
pub rule_in_order : (rares : List Bool) (cells : List RuleCell) (text : List ℕ) (rows : List Row) → Some rows ≡ rows_begun rule_header (records_in 44 text)
    → first_difference 1 rows (map (cell_fields rares) cells) ≡ None → rule_verified rares cells text ≡ Ok text
rule_in_order rares cells text rows is e =
    let fit : first_misfit 8 1 rows ≡ None =
    subst (λ (r : List Row). first_misfit 8 1 r ≡ None) (sym (same_rows 1 rows (map (cell_fields rares) cells) e))
    (fits 8 1 (map (cell_fields rares) cells) (All-map (λ (r : Row). length r ≡ 8) (cell_fields rares) cells (λ k d lt. refl))) in
    ap (λ (r : Result (List Row) ℕ). and_then (refuted_by refutation.Rule r) (λ (rs : List Row). unless_row refutation.Rule text (first_difference 1 rs (map (cell_fields rares) cells))))
    (begun_under rule_header (records_in 44 text) rows is fit)
    ∙ ap (unless_row refutation.Rule text) e

-- The prices of a side, record by record.

pub none_of_none : (n : ℕ) → have_none (replicate n (pos 0)) ≡ true
none_of_none zero = refl
none_of_none (suc n) = none_of_none n

pub no_price_read : (n : ℕ) → IsReadTo (replicate n (pos 0)) 0
no_price_read n = record { within = omega arith; last = λ some. absurd (omega (arith, some)); none = none_of_none n }

-- where none has a price from a record on, none has from a later one on
pub none_after : (prices : List ℤ) (next at : ℕ) → next ≤ at → have_none (drop next prices) ≡ true → have_none (drop at prices) ≡ true
none_after prices next at later none =
    let all = AllPass-from_list_all (λ p. int_eq p (pos 0)) (drop next prices) none in
    list_all-from_AllPass (λ p. int_eq p (pos 0)) (drop at prices) (λ k d lt.
    let place : next + (at - next + k) ≡ at + k = omega arith in
    let same : get_or (drop at prices) k d ≡ get_or (drop next prices) (at - next + k) d =
    get_or-drop at prices k d ∙ ap (λ n. get_or prices n d) (sym place) ∙ sym (get_or-drop next prices (at - next + k) d) in
    ap (λ p. int_eq p (pos 0)) same ∙ all (at - next + k) d (omega (arith, length-drop next prices, length-drop at prices, lt)))

-- a record before one that has a price
pub some_after : (prices : List ℤ) (next at : ℕ) → IsReadTo prices next → at < next → have_none (drop at prices) ≡ false
some_after prices next at read before =
    let place : at + (next - 1 - at) ≡ next - 1 = omega arith in
    list_all_at (λ p. int_eq p (pos 0)) (drop at prices) (next - 1 - at) (pos 0) (omega (arith, length-drop at prices, read.within))
    (ap (λ p. int_eq p (pos 0)) (get_or-drop at prices (next - 1 - at) (pos 0) ∙ ap (λ n. get_or prices n (pos 0)) place) ∙ read.last (omega arith))

module _ (file : List Record) (row : List (List ℕ)) (prices : List ℤ) (at price : ℕ) (is : Some at ≡ position_of_id (get_or row 1 []) file) (is_price : Some price ≡ price_in (get_or row 2 [])) where
  priced : (t : Bool) → have_none (drop at prices) ≡ t → side_priced file row prices ≡ (if t then Some (slice_set prices at (pos price)) else None)
  priced t e =
      ap (λ o. priced_at prices o (price_in (get_or row 2 []))) (sym is) ∙ ap (priced_at prices (Some at)) (sym is_price)
      ∙ ap (λ (b : Bool). if b then Some (slice_set prices at (pos price)) else None) e

  pub price_taken : (next : ℕ) → IsReadTo prices next → next ≤ at → side_priced file row prices ≡ Some (slice_set prices at (pos price))
  price_taken next read later = priced true (none_after prices next at later read.none)

  pub price_refused : (next : ℕ) → IsReadTo prices next → at < next → side_priced file row prices ≡ None
  price_refused next read before = priced false (some_after prices next at read before)

pub some_price : (p : ℕ) → 1 ≤ p → int_eq (pos p) (pos 0) ≡ false
some_price p some = grind (arith, ints)

pub read_more : (prices : List ℤ) (next at price : ℕ) → IsReadTo prices next → next ≤ at → at < length prices → 1 ≤ price → IsReadTo (slice_set prices at (pos price)) (at + 1)
read_more prices next at price read later within some = record {
  within = omega (arith, length-set prices at (pos price));
  last = λ _.
      let place : at + 1 - 1 ≡ at = omega arith in
      ap (λ n. int_eq (get_or (slice_set prices at (pos price)) n (pos 0)) (pos 0)) place
      ∙ ap (λ p. int_eq p (pos 0)) (get_or-set_same prices at (pos price) (pos 0) within) ∙ some_price price some;
  none = ap have_none (drop-set-lt (at + 1) prices at (pos price) (omega arith)) ∙ none_after prices next (at + 1) (omega arith) read.none;
}

-- a price is from 1 to the greatest that is allowed, and its text is that of its number
pub price_is : (text : List ℕ) (n : ℕ) → price_in text ≡ Some n → (1 ≤ n) × (n ≤ MOST_VALUE) × (decimal n ≡ text)
price_is text n e =
    let is = cond_some (is_decimal text && nat_le 1 (number_in text) && nat_le (number_in text) MOST_VALUE) (number_in text) n e in
    let few = and_parts (is_decimal text && nat_le 1 (number_in text)) (nat_le (number_in text) MOST_VALUE) is.0 in
    let some = and_parts (is_decimal text) (nat_le 1 (number_in text)) few.0 in
    let least : 1 ≤ number_in text = leb-true 1 (number_in text) some.1 in
    let most : number_in text ≤ MOST_VALUE = leb-true (number_in text) MOST_VALUE few.1 in
    let same : number_in text ≡ n = is.1 in
    (omega arith, omega arith, ap decimal (sym same) ∙ decimal_of_read text some.0 (omega (arith, most)))

-- the price of a row is stored
module _ (file : List Record) (row : List (List ℕ)) (self items : List ℤ) (at price next : ℕ) (v : ℤ) (is : Some at ≡ position_of_id (get_or row 1 []) file) (is_price : Some price ≡ price_in (get_or row 2 []))
    (seen : items ≡ self) (read : IsReadTo items next) where
  pub stored_refused : at < next → side_priced file row self ≡ None
  stored_refused before = subst (λ (ps : List ℤ). side_priced file row ps ≡ None) seen (price_refused file row items at price is is_price next read before)

  module _ (later : next ≤ at) (value : v ≡ pos price) where
    pub stored_taken : side_priced file row self ≡ Some (slice_set items at v)
    stored_taken =
        subst (λ (z : ℤ). side_priced file row self ≡ Some (slice_set items at z)) (sym value)
        (subst (λ (ps : List ℤ). side_priced file row ps ≡ Some (slice_set items at (pos price))) seen (price_taken file row items at price is is_price next read later))

    pub stored_read : at < length items → IsReadTo (slice_set items at v) (at + 1)
    stored_read within = subst (λ (z : ℤ). IsReadTo (slice_set items at z) (at + 1)) (sym value) (read_more items next at price read later within (price_is (get_or row 2 []) price (sym is_price)).0)
