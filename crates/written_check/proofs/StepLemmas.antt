-- How long written texts are at most.
use Rattle.std.proofs.Common.{◌≡◌, ◌<◌, ◌≤◌, ◌+◌, ◌*◌, ◌^◌, ◌∷◌, ◌++◌, ℕ, ℤ, pos, negsuc, zero, suc, Bool, true, false, List, [], All, length, get_or, if◌then◌else◌, arith, inl, inr, length-append, ◌==◌, ◌≤ℤ◌, ◌-◌, AllPairs, codes, decimal, filter, neg_ℤ, zip, subst, ◌∙◌, Option, Ok, Result, ap, sym, IfOk, IfSome, ◌+ℤ◌, Some, None, Err, refl, find, not, slice_get, flat_map, int_eq}
use Rattle.std.specs.Fmt.{signed_decimal}
use Rattle.std.proofs.lemmas.Fmt.{length-decimal-le, length_signed_le}
use Rattle.std.proofs.lemmas.Int.{ints}
use Rattle.std.proofs.lemmas.List.FromFn.{length-map-range_with_len}
use Rattle.std.proofs.lemmas.List.Elements.{All-contains, All-head, All-tail, All-contains_itself}
use Rattle.csv.specs.Writing.{default_writer, escaped, field_text, fields_text, is_blank, needs_quotes, quoted, row_body, row_text}
use Rattle.csv.specs.declared.writer.WriterBuilder.{WriterBuilder}
use Rattle.price_check.specs.Assignment.{IsBefore, IsOneToOne, IsWithin, SharesNoRecord, Certifies, greatest_value, IsCovered, price_sum, worth}
use Rattle.link_base.specs.Words.{id_at, no_record, Record, and_then, RefusesBut}
use Rattle.link_base.specs.declared.rule.Candidate.{Candidate}
use Rattle.link_base.specs.declared.rule.RuleCell.{RuleCell}
use Rattle.link_limits.specs.declared.TheConstants.{MOST_VALUE, MOST_WRITTEN_BYTES, WHOLE_RULE}
use Rattle.link_report.specs.LinksText.{link_fields, link_row, links_header, source_of_link, text_of_links, is_priced, price_fields, price_row, price_rows, prices_header, text_of_prices, cell_fields, cell_row, outcome_letter, outcome_letters, rule_header, text_of_rule}
use Rattle.patterns.specs.Patterns.{outcome_at}
use Rattle.price_check.specs.Verdict.{HasAllowedValue, IsFirstBad}
use Rattle.written_check.specs.Certified.{ArePrices, PricePair, prices_verified, sums_verified, balanced, covered_then, first_uncovered, is_covered, pair_of}
use Rattle.written_check.specs.Laws.{AreSmallCells, HasAllowedWeight, HasShortId, IsSmallCell, IsSmallFile}
use Rattle.std.proofs.lemmas.List.{get_or_default}
use Rattle.price_check.specs.Law.{GreatestValueIsLeast, PricesAreBoundedByCandidates}
use Rattle.std.proofs.lemmas.Option.{IfSome_then, slice_get-get_or}
use Rattle.std.proofs.lemmas.Result.{IfOk-weaker}
use Rattle.written_check.specs.LinkRows.{apart_verified, links_verified, first_reused, is_want, unless_row, rule_verified}
use Rattle.written_check.specs.Verified.{verified, WrittenTexts}
use Rattle.written_check.specs.declared.refutation.Refutation.{Refutation}
use Rattle.written_check.specs.declared.refutation.Refutation.TheVariants as refutation
use Rattle.std.proofs.lemmas.Bool.{false_from_ne_true}
use Rattle.std.proofs.lemmas.Bool.Decides.{Decides-int_eq}
use Rattle.std.proofs.lemmas.List.Folds.{find_at}
use Rattle.std.proofs.lemmas.List.Sums.{position_or_len_is}
use Rattle.written_check.proofs.LinkLemmas.{apart_all, found_none}

-- each byte of a field is written twice at most, and the field stands between two quotes at most
one_escaped : (cfg : WriterBuilder) (is_quote : Bool) (b : ℕ) (more rest : List ℕ) → length more ≤ 2 * length rest
    → length (if is_quote then (if cfg.double_quote then cfg.quote else cfg.escape) ∷ b ∷ more else b ∷ more) ≤ 2 * length (b ∷ rest)
one_escaped cfg true b more rest h = omega arith
one_escaped cfg false b more rest h = omega arith

escaped_short : (cfg : WriterBuilder) (field : List ℕ) → length (escaped cfg field) ≤ 2 * length field
unfolding escaped
escaped_short cfg [] = omega arith
escaped_short cfg (b ∷ rest) = one_escaped cfg (b == cfg.quote) b (escaped cfg rest) rest (escaped_short cfg rest)

quoted_short : (cfg : WriterBuilder) (quotes : Bool) (field : List ℕ) → length (if quotes then quoted cfg field else field) ≤ 2 * length field + 2
quoted_short cfg true field = omega (arith, length-append (escaped cfg field) (cfg.quote ∷ []), escaped_short cfg field)
quoted_short cfg false field = omega arith

field_short : (field : List ℕ) → length (field_text default_writer field) ≤ 2 * length field + 2
field_short field = quoted_short default_writer (needs_quotes default_writer field) field

-- what the fields of a row take at most
abbrev pub room_for : List (List ℕ) → ℕ
room_for [] = 0
room_for (field ∷ rest) = 2 * length field + 3 + room_for rest

fields_short : (fields : List (List ℕ)) → length (fields_text default_writer fields) ≤ room_for fields
unfolding fields_text
fields_short [] = omega arith
fields_short (field ∷ rest) =
    omega (arith, length-append (field_text default_writer field) (fields_text default_writer rest), field_short field, fields_short rest)

body_short : (fields : List (List ℕ)) → length (row_body default_writer fields) ≤ room_for fields
body_short [] = omega arith
body_short (field ∷ rest) =
    omega (arith, length-append (field_text default_writer field) (fields_text default_writer rest), field_short field, fields_short rest)

end_short : (blank : Bool) → length {A = ℕ} ((if blank then 34 ∷ 34 ∷ [] else []) ++ 10 ∷ []) ≤ 3
end_short true = omega arith
end_short false = omega arith

pub row_short : (fields : List (List ℕ)) → length (row_text default_writer fields) ≤ room_for fields + 3
row_short fields =
    let end : List ℕ = (if is_blank default_writer fields then 34 ∷ 34 ∷ [] else []) ++ 10 ∷ [] in
    omega (arith, length-append (row_body default_writer fields) end, body_short fields, end_short (is_blank default_writer fields))

-- rows of so many bytes at most
rows_short : {X : Type 0} (row : X → List ℕ) (most : ℕ) (xs : List X) → All (λ x. length (row x) ≤ most) xs → length (flat_map row xs) ≤ length xs * most
rows_short row most [] all = omega arith
rows_short row most (x ∷ xs) all =
    let here : length (row x) ≤ most = All-head (λ y. length (row y) ≤ most) x xs all in
    let rest : length (flat_map row xs) ≤ length xs * most = rows_short row most xs (All-tail (λ y. length (row y) ≤ most) x xs all) in
    let whole : length (flat_map row (x ∷ xs)) ≡ length (row x) + length (flat_map row xs) = length-append (row x) (flat_map row xs) in
    grind (arith, here, rest, whole)

-- numbers
number_short : (n : ℕ) → n < 2 ^ 64 → length (decimal n) ≤ 20
number_short n small = length-decimal-le 20 n (omega arith) (omega arith) small

signed_short : (z : ℤ) → (neg_ℤ (pos MOST_VALUE) ≤ℤ z) → (z ≤ℤ pos MOST_VALUE) → length (signed_decimal z) ≤ 8
signed_short (pos n) low high = length_signed_le 7 (pos n) (omega (arith, ints, low, high)) (omega (arith, ints, low, high))
signed_short (negsuc n) low high = length_signed_le 7 (negsuc n) (omega (arith, ints, low, high)) (omega (arith, ints, low, high))

-- the rule
cell_short : (rares : List Bool) (c : RuleCell) → length rares ≤ 6 → IsSmallCell c → length (cell_row rares c) ≤ 300
cell_short rares c fields small =
    let letters : length (outcome_letters rares c.pattern) ≡ length rares = length-map-range_with_len (λ field. outcome_letter (outcome_at rares c.pattern field)) 0 (length rares) in
    let weight : length (signed_decimal c.weight) ≤ 8 = signed_short c.weight (omega (arith, ints, small.ranges.weight_low)) (omega (arith, ints, small.ranges.weight_high)) in
    let shares = small.ranges.shares in
    let possible : WHOLE_RULE - c.link - c.nonlink < 2 ^ 64 = omega arith in
    omega (
      arith,
      row_short (cell_fields rares c),
      letters,
      weight,
      number_short c.pattern (omega (arith, small.pattern)),
      number_short c.m small.m,
      number_short c.u small.u,
      number_short c.link (omega (arith, shares)),
      number_short c.nonlink (omega (arith, shares)),
      number_short (WHOLE_RULE - c.link - c.nonlink) possible,
    )

pub rule_short : (rares : List Bool) (cells : List RuleCell) → AreSmallCells rares cells → length (text_of_rule rares cells) ≤ MOST_WRITTEN_BYTES
rule_short rares cells are =
    let rows = rows_short (cell_row rares) 300 cells (λ k d lt. cell_short rares (get_or cells k d) are.fields (are.each k d lt)) in
    omega (arith, length-append (row_text default_writer rule_header) (flat_map (cell_row rares) cells), row_short rule_header, rows, are.few)

-- the links
id_short : (file : List Record) (at : ℕ) → IsSmallFile file → at < length file → length (id_at file at) ≤ 255
id_short file at small lt = small.ids at no_record lt

source_short : (reviewed : Bool) → length (source_of_link reviewed) ≤ 6
source_short true = omega arith
source_short false = omega arith

link_short : (a b : List Record) (c : Candidate) → IsSmallFile a → IsSmallFile b → IsWithin (length a) (length b) c → HasAllowedWeight c → HasAllowedValue c → length (link_row a b c) ≤ 1082
link_short a b c of_a of_b within weight value =
    omega (arith, row_short (link_fields a b c), id_short a c.a of_a within.0, id_short b c.b of_b within.1, signed_short c.weight weight.0 weight.1, signed_short c.value value.0 value.1, source_short c.reviewed)

-- the records of A rise in a one-to-one list, so that it is no longer than A
one_later : (x y : Candidate) (k : ℕ) → IsBefore x y → SharesNoRecord x y → k ≤ x.a → suc k ≤ y.a
one_later x y k (inl before) apart least = omega (arith, before, least)
one_later x y k (inr same) apart least = absurd (apart.0 same.0)

stands_at : (links : List Candidate) → AllPairs IsBefore links → AllPairs SharesNoRecord links → (k : ℕ) (d : Candidate) → k < length links → k ≤ (get_or links k d).a
stands_at links rising apart zero d lt = omega arith
stands_at links rising apart (suc k) d lt =
    one_later (get_or links k d) (get_or links (suc k) d) k (rising k (suc k) d (omega arith) lt) (apart k (suc k) d (omega arith) lt) (stands_at links rising apart k d (omega arith))

as_many : (rows_a rows_b : ℕ) (links : List Candidate) → All (IsWithin rows_a rows_b) links → AllPairs IsBefore links → AllPairs SharesNoRecord links → length links ≤ rows_a
as_many rows_a rows_b [] within rising apart = omega arith
as_many rows_a rows_b (c ∷ links) within rising apart =
    let last : length links < length (c ∷ links) = omega arith in
    omega (arith, stands_at (c ∷ links) rising apart (length links) c last, (within (length links) c last).0)

module _ (a b : List Record) (candidates links : List Candidate) (of_a : IsSmallFile a) (of_b : IsSmallFile b) (within : All (IsWithin (length a) (length b)) candidates)
    (weights : All HasAllowedWeight candidates) (values : All HasAllowedValue candidates) (one : IsOneToOne candidates links) where
  of_candidate : (k : ℕ) (d : Candidate) → k < length links → length (link_row a b (get_or links k d)) ≤ 1082
  of_candidate k d lt =
      let among = one.among k d lt in
      link_short a b (get_or links k d) of_a of_b (All-contains (IsWithin (length a) (length b)) candidates (get_or links k d) within among) (All-contains HasAllowedWeight candidates (get_or links k d) weights among)
      (All-contains HasAllowedValue candidates (get_or links k d) values among)

  links_within : All (IsWithin (length a) (length b)) links
  links_within k d lt = All-contains (IsWithin (length a) (length b)) candidates (get_or links k d) within (one.among k d lt)

  pub links_short : length (text_of_links a b links) ≤ MOST_WRITTEN_BYTES
  links_short =
      omega (
        arith,
        length-append (row_text default_writer links_header) (flat_map (link_row a b) links),
        row_short links_header,
        rows_short (link_row a b) 1082 links of_candidate,
        as_many (length a) (length b) links links_within one.rising one.apart,
        of_a.few,
      )

-- the prices of a side
abbrev IsSmallPrice : ℤ → Type 0
IsSmallPrice p = (pos 0 ≤ℤ p) × (p ≤ℤ pos MOST_VALUE)

one_priced : (side : List ℕ) (priced : Bool) (p : ℤ × Record) (rest : List (ℤ × Record)) (many : ℕ) → length (price_row side p) ≤ 540 → length (flat_map (price_row side) rest) ≤ many * 540
    → length (flat_map (price_row side) (if priced then p ∷ rest else rest)) ≤ suc many * 540
one_priced side true p rest many here more = omega (arith, length-append (price_row side p) (flat_map (price_row side) rest), here, more)
one_priced side false p rest many here more = omega (arith, more)

price_short : (side : List ℕ) (price : ℤ) (r : Record) → length side ≤ 1 → (pos 0 ≤ℤ price) × (price ≤ℤ pos MOST_VALUE) → HasShortId r → length (price_row side (price, r)) ≤ 540
price_short side price r short small id =
    omega (arith, row_short (price_fields side (price, r)), short, id, signed_short price (omega (arith, ints, small.0)) small.1)

side_short : (side : List ℕ) (prices : List ℤ) (file : List Record) → length side ≤ 1 → ArePrices prices → All HasShortId file → length (price_rows side prices file) ≤ length file * 540
side_short side [] file short small ids = omega arith
side_short side (price ∷ prices) [] short small ids = omega arith
side_short side (price ∷ prices) (r ∷ file) short small ids =
    one_priced side (is_priced (price, r)) (price, r) (filter is_priced (zip prices file)) (length file)
    (price_short side price r short (All-head IsSmallPrice price prices small) (All-head HasShortId r file ids))
    (side_short side prices file short (All-tail IsSmallPrice price prices small) (All-tail HasShortId r file ids))

pub prices_short : (prices_a prices_b : List ℤ) (a b : List Record) → ArePrices prices_a → ArePrices prices_b → IsSmallFile a → IsSmallFile b → length (text_of_prices prices_a prices_b a b) ≤ MOST_WRITTEN_BYTES
prices_short prices_a prices_b a b small_a small_b of_a of_b =
    let rows_a = price_rows (codes "A") prices_a a in
    let rows_b = price_rows (codes "B") prices_b b in
    omega (
      arith,
      length-append (row_text default_writer prices_header) (rows_a ++ rows_b),
      length-append rows_a rows_b,
      row_short prices_header,
      side_short (codes "A") prices_a a (omega arith) small_a of_a.ids,
      side_short (codes "B") prices_b b (omega arith) small_b of_b.ids,
      of_a.few,
      of_b.few,
    )

-- Prices of a certificate are small.

module _ (bounded : PricesAreBoundedByCandidates) (least : GreatestValueIsLeast) (cs links : List Candidate) (allowed : All HasAllowedValue cs) (one : IsOneToOne cs links) (ps qs : List ℤ) (certified : Certifies cs links ps qs) where
  most : greatest_value cs ≤ℤ pos MOST_VALUE
  most = least cs cs (pos MOST_VALUE) (All-contains_itself cs) (omega (arith, ints)) (λ k d lt. (allowed k d lt).1)

  pub small_a : ArePrices ps
  small_a k d lt =
      (certified.floor_a k d lt, subst (λ p. p ≤ℤ pos MOST_VALUE) (get_or_default ps k (pos 0) d lt) (omega (arith, ints, most, (bounded cs links ps qs one certified k).0)))

  pub small_b : ArePrices qs
  small_b k d lt =
      (certified.floor_b k d lt, subst (λ p. p ≤ℤ pos MOST_VALUE) (get_or_default qs k (pos 0) d lt) (omega (arith, ints, most, (bounded cs links ps qs one certified k).1)))

-- Written files step by step: what is left to verify after the steps that found nothing.

-- a refusal of what is left refuses the whole
pub refuses_whole : {T : Type 0} (whole left : Result T Refutation) (f : Refutation) → whole ≡ left → RefusesBut is_want left f → RefusesBut is_want whole f
refuses_whole whole left f e h = subst (λ r. RefusesBut is_want r f) (sym e) h

module _ (rares : List Bool) (cells : List RuleCell) (cs : List Candidate) (a b : List Record) (texts : WrittenTexts) where
  abbrev pub from_prices : List Candidate → Result (List Candidate) Refutation
  from_prices links = and_then (prices_verified a b texts.prices) (λ prices. sums_verified cs links prices)

  abbrev pub from_apart : List Candidate → Result (List Candidate) Refutation
  from_apart links = and_then (apart_verified links) (λ _. from_prices links)

  abbrev pub from_links : Result (List Candidate) Refutation
  from_links = and_then (links_verified cs a b texts.links) from_apart

  pub after_rule : (text : List ℕ) → rule_verified rares cells texts.rule ≡ Ok text → verified rares cells cs a b texts ≡ from_links
  after_rule text e = ap (λ (r : Result (List ℕ) Refutation). and_then r (λ _. from_links)) e

  pub after_links : (text : List ℕ) (links : List Candidate) → rule_verified rares cells texts.rule ≡ Ok text → links_verified cs a b texts.links ≡ Ok links
      → verified rares cells cs a b texts ≡ from_apart links
  after_links text links e f = after_rule text e ∙ ap (λ (r : Result (List Candidate) Refutation). and_then r from_apart) f

  pub after_apart : (text : List ℕ) (links same : List Candidate) → rule_verified rares cells texts.rule ≡ Ok text → links_verified cs a b texts.links ≡ Ok links
      → apart_verified links ≡ Ok same → verified rares cells cs a b texts ≡ from_prices links
  after_apart text links same e f g = after_links text links e f ∙ ap (λ (r : Result (List Candidate) Refutation). and_then r (λ _. from_prices links)) g

  pub after_prices : (text : List ℕ) (links same : List Candidate) (prices : PricePair) → rule_verified rares cells texts.rule ≡ Ok text
      → links_verified cs a b texts.links ≡ Ok links → apart_verified links ≡ Ok same → prices_verified a b texts.prices ≡ Ok prices
      → verified rares cells cs a b texts ≡ sums_verified cs links prices
  after_prices text links same prices e f g h =
      after_apart text links same e f g ∙ ap (λ (r : Result PricePair Refutation). and_then r (λ (p : PricePair). sums_verified cs links p)) h

-- what follows for what is given, where something is
pub given_weaker : {X E : Type 0} (r : Result (Option X) E) (P Q : X → Type 0) → ((x : X) → P x → Q x) → IfOk r (λ given. IfSome given P) → IfOk r (λ given. IfSome given Q)
given_weaker r P Q follows h = IfOk-weaker r (λ given. IfSome given P) (λ given. IfSome given Q) (λ given some. IfSome_then given some follows) h

-- What the sums of links and prices come to.

-- the test of a candidate says whether the prices cover it
pub covered_so : (ps qs : List ℤ) (c : Candidate) → is_covered ps qs c ≡ true → IsCovered ps qs c
covered_so ps qs c e = grind (arith, ints)

so_covered : (ps qs : List ℤ) (c : Candidate) → IsCovered ps qs c → is_covered ps qs c ≡ true
so_covered ps qs c e = grind (arith, ints)

all_covered : (cs : List Candidate) (prices : PricePair) → All (IsCovered prices.a prices.b) cs → first_uncovered cs prices ≡ None
all_covered cs prices all = found_none (λ c. not (is_covered prices.a prices.b c)) cs (λ k d lt. ap not (so_covered prices.a prices.b (get_or cs k d) (all k d lt)))

-- the first that passes
first_found : {X : Type 0} (p : X → Bool) (xs : List X) (i : ℕ) (d : X) → i < length xs → ((k : ℕ) → k < i → p (get_or xs k d) ≡ false) → p (get_or xs i d) ≡ true → find p xs ≡ Some (get_or xs i d)
first_found p xs i d lt below here = find_at p xs ∙ ap (slice_get xs) (position_or_len_is p xs i d (omega arith) below (λ _. here)) ∙ slice_get-get_or xs i d lt

first_not_covered : (cs : List Candidate) (prices : PricePair) (i : ℕ) (d : Candidate) → IsFirstBad (IsCovered prices.a prices.b) cs (Some i) → first_uncovered cs prices ≡ Some (get_or cs i d)
first_not_covered cs prices i d h =
    first_found (λ c. not (is_covered prices.a prices.b c)) cs i d h.0
    (λ k lt. ap not (so_covered prices.a prices.b (get_or cs k d) (h.1 k d lt)))
    (ap not (false_from_ne_true (is_covered prices.a prices.b (get_or cs i d)) (λ e. h.2 d (covered_so prices.a prices.b (get_or cs i d) e))))

-- no row is refuted
pub unless_none : {T : Type 0} (refutes : ℕ → Refutation) (x y : T) (o : Option ℕ) → unless_row refutes x o ≡ Ok y → o ≡ None
unless_none refutes x y None e = refl
unless_none refutes x y (Some n) e = absurd (cc e)

pub apart_links : (links same : List Candidate) → apart_verified links ≡ Ok same → AllPairs SharesNoRecord links
apart_links links same e = apart_all [] links (λ i j d lt within. absurd (omega (arith, within))) (unless_none refutation.Reused links same (first_reused [] links) e)

abbrev sum_of : PricePair → ℤ
sum_of prices = price_sum prices.a +ℤ price_sum prices.b

-- what the sums come to, where prices cover every candidate
after_covered : (cs links : List Candidate) (prices : PricePair) → All (IsCovered prices.a prices.b) cs → sums_verified cs links prices ≡ balanced links (worth links) (sum_of prices)
after_covered cs links prices covered = ap (λ o. covered_then o (balanced links (worth links) (sum_of prices))) (all_covered cs prices covered)

pub sums_ok : (cs links : List Candidate) (prices : PricePair) → All (IsCovered prices.a prices.b) cs → worth links ≡ price_sum prices.a +ℤ price_sum prices.b → sums_verified cs links prices ≡ Ok links
sums_ok cs links prices covered sums =
    after_covered cs links prices covered ∙ ap (λ (t : Bool). if t then Ok links else Err (refutation.Sum (worth links) (sum_of prices))) ((Decides-int_eq (worth links) (sum_of prices)).1 sums)

pub sums_differ : (cs links : List Candidate) (prices : PricePair) (l p : ℤ) → All (IsCovered prices.a prices.b) cs → l ≡ worth links → p ≡ price_sum prices.a +ℤ price_sum prices.b → (l ≡ p → ⊥)
    → sums_verified cs links prices ≡ Err (refutation.Sum l p)
sums_differ cs links prices l p covered is_l is_p apart =
    let differ : int_eq (worth links) (sum_of prices) ≡ false = false_from_ne_true (int_eq (worth links) (sum_of prices)) (λ e. apart (is_l ∙ (Decides-int_eq (worth links) (sum_of prices)).0 e ∙ sym is_p)) in
    after_covered cs links prices covered ∙ ap (λ (t : Bool). if t then Ok links else Err (refutation.Sum (worth links) (sum_of prices))) differ
    ∙ ap (λ (x : ℤ). Err (refutation.Sum x (sum_of prices))) (sym is_l) ∙ ap (λ (y : ℤ). Err (refutation.Sum l y)) (sym is_p)

pub sums_uncovered : (cs links : List Candidate) (prices : PricePair) (i : ℕ) (d : Candidate) → IsFirstBad (IsCovered prices.a prices.b) cs (Some i) → sums_verified cs links prices ≡ Err (refutation.Uncovered (pair_of (get_or cs i d)))
sums_uncovered cs links prices i d h = ap (λ o. covered_then o (balanced links (worth links) (sum_of prices))) (first_not_covered cs prices i d h)
