-- What a journal keeps, of one entry more.
use Rattle.std.proofs.Common.{◌≡◌, ◌<◌, ◌+◌, ◌∷◌, ◌++◌, ◌∙◌, ℕ, ℤ, List, [], AllPairs, length, get_or, slice_get, Some, Bool, true, false, nat_lt, arith, ap, refl, subst, length-append, append_assoc, ◌≤ℤ◌, int_le, Option, None, sym, if◌then◌else◌, option_and_then, ◌≤◌, inl, inr, nat_eq, ◌&&◌, Err, suc, All, option_map, reverse, Ordering, Equal, find}
use Rattle.std.proofs.lemmas.Bool.{and_parts, cases_lt}
use Rattle.std.proofs.lemmas.Bool.Decides.{nat_tests}
use Rattle.std.proofs.lemmas.Int.{ints}
use Rattle.std.proofs.lemmas.List.{append-nil, get_or_append_left, reverse-append}
use Rattle.std.proofs.lemmas.List.Elements.{All-push}
use Rattle.std.proofs.lemmas.List.Quantifiers.{all_pairs_push}
use Rattle.std.proofs.lemmas.List.Folds.{list_all_at, list_any_at, list_any_none}
use Rattle.std.proofs.lemmas.List.Sums.{AllPass-from_list_all, list_all-from_AllPass}
use Rattle.std.proofs.lemmas.Option.{get_or_from_slice_get, slice_get-get_or}
use Rattle.link_limits.specs.declared.TheConstants.{MOST_ENTRIES}
use Rattle.link_base.specs.Words.{IsDay, IsPairBefore}
use Rattle.review_journal.specs.Batch.{is_not_before, is_among}
use Rattle.review_journal.specs.Verdict.{all_fit, IsJournal, IsReviewer, fits_after, is_on, last_on, standing_verdict, verdict_on}
use Rattle.review_journal.specs.declared.entry.Entry.{Entry}
use Rattle.std.proofs.Math.Seq.{get_or-append_seam}
use Rattle.std.specs.Map.{lookup}
use Rattle.std.specs.Ordering.{is_eq, ordering_index}
use Rattle.std.specs.BTreeMap.{is_at, Updates}
use Rattle.review_journal.specs.Places.{IsIndexed, pair_cmp, place_of_pair, Places}
use Rattle.std.specs.List.Sorted.{IsBinarySearchResult, IsNonDecreasingBy}
use Rattle.link_base.specs.declared.rule.PairAt.{PairAt}
use Rattle.review_journal.specs.declared.batch.NewVerdict.{NewVerdict}
use Rattle.std.proofs.lemmas.List.Sorted.{All-permutation, IsPermutation-reverse}
use Rattle.link_base.specs.declared.rule.Step.TheVariants.{Single}
use Rattle.link_base.specs.declared.rule.Verdict.{Verdict}

all_fit-push : (earlier later : List Entry) (e : Entry) → all_fit earlier later ≡ true → fits_after (earlier ++ later) e ≡ true → all_fit earlier (later ++ e ∷ []) ≡ true
all_fit-push earlier [] e h fits =
    let here : fits_after earlier e ≡ true = subst (λ (es : List Entry). fits_after es e ≡ true) (append-nil earlier) fits in
    rw here refl
all_fit-push earlier (x ∷ later) e h fits =
    let parts = and_parts (fits_after earlier x) (all_fit (earlier ++ x ∷ []) later) h in
    rw (parts.0, all_fit-push (earlier ++ x ∷ []) later e parts.1 (rw append_assoc fits)) refl

not_before_at : (es : List Entry) (date : ℤ) → is_not_before es date ≡ true → (k : ℕ) (d : Entry) → k < length es → (get_or es k d).date ≤ℤ date
not_before_at es date h k d within =
    let passes : int_le (get_or es k d).date date ≡ true = AllPass-from_list_all (λ (e : Entry). int_le e.date date) es h k d within in
    grind (arith, ints)

pub journal_push : (es : List Entry) (e : Entry) → IsJournal es → length es < MOST_ENTRIES → IsDay e.date → is_not_before es e.date ≡ true → IsReviewer e.reviewer → fits_after es e ≡ true → IsJournal (es ++ e ∷ [])
journal_push es e h room day not_before reviewer fits = record {
  few = omega (arith, length-append es (e ∷ []));
  days = All-push (λ (x : Entry). IsDay x.date) es e h.days day;
  dates = all_pairs_push (λ (x y : Entry). x.date ≤ℤ y.date) es e h.dates (not_before_at es e.date not_before);
  reviewers = All-push (λ (x : Entry). IsReviewer x.reviewer) es e h.reviewers reviewer;
  steps = all_fit-push [] es e h.steps fits;
}

-- the day of the last entry is the latest
module _ (es : List Entry) (k : ℕ) (last : Entry) (date : ℤ) (dates : AllPairs (λ (x y : Entry). x.date ≤ℤ y.date) es) (at_end : k + 1 ≡ length es) (is : slice_get es k ≡ Some last) where
  older : (i : ℕ) (d : Entry) (test : Bool) → nat_lt i k ≡ test → i < length es → (get_or es i d).date ≤ℤ last.date
  older i d true earlier within =
      subst (λ (e : Entry). (get_or es i d).date ≤ℤ e.date) (get_or_from_slice_get es k last d is) (dates i k d (grind (arith, nat_tests)) (omega arith))
  older i d false later within =
      let same : i ≡ k = grind (arith, nat_tests) in
      let here : get_or es i d ≡ last = ap (λ n. get_or es n d) same ∙ get_or_from_slice_get es k last d is in
      rw here (omega (arith, ints))

  by_last : (test : Bool) → int_le last.date date ≡ test → is_not_before es date ≡ test
  by_last true passes =
      list_all-from_AllPass (λ (x : Entry). int_le x.date date) es (λ i d within. let before = older i d (nat_lt i k) refl within in grind (arith, ints))
  by_last false fails =
      list_all_at (λ (x : Entry). int_le x.date date) es k last (omega arith) (rw (get_or_from_slice_get es k last last is) fails)

  pub latest : is_not_before es date ≡ int_le last.date date
  latest = by_last (int_le last.date date) refl

-- The places of the last entries, and one entry more.

-- the last entry on a pair, of one entry more
pub last_on-push : (es : List Entry) (e : Entry) (a b : ℕ) → last_on (es ++ e ∷ []) a b ≡ (if is_on a b e then Some e else last_on es a b)
last_on-push es e a b = rw (reverse-append es (e ∷ [])) refl

get-push : (es : List Entry) (e : Entry) (q : ℕ) → q < length es → slice_get (es ++ e ∷ []) q ≡ slice_get es q
get-push es e q within =
    slice_get-get_or (es ++ e ∷ []) q e (omega (arith, length-append es (e ∷ [])))
    ∙ ap Some (get_or_append_left es (e ∷ []) e q within)
    ∙ sym (slice_get-get_or es q e within)

get-last : (es : List Entry) (e : Entry) → slice_get (es ++ e ∷ []) (length es) ≡ Some e
get-last es e =
    slice_get-get_or (es ++ e ∷ []) (length es) e (omega (arith, length-append es (e ∷ [])))
    ∙ ap Some (get_or-append_seam es e [] e)

still_found : (es : List Entry) (e : Entry) (o : Option ℕ) → ((q : ℕ) → o ≡ Some q → q < length es) → option_and_then (slice_get (es ++ e ∷ [])) o ≡ option_and_then (slice_get es) o
still_found es e None within = refl
still_found es e (Some q) within = get-push es e q (within q refl)

-- the order tells a pair from others
tested : (x y a b : ℕ) → is_eq (pair_cmp (x, y) (a, b)) ≡ (nat_eq x a && nat_eq y b)
tested x y a b = grind (arith, nat_tests)

module _ (old new : Places) (es : List Entry) (e : Entry) (place : ℕ) (indexed : IsIndexed old es) (at_end : place ≡ length es) (updates : Updates pair_cmp old new (e.a, e.b) (Some place)) where
  place_now : (a b : ℕ) (test : Bool) → is_on a b e ≡ test → place_of_pair new a b ≡ (if test then Some place else place_of_pair old a b)
  place_now a b test is = updates.0 (a, b) ∙ ap (λ t. if t then Some place else place_of_pair old a b) (tested e.a e.b a b ∙ is)

  found : (a b : ℕ) (test : Bool) → is_on a b e ≡ test → option_and_then (slice_get (es ++ e ∷ [])) (place_of_pair new a b) ≡ (if test then Some e else last_on es a b)
  found a b true is =
      ap (option_and_then (slice_get (es ++ e ∷ []))) (place_now a b true is) ∙ ap (slice_get (es ++ e ∷ [])) at_end ∙ get-last es e
  found a b false is =
      ap (option_and_then (slice_get (es ++ e ∷ []))) (place_now a b false is) ∙ still_found es e (place_of_pair old a b) (indexed.within a b) ∙ indexed.found a b

  within : (a b q : ℕ) (test : Bool) → is_on a b e ≡ test → place_of_pair new a b ≡ Some q → q < length es + 1
  within a b q true is there =
      let here : Some place ≡ Some q = sym (place_now a b true is) ∙ there in
      let same : place ≡ q = cc in
      omega arith
  within a b q false is there = omega (arith, indexed.within a b q (sym (place_now a b false is) ∙ there))

  pub indexed_push : IsIndexed new (es ++ e ∷ [])
  indexed_push = record {
    found = λ a b. found a b (is_on a b e) refl ∙ sym (last_on-push es e a b);
    within = λ a b q there. rw (length-append es (e ∷ [])) (within a b q (is_on a b e) refl there);
  }

-- the entry at the place of a pair
pub at_place : (places : Places) (es : List Entry) (a b place : ℕ) (e : Entry) → IsIndexed places es → Some place ≡ place_of_pair places a b → e ≡ get_or es place e → Some e ≡ last_on es a b
at_place places es a b place e indexed there is =
    ap Some is ∙ sym (slice_get-get_or es place e (indexed.within a b place (sym there))) ∙ ap (option_and_then (slice_get es)) there ∙ indexed.found a b

-- an index with the same entries is as good
pub indexed-same : (old new : Places) (es : List Entry) → new.entries ≡ old.entries → IsIndexed old es → IsIndexed new es
indexed-same old new es is indexed =
    let same : (a b : ℕ) → place_of_pair new a b ≡ place_of_pair old a b = λ a b. ap (lookup (is_at (pair_cmp (a, b)))) is in
    record {
      found = λ a b. ap (option_and_then (slice_get es)) (same a b) ∙ indexed.found a b;
      within = λ a b place there. indexed.within a b place (sym (same a b) ∙ there);
    }

-- A binary search in a rising list of pairs finds what stands there.

abbrev order_of : PairAt → NewVerdict → Ordering
order_of at v = pair_cmp (at.a, at.b) (v.a, v.b)

abbrev is_pair_of : NewVerdict → PairAt → Bool
is_pair_of v at = nat_eq at.a v.a && nat_eq at.b v.b

same_place : (at : PairAt) (v : NewVerdict) → is_eq (order_of at v) ≡ is_pair_of v at
same_place at v = tested at.a at.b v.a v.b

rise : (x y : PairAt) (v : NewVerdict) → IsPairBefore x y → ordering_index (order_of x v) ≤ ordering_index (order_of y v)
rise x y v before = grind (arith, nat_tests)

pairs_rise : (possible : List PairAt) (v : NewVerdict) → AllPairs IsPairBefore possible → IsNonDecreasingBy (λ at. ordering_index (order_of at v)) possible
pairs_rise possible v rising = λ i j d le within.
    elim (cases_lt i j) [
      | inl lt ↦ rise (get_or possible i d) (get_or possible j d) v (rising i j d lt within)
      | inr ge ↦ let same : i ≡ j = omega arith in rw same (omega arith)
    ]

-- a pair that is found, and one that is not
pub found_pair : (possible : List PairAt) (v : NewVerdict) (i : ℕ) (d : PairAt) → i < length possible → order_of (get_or possible i d) v ≡ Equal → is_among possible v ≡ true
found_pair possible v i d within is = list_any_at (is_pair_of v) possible i d within (sym (same_place (get_or possible i d) v) ∙ ap is_eq is)

pub missed_pair : (possible : List PairAt) (v : NewVerdict) (i : ℕ) → AllPairs IsPairBefore possible → IsBinarySearchResult (λ at. order_of at v) possible (Err i) → is_among possible v ≡ false
missed_pair possible v i rising place = list_any_none (is_pair_of v) possible (λ k d within.
    let parts = place (pairs_rise possible v rising) in
    elim (cases_lt k i) [
      | inl below ↦ sym (same_place (get_or possible k d) v) ∙ ap is_eq (parts.0 k d (omega arith) below)
      | inr above ↦ sym (same_place (get_or possible k d) v) ∙ ap is_eq (parts.1 k d above within)
    ])

-- Verdicts that stand alone.

abbrev stands : Option Entry → Option Verdict
stands found = option_map (λ (e : Entry). standing_verdict e.step e.verdict) found

abbrev as_given : Option Entry → Option Verdict
as_given found = option_map (λ (e : Entry). e.verdict) found

next_stands : (t : Bool) (e : Entry) (later : Option Entry) → e.step ≡ Single → stands later ≡ as_given later → stands (if t then Some e else later) ≡ as_given (if t then Some e else later)
next_stands true e later alone rest = ap (λ s. Some (standing_verdict s e.verdict)) alone
next_stands false e later alone rest = rest

first_stands : (test : Entry → Bool) (es : List Entry) → All (λ (e : Entry). e.step ≡ Single) es → stands (find test es) ≡ as_given (find test es)
first_stands test [] alone = refl
first_stands test (e ∷ es) alone =
    next_stands (test e) e (find test es) (alone 0 e (omega arith)) (first_stands test es (λ k d within. alone (suc k) d (omega arith)))

pub verdict_stands : (es : List Entry) (a b : ℕ) → All (λ (e : Entry). e.step ≡ Single) es → verdict_on es a b ≡ option_map (λ (e : Entry). e.verdict) (last_on es a b)
verdict_stands es a b alone =
    first_stands (is_on a b) (reverse es) (All-permutation (λ (e : Entry). e.step ≡ Single) es (reverse es) (IsPermutation-reverse es) alone)
