-- Links of which no two share a record.
use Rattle.std.proofs.Common.{◌≡◌, ◌<◌, ◌≤◌, ◌+◌, ◌∷◌, ◌++◌, ◌∙◌, ℕ, Bool, true, false, List, [], All, length, get_or, if◌then◌else◌, map, Option, Some, None, inl, inr, refl, sym, ap, subst, arith, length-append, AllPairs, option_map, ◌≢◌, ◌-◌, ◌⊎◌, zero, suc, nat_lt, ◌&&◌, Contains, find, MatchOption, bytes_eq}
use Rattle.std.specs.List.{list_any, list_all, position_or_len, slice_get}
use Rattle.std.proofs.Math.Seq.{get_or-append_seam}
use Rattle.std.proofs.lemmas.Bool.{cases_lt, false_from_ne_true, true≢false, and_parts, cases_Bool}
use Rattle.std.proofs.lemmas.Bool.Decides.{nat_tests}
use Rattle.std.proofs.lemmas.List.{append_assoc, append-nil, get_or_append_left, get_or-map, length-map, get_or_default}
use Rattle.std.proofs.lemmas.List.Elements.{All-map, All-contains, Contains-get_or}
use Rattle.std.proofs.lemmas.List.Folds.{list_any_at, list_any_none, find_at, list_all_at}
use Rattle.std.proofs.lemmas.List.Quantifiers.{all_pairs_push}
use Rattle.price_check.specs.Assignment.{IsBefore, no_candidate, SharesNoRecord, IsWithin}
use Rattle.link_base.specs.Words.{IsPairBefore, HaveDistinctIds, id_at, no_record, position_of_id, Record}
use Rattle.link_base.specs.declared.rule.Candidate.{Candidate}
use Rattle.link_base.specs.declared.rule.PairAt.{PairAt}
use Rattle.price_check.specs.Search.{IsPairWithin}
use Rattle.price_check.specs.Verdict.{IsFirstReused, IsFresh, IsCandidate, IsCandidateAt}
use Rattle.written_check.specs.Certified.{pair_of}
use Rattle.written_check.specs.LinkRows.{apart_verified, first_reused, shares_record, after_all, candidate_in, HasRowIds, goes_before, IsPlaceOf, IsPlaceWithIds, links_in, taken_more, unless_row}
use Rattle.written_check.specs.declared.refutation.Refutation.TheVariants as refutation
use Rattle.std.proofs.lemmas.List.Sums.{AllPass-from_list_all, fails_before_first, list_all-from_AllPass, passes_at_first, position_or_len_is}
use Rattle.std.proofs.lemmas.Option.{cond_some, get_or_from_slice_get, same_Some, slice_get-get_or, slice_get_cases, slice_get_within}
use Rattle.std.proofs.lemmas.Slice.Eq.{bytes_eq-Decides}
use Rattle.price_check.specs.PlaceLaws.{same_member}
use Rattle.link_report.specs.Reading.{row_same, same_itself, same_row}
use Rattle.link_report.specs.LinksText.{link_fields}

-- the records of links, one by one
pub pair_at : (links : List Candidate) (k : ℕ) (d : PairAt) → k < length links → get_or (map pair_of links) k d ≡ pair_of (get_or links k no_candidate)
pair_at links k d lt = get_or-map pair_of links k no_candidate d lt

pub pairs_rise : (links : List Candidate) → AllPairs IsBefore links → AllPairs IsPairBefore (map pair_of links)
pairs_rise links rising i j d lt within =
    let w : j < length links = omega (arith, length-map links pair_of, within) in
    subst (λ (x : PairAt). IsPairBefore x (get_or (map pair_of links) j d)) (sym (pair_at links i d (omega arith)))
    (subst (λ (y : PairAt). IsPairBefore (pair_of (get_or links i no_candidate)) y) (sym (pair_at links j d w)) (rising i j no_candidate lt w))

pub pairs_within : (links : List Candidate) (rows_b : ℕ) → All (λ (l : Candidate). l.b < rows_b) links → All (IsPairWithin rows_b) (map pair_of links)
pairs_within links rows_b within = All-map (IsPairWithin rows_b) pair_of links within

not_shared : (c d : Candidate) → SharesNoRecord d c → shares_record c d ≡ false
not_shared c d apart = false_from_ne_true (shares_record c d) (λ e. apart.0 (grind (arith, nat_tests, e, apart.1)))

shared_so : (c d : Candidate) → shares_record c d ≡ false → SharesNoRecord d c
shared_so c d e = (λ same. grind (arith, nat_tests), λ same. grind (arith, nat_tests))

none_pass : {X : Type 0} (p : X → Bool) (xs : List X) → list_any p xs ≡ false → (k : ℕ) (d : X) → k < length xs → p (get_or xs k d) ≡ false
none_pass p xs e k d lt = false_from_ne_true (p (get_or xs k d)) (λ yes. true≢false (sym (list_any_at p xs k d lt yes) ∙ e))

-- a link that shares no record with those that stand before it
abbrev pub IsApartAt : List Candidate → ℕ → Type 0
IsApartAt links i = (k : ℕ) (d : Candidate) → k < i → SharesNoRecord (get_or links k d) (get_or links i d)

module _ (before : List Candidate) (c : Candidate) (rest : List Candidate) where
  pub apart_there : list_any (shares_record c) before ≡ false → IsApartAt (before ++ c ∷ rest) (length before)
  apart_there none k d lt =
      subst (λ (x : Candidate). SharesNoRecord x (get_or (before ++ c ∷ rest) (length before) d)) (sym (get_or_append_left before (c ∷ rest) d k lt))
      (subst (λ (y : Candidate). SharesNoRecord (get_or before k d) y) (sym (get_or-append_seam before c rest d)) (shared_so c (get_or before k d) (none_pass (shares_record c) before none k d lt)))

  pub none_there_shares : IsApartAt (before ++ c ∷ rest) (length before) → list_any (shares_record c) before ≡ false
  none_there_shares apart = list_any_none (shares_record c) before (λ k d lt. not_shared c (get_or before k d) (both k d lt))
    where
      both : (k : ℕ) (d : Candidate) → k < length before → SharesNoRecord (get_or before k d) c
      both k d lt =
          subst (λ (x : Candidate). SharesNoRecord x c) (get_or_append_left before (c ∷ rest) d k lt)
          (subst (λ (y : Candidate). SharesNoRecord (get_or (before ++ c ∷ rest) k d) y) (get_or-append_seam before c rest d) (apart k d lt))

-- where none is reused, no two share a record
apart_by : (before : List Candidate) (c : Candidate) (rest : List Candidate) → AllPairs SharesNoRecord before
    → (AllPairs SharesNoRecord (before ++ c ∷ []) → first_reused (before ++ c ∷ []) rest ≡ None → AllPairs SharesNoRecord ((before ++ c ∷ []) ++ rest))
    → (t : Bool) → list_any (shares_record c) before ≡ t → (if t then Some (length before + 1) else first_reused (before ++ c ∷ []) rest) ≡ None → AllPairs SharesNoRecord (before ++ c ∷ rest)
apart_by before c rest apart go true e is = absurd (cc is)
apart_by before c rest apart go false e is =
    subst (AllPairs SharesNoRecord) (append_assoc before (c ∷ []) rest)
    (go (all_pairs_push SharesNoRecord before c apart (λ k d lt. shared_so c (get_or before k d) (none_pass (shares_record c) before e k d lt))) is)

pub apart_all : (before rest : List Candidate) → AllPairs SharesNoRecord before → first_reused before rest ≡ None → AllPairs SharesNoRecord (before ++ rest)
apart_all before [] apart is = subst (AllPairs SharesNoRecord) (sym (append-nil before)) apart
apart_all before (c ∷ rest) apart is = apart_by before c rest apart (apart_all (before ++ c ∷ []) rest) (list_any (shares_record c) before) refl is

pub apart_none : (before rest : List Candidate) → AllPairs SharesNoRecord (before ++ rest) → first_reused before rest ≡ None
apart_none before [] apart = refl
apart_none before (c ∷ rest) apart =
    let none : list_any (shares_record c) before ≡ false =
    none_there_shares before c rest (λ k d lt. apart k (length before) d lt (omega (arith, length-append before (c ∷ rest)))) in
    rw none (apart_none (before ++ c ∷ []) rest (subst (AllPairs SharesNoRecord) (sym (append_assoc before (c ∷ []) rest)) apart))

-- the first link that is not apart from those before it is the one that is reused
reused_by : (i : ℕ) (before : List Candidate) (c : Candidate) (rest all : List Candidate) → before ++ c ∷ rest ≡ all → length before ≤ i → ((k : ℕ) → k < i → IsApartAt all k) → (IsApartAt all i → ⊥)
    → (length (before ++ c ∷ []) ≤ i → first_reused (before ++ c ∷ []) rest ≡ Some (i + 1))
    → (t : Bool) → list_any (shares_record c) before ≡ t → (if t then Some (length before + 1) else first_reused (before ++ c ∷ []) rest) ≡ Some (i + 1)
reused_by i before c rest all e past fresh reused go true shares = elim (cases_lt (length before) i) [
  | inl p ↦ absurd (true≢false (sym shares ∙ none_there_shares before c rest (subst (λ l. IsApartAt l (length before)) (sym e) (fresh (length before) p))))
  | inr q ↦ (let same : length before ≡ i = omega arith in ap (λ n. Some (n + 1)) same)
]
reused_by i before c rest all e past fresh reused go false none = elim (cases_lt (length before) i) [
  | inl p ↦ go (omega (arith, p, length-append before (c ∷ [])))
  | inr q ↦ (let same : length before ≡ i = omega arith in
      absurd (reused (subst (λ n. IsApartAt all n) same (subst (λ l. IsApartAt l (length before)) e (apart_there before c rest none)))))
]

pub reused_at : (i : ℕ) (before rest all : List Candidate) → before ++ rest ≡ all → i < length all → length before ≤ i → ((k : ℕ) → k < i → IsApartAt all k) → (IsApartAt all i → ⊥)
    → first_reused before rest ≡ Some (i + 1)
reused_at i before [] all e within past fresh reused =
    absurd (omega (arith, within, past, ap (λ (l : List Candidate). length l) (append-nil before), ap (λ (l : List Candidate). length l) e))
reused_at i before (c ∷ rest) all e within past fresh reused =
    reused_by i before c rest all e past fresh reused
    (λ more. reused_at i (before ++ c ∷ []) rest all (append_assoc before (c ∷ []) rest ∙ e) within more fresh reused) (list_any (shares_record c) before) refl

-- what is told of the records of links is told of the links
abbrev pub no_pair : PairAt
no_pair = record { a = 0; b = 0 }

module _ (links : List Candidate) (i : ℕ) (within : i < length links) where
  pub apart_of_fresh : IsFresh (map pair_of links) i → IsApartAt links i
  apart_of_fresh fresh k d lt =
      let pair_k : get_or (map pair_of links) k no_pair ≡ pair_of (get_or links k d) = get_or-map pair_of links k d no_pair (omega arith) in
      let pair_i : get_or (map pair_of links) i no_pair ≡ pair_of (get_or links i d) = get_or-map pair_of links i d no_pair within in
      let f = fresh k no_pair lt in
      (λ e. f.0 (ap (λ (p : PairAt). p.a) pair_k ∙ e ∙ ap (λ (p : PairAt). p.a) (sym pair_i)), λ e. f.1 (ap (λ (p : PairAt). p.b) pair_k ∙ e ∙ ap (λ (p : PairAt). p.b) (sym pair_i)))

  pub fresh_of_apart : IsApartAt links i → IsFresh (map pair_of links) i
  fresh_of_apart apart k d lt =
      let pair_k : get_or (map pair_of links) k d ≡ pair_of (get_or links k no_candidate) = pair_at links k d (omega arith) in
      let pair_i : get_or (map pair_of links) i d ≡ pair_of (get_or links i no_candidate) = pair_at links i d within in
      let f = apart k no_candidate lt in
      (λ e. f.0 (ap (λ (p : PairAt). p.a) (sym pair_k) ∙ e ∙ ap (λ (p : PairAt). p.a) pair_i), λ e. f.1 (ap (λ (p : PairAt). p.b) (sym pair_k) ∙ e ∙ ap (λ (p : PairAt). p.b) pair_i))

-- links by their places
module _ (links : List Candidate) where
  pub apart_if_fresh : ((i : ℕ) → i < length (map pair_of links) → IsFresh (map pair_of links) i) → AllPairs SharesNoRecord links
  apart_if_fresh fresh i j d lt within = apart_of_fresh links j within (fresh j (omega (arith, within, length-map links pair_of))) i d lt

  pub apart_reused : (place : Option ℕ) → IsFirstReused (map pair_of links) place → apart_verified links ≡ unless_row refutation.Reused links (option_map (λ i. i + 1) place)
  apart_reused None fresh = ap (unless_row refutation.Reused links) (apart_none [] links (apart_if_fresh fresh))
  apart_reused (Some i) h =
      let within : i < length links = omega (arith, h.0, length-map links pair_of) in
      ap (unless_row refutation.Reused links)
      (reused_at i [] links links refl within (omega arith) (λ k lt. apart_of_fresh links k (omega arith) (h.1 k lt)) (λ apart. h.2 (fresh_of_apart links i within apart)))

-- The candidates of the rows of written links.

abbrev pub Row : Type 0
Row = List (List ℕ)

pub found_none : {X : Type 0} (p : X → Bool) (xs : List X) → All (λ x. p x ≡ false) xs → find p xs ≡ None
found_none p [] all = refl
found_none p (x ∷ xs) all = rw (all 0 x (omega arith)) (found_none p xs (λ k d lt. all (suc k) d (omega arith)))

pub record IsFound {X : Type 0} (p : X → Bool) (xs : List X) (x : X) : Type 0 where
  pub passes : p x ≡ true
  pub among : Contains xs x

no_some : {X : Type 0} {P : Type 0} (x : X) → None ≡ Some x → P
no_some x e = absurd (cc e)

pub all_fail : {X : Type 0} (p : X → Bool) (xs : List X) → find p xs ≡ None → All (λ x. p x ≡ false) xs
all_fail p xs is k d lt = elim (cases_lt (position_or_len p xs) (length xs)) [
  | inl found ↦ no_some (get_or xs (position_or_len p xs) d) (sym is ∙ find_at p xs ∙ slice_get-get_or xs (position_or_len p xs) d found)
  | inr past ↦ fails_before_first p xs k d (omega arith)
]

pub found_some : {X : Type 0} (p : X → Bool) (xs : List X) (x : X) → find p xs ≡ Some x → IsFound p xs x
found_some p xs x is =
    let at = sym (find_at p xs) ∙ is in
    let within = slice_get_within xs (position_or_len p xs) x at in
    let there = get_or_from_slice_get xs (position_or_len p xs) x x at in
    record { passes = subst (λ y. p y ≡ true) there (passes_at_first p xs x within); among = (position_or_len p xs, within, there) }

found_is : {X : Type 0} (p : X → Bool) (xs : List X) (x : X) (o : Option X) → find p xs ≡ o → Contains xs x → p x ≡ true → ((y : X) → IsFound p xs y → y ≡ x) → o ≡ Some x
found_is p xs x None is among passes only = absurd (true≢false (sym passes ∙ All-contains (λ y. p y ≡ false) xs x (all_fail p xs is) among))
found_is p xs x (Some y) is among passes only = ap Some (only y (found_some p xs y is))

-- a member that passes, and is the only one that does, is found
pub found_only : {X : Type 0} (p : X → Bool) (xs : List X) (x : X) → Contains xs x → p x ≡ true → ((y : X) → IsFound p xs y → y ≡ x) → find p xs ≡ Some x
found_only p xs x among passes only = found_is p xs x (find p xs) refl among passes only

-- the record at a position is the one that its id names
pub known_again : (file : List Record) (at : ℕ) → HaveDistinctIds file → at < length file → position_of_id (id_at file at) file ≡ Some at
known_again file at distinct within =
    let here : position_or_len (λ (r : Record). bytes_eq (id_at file at) r.id) file ≡ at =
    position_or_len_is (λ (r : Record). bytes_eq (id_at file at) r.id) file at no_record (omega arith)
    (λ k lt. false_from_ne_true (bytes_eq (id_at file at) (id_at file k)) (λ same. distinct k at no_record lt within (sym ((bytes_eq-Decides (id_at file at) (id_at file k)).0 same))))
    (λ lt. (bytes_eq-Decides (id_at file at) (id_at file at)).1 refl) in
    let test : nat_lt at (length file) ≡ true = grind (arith, nat_tests) in
    rw (here, test) refl

-- a record whose id is found stands where it was found
pub stands_there : (file : List Record) (id : List ℕ) (at found : ℕ) → HaveDistinctIds file → at < length file → id_at file at ≡ id → Some found ≡ position_of_id id file → at ≡ found
stands_there file id at found distinct within is place =
    same_Some at found (sym (known_again file at distinct within) ∙ ap (λ (t : List ℕ). position_of_id t file) is ∙ sym place)

module _ (cs : List Candidate) (a b : List Record) (row : Row) (within : All (IsWithin (length a) (length b)) cs) where
  module _ (distinct_a : HaveDistinctIds a) (distinct_b : HaveDistinctIds b) (of_a of_b : ℕ) (is_a : Some of_a ≡ position_of_id (get_or row 0 []) a) (is_b : Some of_b ≡ position_of_id (get_or row 1 []) b) where
    abbrev pair : PairAt
    pair = record { a = of_a; b = of_b }

    places : (c : Candidate) → IsWithin (length a) (length b) c → HasRowIds a b row c → (c.a ≡ of_a) × (c.b ≡ of_b)
    places c inside ids = (stands_there a (get_or row 0 []) c.a of_a distinct_a inside.0 ids.0 is_a, stands_there b (get_or row 1 []) c.b of_b distinct_b inside.1 ids.1 is_b)

    pub none_there : (IsCandidate cs pair → ⊥) → All (λ (c : Candidate). HasRowIds a b row c → ⊥) cs
    none_there none k d lt ids =
        let at = places (get_or cs k d) (within k d lt) ids in
        none (k, (lt, λ e. (ap (λ (c : Candidate). c.a) (get_or_default cs k e d lt) ∙ at.0, ap (λ (c : Candidate). c.b) (get_or_default cs k e d lt) ∙ at.1)))

    pub only_there : (place : ℕ) → AllPairs IsBefore cs → IsCandidateAt cs pair place → All (λ (c : Candidate). HasRowIds a b row c → c ≡ get_or cs place no_candidate) cs
    only_there place rising at k d lt ids =
        let there = places (get_or cs k d) (within k d lt) ids in
        let here = at.1 no_candidate in
        same_member cs (get_or cs k d) (get_or cs place no_candidate) rising (Contains-get_or cs k d lt) (Contains-get_or cs place no_candidate at.0)
        (there.0 ∙ sym here.0) (there.1 ∙ sym here.1)

-- a row that is that of a candidate has its ids
ids_of_row : (a b : List Record) (c : Candidate) (row : Row) → same_row (link_fields a b c) row ≡ true → HasRowIds a b row c
ids_of_row a b c row same =
    let is = row_same (link_fields a b c) row same in
    (ap (λ (r : Row). get_or r 0 []) is, ap (λ (r : Row). get_or r 1 []) is)

pub same_turned : (x y : Row) → same_row x y ≡ same_row y x
same_turned x y =
    elim (cases_Bool (same_row x y)) [
      | inl e ↦ (let is : x ≡ y = row_same x y e in λ i. same_row (is i) (sym is i))
      | inr e ↦ e ∙ sym (false_from_ne_true (same_row y x) (λ f. true≢false (sym (same_itself x) ∙ ap (λ (r : Row). same_row x r) (sym (row_same y x f)) ∙ e)))
    ]

module _ (cs : List Candidate) (a b : List Record) (row : Row) where
  pub no_candidate_in : All (λ (c : Candidate). HasRowIds a b row c → ⊥) cs → candidate_in cs a b row ≡ None
  no_candidate_in none = found_none (λ c. same_row (link_fields a b c) row) cs (λ k d lt. false_from_ne_true (same_row (link_fields a b (get_or cs k d)) row) (λ e. none k d lt (ids_of_row a b (get_or cs k d) row e)))

  module _ (place : ℕ) (lt : place < length cs) (only : All (λ (c : Candidate). HasRowIds a b row c → c ≡ get_or cs place no_candidate) cs) where
    abbrev there : Candidate
    there = get_or cs place no_candidate

    pub candidate_there : same_row row (link_fields a b there) ≡ true → candidate_in cs a b row ≡ Some there
    candidate_there same =
        found_only (λ c. same_row (link_fields a b c) row) cs there (Contains-get_or cs place no_candidate lt) (same_turned (link_fields a b there) row ∙ same)
        (λ y found. All-contains (λ (c : Candidate). HasRowIds a b row c → c ≡ there) cs y only found.among (ids_of_row a b y row found.passes))

    pub another_row : same_row row (link_fields a b there) ≡ false → candidate_in cs a b row ≡ None
    another_row other = found_none (λ c. same_row (link_fields a b c) row) cs (λ k d within. false_from_ne_true (same_row (link_fields a b (get_or cs k d)) row) (λ e.
        true≢false (sym (ap (λ (x : Candidate). same_row (link_fields a b x) row) (sym (only k d within (ids_of_row a b (get_or cs k d) row e))) ∙ e) ∙ same_turned (link_fields a b there) row ∙ other)))

-- one stands before another exactly where the test says so
pub before_so : (x y : Candidate) → IsBefore x y → goes_before x y ≡ true
before_so x y (inl p) = grind (arith, nat_tests)
before_so x y (inr p) = grind (arith, nat_tests)

pub so_before : (x y : Candidate) → goes_before x y ≡ true → IsBefore x y
so_before x y e = grind (arith, nat_tests)

pub not_so : (x y : Candidate) → (IsBefore x y → ⊥) → goes_before x y ≡ false
not_so x y not = false_from_ne_true (goes_before x y) (λ e. not (so_before x y e))

before_trans : (x y z : Candidate) → IsBefore x y → IsBefore y z → IsBefore x z
before_trans x y z (inl p) (inl q) = inl (omega arith)
before_trans x y z (inl p) (inr q) = inl (omega (arith, p, q.0))
before_trans x y z (inr p) (inl q) = inl (omega (arith, q, p.0))
before_trans x y z (inr p) (inr q) = inr (omega (arith, p.0, q.0), omega (arith, p.1, q.1))

module _ (taken : List Candidate) (c : Candidate) (last : ℕ) (is_last : length taken ≡ last + 1) where
  pub after_last : AllPairs IsBefore taken → IsBefore (get_or taken last no_candidate) c → list_all (λ d. goes_before d c) taken ≡ true
  after_last rising before = list_all-from_AllPass (λ d. goes_before d c) taken (λ k d lt. before_so (get_or taken k d) c (each k d lt))
    where
      at : (k : ℕ) (d : Candidate) → k < length taken → k < last ⊎ (k ≡ last) → IsBefore (get_or taken k d) c
      at k d lt (inl p) = before_trans (get_or taken k d) (get_or taken last d) c (rising k last d p (omega arith)) (subst (λ (x : Candidate). IsBefore x c) (get_or_default taken last no_candidate d (omega arith)) before)
      at k d lt (inr p) = subst (λ (x : Candidate). IsBefore x c) (get_or_default taken last no_candidate d (omega arith) ∙ ap (λ n. get_or taken n d) (sym p)) before

      each : (k : ℕ) (d : Candidate) → k < length taken → IsBefore (get_or taken k d) c
      each k d lt = at k d lt (grind arith)

  pub not_after_last : (IsBefore (get_or taken last no_candidate) c → ⊥) → list_all (λ d. goes_before d c) taken ≡ false
  not_after_last not = list_all_at (λ d. goes_before d c) taken last no_candidate (omega arith) (not_so (get_or taken last no_candidate) c not)

-- whether a candidate stands after each of rising ones is whether it stands after the last
pub last_decides : (taken : List Candidate) (d c : Candidate) → AllPairs IsBefore taken → Some d ≡ slice_get taken (length taken - 1) → goes_before d c ≡ list_all (λ x. goes_before x c) taken
last_decides taken d c rising is = by_length (length taken) refl
  where
    told : (last : ℕ) → length taken ≡ last + 1 → get_or taken last no_candidate ≡ d
    told last e = let at : last ≡ length taken - 1 = omega arith in ap (λ n. get_or taken n no_candidate) at ∙ get_or_from_slice_get taken (length taken - 1) d no_candidate (sym is)

    by_test : (last : ℕ) → length taken ≡ last + 1 → (t : Bool) → goes_before d c ≡ t → t ≡ list_all (λ x. goes_before x c) taken
    by_test last e true h = sym (after_last taken c last e rising (subst (λ (x : Candidate). IsBefore x c) (sym (told last e)) (so_before d c h)))
    by_test last e false h = sym (not_after_last taken c last e (λ before. true≢false (sym (before_so d c (subst (λ (x : Candidate). IsBefore x c) (told last e) before)) ∙ h)))

    by_length : (n : ℕ) → length taken ≡ n → goes_before d c ≡ list_all (λ x. goes_before x c) taken
    by_length zero e = elim ((slice_get_cases taken (length taken - 1)).1) [
      | inl h ↦ absurd (omega (arith, h.1))
      | inr h ↦ no_some d (sym (is ∙ h.1))
    ]
    by_length (suc last) e = by_test last (omega arith) (goes_before d c) refl

has_both : (x y v w : List ℕ) → (bytes_eq x y && bytes_eq v w) ≡ true → (x ≡ y) × (v ≡ w)
has_both x y v w e = let parts = and_parts (bytes_eq x y) (bytes_eq v w) e in ((bytes_eq-Decides x y).0 parts.0, (bytes_eq-Decides v w).0 parts.1)

module _ (cs : List Candidate) (a b : List Record) (row : Row) (within : All (IsWithin (length a) (length b)) cs) (rising : AllPairs IsBefore cs) (distinct_a : HaveDistinctIds a) (distinct_b : HaveDistinctIds b) where
  pub place_is : (of_a of_b : ℕ) (place : Option ℕ) → Some of_a ≡ position_of_id (get_or row 0 []) a → Some of_b ≡ position_of_id (get_or row 1 []) b
      → MatchOption place (IsCandidate cs (record { a = of_a; b = of_b }) → ⊥) (λ k. IsCandidateAt cs (record { a = of_a; b = of_b }) k) → IsPlaceOf cs a b row place
  place_is of_a of_b None is_a is_b h = none_there cs a b row within distinct_a distinct_b of_a of_b is_a is_b h
  place_is of_a of_b (Some k) is_a is_b h = (h.0, only_there cs a b row within distinct_a distinct_b of_a of_b is_a is_b k rising h)

  -- a candidate with the ids of a row is the only one
  pub near_is : (k : ℕ) → IsPlaceWithIds cs a b row k → IsPlaceOf cs a b row (Some k)
  near_is k at =
      let c = get_or cs k no_candidate in
      let inside = within k no_candidate at.0 in
      let ids = has_both (id_at a c.a) (get_or row 0 []) (id_at b c.b) (get_or row 1 []) at.1 in
      place_is c.a c.b (Some k) (sym (known_again a c.a distinct_a inside.0) ∙ ap (λ (t : List ℕ). position_of_id t a) ids.0)
      (sym (known_again b c.b distinct_b inside.1) ∙ ap (λ (t : List ℕ). position_of_id t b) ids.1)
      (at.0, λ d. (ap (λ (x : Candidate). x.a) (get_or_default cs k d no_candidate at.0), ap (λ (x : Candidate). x.b) (get_or_default cs k d no_candidate at.0)))

-- a candidate that is taken stands after those that were taken
module _ (taken : List Candidate) where
  pub taken_rising : (found : Option Candidate) (c : Candidate) → AllPairs IsBefore taken → Some c ≡ after_all taken found → AllPairs IsBefore (taken ++ c ∷ [])
  taken_rising None c rising is = no_some c (sym is)
  taken_rising (Some d) c rising is =
      let passed = cond_some (list_all (λ x. goes_before x d) taken) d c (sym is) in
      subst (λ (x : Candidate). AllPairs IsBefore (taken ++ x ∷ [])) passed.1 (all_pairs_push IsBefore taken d rising (λ k y lt. so_before (get_or taken k y) d (AllPass-from_list_all (λ x. goes_before x d) taken passed.0 k y lt)))

  pub link_taken : (cs : List Candidate) (a b : List Record) (row : Row) (rows : List Row) (c : Candidate) → Some c ≡ after_all taken (candidate_in cs a b row) → links_in cs a b taken (row ∷ rows) ≡ links_in cs a b (taken ++ c ∷ []) rows
  link_taken cs a b row rows c is = ap (taken_more (λ more. links_in cs a b more rows) taken) (sym is)
