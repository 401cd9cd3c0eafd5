-- Records by their ids and their rows.
use Rattle.std.proofs.Common.{◌≡◌, ◌+◌, ◌<◌, ◌∷◌, ◌∙◌, ℕ, zero, suc, List, [], length, get_or, not, cond, Option, Some, None, refl, sym, ap, arith, IfNone, replicate, ◌≢◌, ◌≤◌, ◌-◌, ◌==◌, ◌⊎◌, Bool, true, false, inl, inr, nat_lt, subst, eqb-true, eq-eqb, ltb-true, take, All, IsTrue, if◌then◌else◌, slice_get, ◌++◌, drop, length-drop, sum_by, bytes_eq}
use Rattle.std.specs.List.{position_or_len}
use Rattle.link_base.specs.declared.standard.Value.{Value}
use Rattle.link_base.specs.Words.{ids_alone, HaveDistinctIds, IsFreshId, position_of_id, Record, records_of, BeginsAs, IsPlaced, value_in, values_in, AreDistinct, IsNewId, position_among, AreRising, comes_before, is_lesser, EndsAt, pieces_from, AreOpen, WrittenRows, with_row, with_value, written_rows}
use Rattle.std.proofs.lemmas.Bool.{cases_Bool, false≢true}
use Rattle.std.proofs.lemmas.Bool.Decides.{nat_tests}
use Rattle.std.proofs.lemmas.List.{ext_get_or, get_or-take, get_or_default, length-take, take_more, drop-append-le, length_push}
use Rattle.std.proofs.lemmas.Option.{get_or_from_slice_get, slice_get-get_or, slice_get_within}
use Rattle.link_base.proofs.RegionFacts.{found_at_place, length_values, none_added, one_added, among_first, count_items, ends_push, rest_closed}
use Rattle.link_texts.specs.Texts.{stands_among}
use Rattle.value_pool.proofs.SearchLemmas.{held_where, none-held}
use Rattle.value_pool.specs.Pool.{with_text, PoolState}
use Rattle.std.proofs.Math.Seq.{drop-length}
use Rattle.link_base.specs.declared.rows.Cell.{Cell}

abbrev Rows : Type 0
Rows = List (List Value)

pub length_records : (ids : List (List ℕ)) (rows : Rows) → length ids ≡ length rows → length (records_of ids rows) ≡ length ids
length_records [] rows e = refl
length_records (id ∷ ids) [] e = absurd (omega (arith, e))
length_records (id ∷ ids) (row ∷ rows) e = ap suc (length_records ids rows (omega (arith, e)))

-- the record at a position
pub record IsRecordAt (ids : List (List ℕ)) (rows : Rows) (at : ℕ) (r : Record) : Type 0 where
  pub id : r.id ≡ get_or ids at []
  pub row : r.row ≡ get_or rows at []

pub record_at : (ids : List (List ℕ)) (rows : Rows) (at : ℕ) (none : Record) → length ids ≡ length rows → at < length ids → IsRecordAt ids rows at (get_or (records_of ids rows) at none)
record_at [] rows at none e lt = absurd (omega arith)
record_at (id ∷ ids) [] at none e lt = absurd (omega (arith, e))
record_at (id ∷ ids) (row ∷ rows) zero none e lt = record { id = refl; row = refl }
record_at (id ∷ ids) (row ∷ rows) (suc at) none e lt =
    let rest = record_at ids rows at none (omega (arith, e)) (omega (arith, lt)) in
    record { id = rest.id; row = rest.row }

or_len_ids : (id : List ℕ) (ids : List (List ℕ)) (rows : Rows) → length ids ≡ length rows → position_or_len (bytes_eq id) ids ≡ position_or_len (λ (r : Record). bytes_eq id r.id) (records_of ids rows)
or_len_ids id [] rows e = refl
or_len_ids id (i ∷ ids) [] e = absurd (omega (arith, e))
or_len_ids id (i ∷ ids) (row ∷ rows) e = ap (λ n. cond (not (bytes_eq id i)) (1 + n) 0) (or_len_ids id ids rows (omega (arith, e)))

-- the place of an id is the position of the record with it
pub position_of : (id : List ℕ) (ids : List (List ℕ)) (rows : Rows) → length ids ≡ length rows → position_among id ids ≡ position_of_id id (records_of ids rows)
position_of id ids rows e = rw (or_len_ids id ids rows e, ← length_records ids rows e) refl

-- an id that is not among the ids is that of no record
fresh_of : (id : List ℕ) (ids : List (List ℕ)) (rows : Rows) → length ids ≡ length rows → IsNewId id ids → IsFreshId id (records_of ids rows)
fresh_of id ids rows e new k d lt is =
    let within : k < length ids = omega (arith, lt, length_records ids rows e) in
    new k [] within (sym (record_at ids rows k d e within).id ∙ is)

pub found_fresh : (id : List ℕ) (ids : List (List ℕ)) (rows : Rows) (found : Option ℕ) → length ids ≡ length rows → IfNone found (IsNewId id ids) → IfNone found (IsFreshId id (records_of ids rows))
found_fresh id ids rows None e new = fresh_of id ids rows e new
found_fresh id ids rows (Some at) e new = tt

-- records with distinct ids
pub distinct_of : (ids : List (List ℕ)) (rows : Rows) → length ids ≡ length rows → AreDistinct ids → HaveDistinctIds (records_of ids rows)
distinct_of ids rows e distinct i j d lt within same =
    let last : j < length ids = omega (arith, within, length_records ids rows e) in
    let first : i < length ids = omega (arith, last, lt) in
    distinct i j [] lt last (sym (record_at ids rows i d e first).id ∙ same ∙ (record_at ids rows j d e last).id)

-- records with empty rows are those whose values are left out
pub without_rows : (ids : List (List ℕ)) (rows : Rows) → length ids ≡ length rows → records_of ids (replicate (length rows) []) ≡ ids_alone (records_of ids rows)
without_rows [] rows e = refl
without_rows (id ∷ ids) [] e = absurd (omega (arith, e))
without_rows (id ∷ ids) (row ∷ rows) e = ap (λ (rest : List Record). record { id = id; row = [] } ∷ rest) (without_rows ids rows (omega (arith, e)))

-- The order of ids that rise: that it is one, what an id that comes last comes after, and where one stands that is found by halving.

-- what comes first by a number, or of equal ones by another test
abbrev by_number : ℕ → ℕ → Bool → Bool
by_number x y rest = if x == y then rest else nat_lt x y

which : (x y : ℕ) (rest : Bool) → by_number x y rest ≡ true → (x < y) ⊎ ((x ≡ y) × (rest ≡ true))
which x y rest h =
    elim (cases_Bool (x == y)) [
      | inl same ↦ inr (eqb-true x y same, rw same at h)
      | inr other ↦ inl (ltb-true x y (rw other at h))
    ]

lesser_number : (x y : ℕ) (rest : Bool) → x < y → by_number x y rest ≡ true
lesser_number x y rest h =
    elim (cases_Bool (x == y)) [
      | inl same ↦ absurd (omega (arith, h, eqb-true x y same))
      | inr other ↦ rw other (grind (arith, nat_tests, h))
    ]

same_number : (x y : ℕ) (rest : Bool) → x ≡ y → rest ≡ true → by_number x y rest ≡ true
same_number x y rest e h = rw (eq-eqb x y e) h

-- one test after the other, twice
chained : (x y z : ℕ) (s t u : Bool) → by_number x y s ≡ true → by_number y z t ≡ true → (s ≡ true → t ≡ true → u ≡ true) → by_number x z u ≡ true
chained x y z s t u h g rest =
    elim (which x y s h) [
      | inl less ↦
          elim (which y z t g) [
            | inl more ↦ lesser_number x z u (omega (arith, less, more))
            | inr tie ↦ lesser_number x z u (omega (arith, less, tie.0))
          ]
      | inr tie ↦
          elim (which y z t g) [
            | inl more ↦ lesser_number x z u (omega (arith, tie.0, more))
            | inr second ↦ same_number x z u (tie.0 ∙ second.0) (rest tie.1 second.1)
          ]
    ]

-- neither first
tied : (x y : ℕ) (s t : Bool) → by_number x y s ≡ false → by_number y x t ≡ false → (x ≡ y) × (s ≡ false) × (t ≡ false)
tied x y s t h g =
    elim (cases_Bool (x == y)) [
      | inl same ↦ (eqb-true x y same, rw same at h, rw (eq-eqb y x (sym (eqb-true x y same))) at g)
      | inr other ↦ absurd (apart other (rw other at h))
    ]
  where
    turned : (x == y) ≡ false → (y == x) ≡ false
    turned e = grind (arith, nat_tests)

    apart : (x == y) ≡ false → nat_lt x y ≡ false → ⊥
    apart e k = let back : nat_lt y x ≡ false = rw (turned e) at g in grind (arith, nat_tests)

-- no text comes before itself
lesser_itself : (xs : List ℕ) → is_lesser xs xs ≡ false
lesser_itself [] = refl
lesser_itself (x ∷ xs) = rw (eq-eqb x x refl) (lesser_itself xs)

pub before_itself : (x : List ℕ) → comes_before x x ≡ false
before_itself x = rw (eq-eqb (length x) (length x) refl) (lesser_itself x)

-- what comes before one that comes before a third comes before the third
lesser_still : (xs ys zs : List ℕ) → is_lesser xs ys ≡ true → is_lesser ys zs ≡ true → is_lesser xs zs ≡ true
lesser_still [] ys zs h g = absurd (false≢true h)
lesser_still (x ∷ xs) [] zs h g = absurd (false≢true h)
lesser_still (x ∷ xs) (y ∷ ys) [] h g = absurd (false≢true g)
lesser_still (x ∷ xs) (y ∷ ys) (z ∷ zs) h g = chained x y z _ _ _ h g (lesser_still xs ys zs)

pub before_still : (x y z : List ℕ) → comes_before x y ≡ true → comes_before y z ≡ true → comes_before x z ≡ true
before_still x y z h g = chained (length x) (length y) (length z) _ _ _ h g (lesser_still x y z)

-- two texts of which neither comes before the other are equal
neither_lesser : (xs ys : List ℕ) → length xs ≡ length ys → is_lesser xs ys ≡ false → is_lesser ys xs ≡ false → xs ≡ ys
neither_lesser [] [] long h g = refl
neither_lesser [] (y ∷ ys) long h g = absurd (omega (arith, long))
neither_lesser (x ∷ xs) [] long h g = absurd (omega (arith, long))
neither_lesser (x ∷ xs) (y ∷ ys) long h g =
    let tie = tied x y _ _ h g in
    ap (λ n. n ∷ xs) tie.0 ∙ ap (λ ns. y ∷ ns) (neither_lesser xs ys (omega (arith, long)) tie.1 tie.2)

pub neither_before : (x y : List ℕ) → comes_before x y ≡ false → comes_before y x ≡ false → x ≡ y
neither_before x y h g = let tie = tied (length x) (length y) _ _ h g in neither_lesser x y tie.0 tie.1 tie.2

-- texts that differ first at a place are told apart there
pub lesser_at : (xs ys : List ℕ) (at : ℕ) → ((k : ℕ) → k < at → get_or xs k 0 ≡ get_or ys k 0) → at < length xs → at < length ys → get_or xs at 0 ≢ get_or ys at 0
    → is_lesser xs ys ≡ nat_lt (get_or xs at 0) (get_or ys at 0)
lesser_at [] ys at alike within there differ = absurd (omega (arith, within))
lesser_at (x ∷ xs) [] at alike within there differ = absurd (omega (arith, there))
lesser_at (x ∷ xs) (y ∷ ys) zero alike within there differ =
    elim (cases_Bool (x == y)) [
      | inl same ↦ absurd (differ (eqb-true x y same))
      | inr other ↦ rw other refl
    ]
lesser_at (x ∷ xs) (y ∷ ys) (suc at) alike within there differ =
    rw (eq-eqb x y (alike 0 (omega arith))) (lesser_at xs ys at (λ k lt. alike (suc k) (omega (arith, lt))) (omega (arith, within)) (omega (arith, there)) differ)

-- texts that differ nowhere are not told apart
pub none_lesser : (xs ys : List ℕ) → length xs ≡ length ys → ((k : ℕ) → k < length xs → get_or xs k 0 ≡ get_or ys k 0) → false ≡ is_lesser xs ys
none_lesser xs ys long alike = sym (lesser_itself xs) ∙ ap (is_lesser xs) (ext_get_or 0 xs ys long alike)

-- ids that rise are distinct
pub are_distinct : (ids : List (List ℕ)) → AreRising ids → AreDistinct ids
are_distinct ids rising i j d lt within same =
    let itself : comes_before (get_or ids i d) (get_or ids i d) ≡ true = subst (λ (held : List ℕ). comes_before (get_or ids i d) held ≡ true) (sym same) (rising i j d lt within) in
    false≢true (sym (before_itself (get_or ids i d)) ∙ itself)

-- no two places have the same id
pub are_apart : (ids : List (List ℕ)) → AreRising ids → (a b : ℕ) → a < length ids → slice_get ids a ≡ slice_get ids b → a ≡ b
are_apart ids rising a b within same =
    let is : slice_get ids b ≡ Some (get_or ids a []) = sym same ∙ slice_get-get_or ids a [] within in
    let there : b < length ids = slice_get_within ids b (get_or ids a []) is in
    let held : get_or ids b [] ≡ get_or ids a [] = get_or_from_slice_get ids b (get_or ids a []) [] is in
    elim (cases_Bool (nat_lt a b)) [
      | inl before ↦ absurd (are_distinct ids rising a b [] (ltb-true a b before) there (sym held))
      | inr apart ↦
          elim (cases_Bool (nat_lt b a)) [
            | inl behind ↦ absurd (are_distinct ids rising b a [] (ltb-true b a behind) within held)
            | inr neither ↦ meet a b apart neither
          ]
    ]
  where
    meet : (a b : ℕ) → nat_lt a b ≡ false → nat_lt b a ≡ false → a ≡ b
    meet a b h g = grind (arith, nat_tests)

-- what comes after the last of them comes after each
pub after_last : (ids : List (List ℕ)) (id : List ℕ) → AreRising ids → length ids ≢ 0 → comes_before (get_or ids (length ids - 1) []) id ≡ true
    → All (λ (held : List ℕ). IsTrue (comes_before held id)) ids
after_last ids id rising some h k d within =
    elim (cases_Bool (nat_lt k (length ids - 1))) [
      | inl earlier ↦
          let last : get_or ids (length ids - 1) d ≡ get_or ids (length ids - 1) [] = get_or_default ids (length ids - 1) d [] (omega (arith, within)) in
          before_still (get_or ids k d) (get_or ids (length ids - 1) []) id
          (subst (λ (x : List ℕ). comes_before (get_or ids k d) x ≡ true) last (rising k (length ids - 1) d (ltb-true k (length ids - 1) earlier) (omega (arith, within)))) h
      | inr last ↦
          let place : k ≡ length ids - 1 = at_last last in
          subst (λ (x : List ℕ). comes_before x id ≡ true) (sym (get_or_default ids k d [] within ∙ ap (λ (n : ℕ). get_or ids n []) place)) h
    ]
  where
    at_last : nat_lt k (length ids - 1) ≡ false → k ≡ length ids - 1
    at_last e = let past : length ids - 1 < k + 1 = grind (arith, nat_tests, e) in omega (arith, past, within)

-- the next of them is not among the ones before it
pub next_is_new : (ids : List (List ℕ)) (at : ℕ) → AreRising ids → at < length ids → stands_among (take at ids) (get_or ids at []) ≡ false
next_is_new ids at rising within =
    none-held (take at ids) (get_or ids at []) (λ q lt same.
    let before : q < at = omega (arith, lt, length-take at ids) in
    are_distinct ids rising q at [] before within (sym (get_or-take at ids q [] before) ∙ same))

pub next_pooled : (ids : List (List ℕ)) (at : ℕ) (pool : PoolState) → AreRising ids → at < length ids → pool.texts ≡ take at ids → with_text pool (get_or ids at []) ≡ take (at + 1) ids
next_pooled ids at pool rising within same =
    rw (same, next_is_new ids at rising within) (sym (take_more ids at [] within))

module _ (ids : List (List ℕ)) (id : List ℕ) (rising : AreRising ids) where
  -- all up to one that comes before an id come before it
  pub below_middle : (middle : ℕ) → middle < length ids → comes_before (get_or ids middle []) id ≡ true → (k : ℕ) → k < middle + 1 → comes_before (get_or ids k []) id ≡ true
  below_middle middle within h k lt =
      elim (cases_Bool (nat_lt k middle)) [
        | inl less ↦ before_still (get_or ids k []) (get_or ids middle []) id (rising k middle [] (ltb-true k middle less) within) h
        | inr last ↦ subst (λ (n : ℕ). comes_before (get_or ids n []) id ≡ true) (sym (at_last last)) h
      ]
    where
      at_last : nat_lt k middle ≡ false → k ≡ middle
      at_last e = let past : middle < k + 1 = grind (arith, nat_tests, e) in omega (arith, past, lt)

  -- all from one on that comes after an id come after it
  pub above_middle : (middle : ℕ) → comes_before id (get_or ids middle []) ≡ true → (k : ℕ) → middle ≤ k → k < length ids → comes_before id (get_or ids k []) ≡ true
  above_middle middle h k le within =
      elim (cases_Bool (nat_lt middle k)) [
        | inl more ↦ before_still id (get_or ids middle []) (get_or ids k []) h (rising middle k [] (ltb-true middle k more) within)
        | inr first ↦ subst (λ (n : ℕ). comes_before id (get_or ids n []) ≡ true) (at_first first) h
      ]
    where
      at_first : nat_lt middle k ≡ false → middle ≡ k
      at_first e = let past : k < middle + 1 = grind (arith, nat_tests, e) in omega (arith, past, le)

  -- one that comes neither before an id nor after it is the id
  pub place_found : (at : ℕ) → at < length ids → comes_before (get_or ids at []) id ≡ false → comes_before id (get_or ids at []) ≡ false → Some at ≡ position_among id ids
  place_found at within h g =
      let same : get_or ids at [] ≡ id = neither_before (get_or ids at []) id h g in
      found_at_place id ids (Some at) (are_apart ids rising) (slice_get-get_or ids at [] within ∙ ap Some same) (sym (held_where ids id at within same))

  -- where all come before an id or after it, it has no place
  pub place_none : (low high : ℕ) → high ≤ low → ((k : ℕ) → k < low → comes_before (get_or ids k []) id ≡ true) → ((k : ℕ) → high ≤ k → k < length ids → comes_before id (get_or ids k []) ≡ true)
      → None ≡ position_among id ids
  place_none low high met below above = found_at_place id ids None (are_apart ids rising) tt (sym (none-held ids id none))
    where
      none : (q : ℕ) → q < length ids → get_or ids q [] ≢ id
      none q within same =
          elim (cases_Bool (nat_lt q low)) [
            | inl less ↦ false≢true (sym (before_itself id) ∙ subst (λ (x : List ℕ). comes_before x id ≡ true) same (below q (ltb-true q low less)))
            | inr more ↦ false≢true (sym (before_itself id) ∙ subst (λ (x : List ℕ). comes_before id x ≡ true) same (above q (past more) within))
          ]
        where
          past : nat_lt q low ≡ false → high ≤ q
          past e = let least : low < q + 1 = grind (arith, nat_tests, e) in omega (arith, least, met)

-- an id that comes after all of them has no place among them
pub none_before : (ids : List (List ℕ)) (id : List ℕ) → AreRising ids → All (λ (held : List ℕ). IsTrue (comes_before held id)) ids → None ≡ position_among id ids
none_before ids id rising after =
    place_none ids id rising (length ids) (length ids) (omega arith) (λ k lt. after k [] lt) (λ k le lt. absurd (omega (arith, le, lt)))

-- Rows that are being made: one value more, a row closed, and no row open.

abbrev Words : Type 0
Words = List (List ℕ)

-- how the rows stand, and as what they are seen
pub record IsWritten (words : Words) (cells : List Cell) (ends : List ℕ) (begun : ℕ) (rows : WrittenRows) : Type 0 where
  pub stands : AreOpen words cells ends begun
  pub seen : written_rows words cells ends begun ≡ rows

abbrev seen_as : List (List Value) → List Value → WrittenRows
seen_as rows row = record { rows = rows; row = row }

same : (rows rows2 : List (List Value)) (row row2 : List Value) → rows ≡ rows2 → row ≡ row2 → seen_as rows row ≡ seen_as rows2 row2
same rows rows2 row row2 e f = λ i. seen_as (e i) (f i)

-- one value more
pub value_added : (words words2 : Words) (cells cells2 : List Cell) (ends : List ℕ) (begun : ℕ) (c : Cell) (v : Value) → AreOpen words cells ends begun
    → BeginsAs words words2 → length words2 ≤ length words + 1 → IsPlaced (length words2) c → value_in words2 c ≡ v → cells2 ≡ cells ++ c ∷ []
    → IsWritten words2 cells2 ends begun (with_value (written_rows words cells ends begun) v)
value_added words words2 cells cells2 ends begun c v h words_begun few placed is grown =
    let more = one_added words words words2 cells cells cells2 (v ∷ []) 0 v c (none_added words cells (v ∷ []) h.placed) (omega arith) words_begun few placed is grown in
    let old = values_in words cells in
    let within : begun ≤ length old = omega (arith, h.within, length_values words cells) in
    record {
      stands = record { rising = h.rising; within = omega (arith, h.within, ap length grown ∙ length_push cells c); placed = more.cells };
      seen = same _ _ _ _ (ap (λ (l : List Value). pieces_from l 0 ends) more.values ∙ among_first old (v ∷ []) begun 0 ends within h.rising)
          (ap (λ (l : List Value). drop begun l) more.values ∙ drop-append-le begun old (v ∷ []) within);
    }

-- a row closed
pub row_closed : (words : Words) (cells : List Cell) (ends ends2 : List ℕ) (begun begun2 : ℕ) → AreOpen words cells ends begun → begun2 ≡ length cells → ends2 ≡ ends ++ begun2 ∷ []
    → IsWritten words cells ends2 begun2 (with_row (written_rows words cells ends begun))
row_closed words cells ends ends2 begun begun2 h is grown =
    let values = values_in words cells in
    let long : begun2 ≡ length values = is ∙ sym (length_values words cells) in
    let within : begun ≤ length values = omega (arith, h.within, length_values words cells) in
    record {
      stands = record { rising = rw grown (ends_push begun begun2 0 ends h.rising (omega (arith, h.within, is))); within = omega (arith, is); placed = h.placed };
      seen = same _ _ _ _ (ap (pieces_from values 0) grown ∙ rest_closed values begun 0 begun2 ends within h.rising long)
          (ap (λ n. drop n values) long ∙ drop-length values);
    }

-- where no row is open, the closed ones have all cells
pub none_open : (words : Words) (cells : List Cell) (ends : List ℕ) (begun : ℕ) → AreOpen words cells ends begun → (written_rows words cells ends begun).row ≡ [] → EndsAt (length cells) 0 ends
none_open words cells ends begun h none =
    let rest : length cells ≡ begun = omega (arith, h.within, sym (length-drop begun (values_in words cells)) ∙ ap length none, length_values words cells) in
    rw rest h.rising

-- the values of the rows are as many as the cells
pub values_written : (words : Words) (cells : List Cell) (ends : List ℕ) (begun : ℕ) → AreOpen words cells ends begun
    → sum_by length (written_rows words cells ends begun).rows + length (written_rows words cells ends begun).row ≡ length cells
values_written words cells ends begun h =
    let values = values_in words cells in
    let long = length_values words cells in
    omega (arith, long, h.within, length-drop begun values, count_items values begun 0 ends (omega (arith, h.within, long)) h.rising)
