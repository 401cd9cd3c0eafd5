-- Machinery of the index: laws of numbers that stand for codes. A code that is taken has a number, the rows with the number of a code are those
-- with the code, and what one number more adds.
use Rattle.std.proofs.Common.{◌≡◌, ◌<◌, ◌+◌, [], ℕ, zero, suc, Bool, true, false, refl, sym, filter, arith, ◌≤◌, ◌==◌, List, ◌∷◌, ◌++◌, Option, Some, None, ◌∙◌, ap, length, length-append, get_or, inl, inr, bytes_eq, nat_lt, subst, eq-eqb, eqb-true, slice_get}
use Rattle.std.specs.List.{range_with_len, list_any, position_or_len}
use Rattle.value_pool.specs.Pool.{place_among}
use Rattle.std.proofs.lemmas.Bool.{cases_Bool, cases_lt, false≢true}
use Rattle.std.proofs.lemmas.List.{get_or_past}
use Rattle.std.proofs.lemmas.Option.{slice_get-get_or}
use Rattle.std.proofs.lemmas.List.Folds.{position_or_len_push}
use Rattle.std.proofs.lemmas.Slice.Eq.{bytes_eq-Decides}
use Rattle.value_pool.proofs.PlaceLemmas.{any-place, at-place}
use Rattle.block_passes.specs.Keys.{same_text, rows_with_number}
use Rattle.block_passes.specs.Numbering.{AreGroups, IsNumbered, no_number, number_among, with_code, AreNumbered, AreNumbers, KeepNumbers}
use Rattle.std.proofs.Math.ListN.{get_or-append}
use Rattle.std.proofs.Math.Seq.{get_or-append_seam}

-- Machinery of the index and of walks: laws of filters of positions. Those whose tests agree below the end are one list.

-- a test that is true just where another is
pub same-test : (p q : Bool) → (p ≡ true → q ≡ true) → (q ≡ true → p ≡ true) → p ≡ q
same-test true true f g = refl
same-test true false f g = sym (f refl)
same-test false true f g = g refl
same-test false false f g = refl

-- filters of one list that agree below a bound are equal
pub filter-agree : (p q : ℕ → Bool) (n count : ℕ) → ((j : ℕ) → j < n + count → p j ≡ q j) → filter p (range_with_len n count) ≡ filter q (range_with_len n count)
filter-agree p q n zero h = refl
filter-agree p q n (suc count) h =
    let rest = filter-agree p q (n + 1) count (λ j lt. h j (omega arith)) in
    rw (h n (omega arith), rest) refl

pub filter-empty : (p : ℕ → Bool) (n count : ℕ) → ((j : ℕ) → j < n + count → p j ≡ false) → filter p (range_with_len n count) ≡ []
filter-empty p n zero h = refl
filter-empty p n (suc count) h =
    let rest = filter-empty p (n + 1) count (λ j lt. h j (omega arith)) in
    rw (h n (omega arith)) rest

pub none-place : {T : Type 0} (p : T → Bool) (xs : List T) → list_any p xs ≡ false → position_or_len p xs ≡ length xs
none-place p [] h = refl
none-place p (x ∷ xs) h =
    elim (cases_Bool (p x)) [
      | inl here ↦ absurd (false≢true (sym (rw here at h)))
      | inr later ↦ let rest = none-place p xs (rw later at h) in rw later (omega arith)
    ]

same-itself : (code : List ℕ) → bytes_eq code code ≡ true
same-itself code = (bytes_eq-Decides code code).1 refl

place-new : (codes : List (List ℕ)) (code : List ℕ) → list_any (bytes_eq code) codes ≡ false → place_among (codes ++ code ∷ []) code ≡ length codes
place-new codes code new =
    let same : (place_among codes code == length codes) ≡ true = eq-eqb _ _ (none-place (bytes_eq code) codes new) in
    position_or_len_push (bytes_eq code) codes code ∙ rw (same, same-itself code) (omega arith)

pub place-within : (codes : List (List ℕ)) (code : List ℕ) → place_among (with_code codes code) code < length (with_code codes code)
place-within codes code =
    elim (cases_Bool (list_any (bytes_eq code) codes)) [
      | inl held ↦ rw held (any-place (bytes_eq code) codes held)
      | inr new ↦ rw (new, place-new codes code new, length-append codes (code ∷ [])) (omega arith)
    ]

pub place-same : (codes : List (List ℕ)) (p q : List ℕ) → place_among codes p < length codes → place_among codes q < length codes → (place_among codes q == place_among codes p) ≡ bytes_eq p q
place-same codes p q hp hq =
    same-test (place_among codes q == place_among codes p) (bytes_eq p q)
    (λ h. (bytes_eq-Decides p q).1 (at-place codes p hp ∙ ap (λ n. get_or codes n []) (sym (eqb-true (place_among codes q) (place_among codes p) h)) ∙ sym (at-place codes q hq)))
    (λ h. eq-eqb (place_among codes q) (place_among codes p) (ap (place_among codes) (sym ((bytes_eq-Decides p q).0 h))))

-- rows with a number are those with the code
test-is : (codes : List (List ℕ)) → length codes ≤ no_number → (c d : Option (List ℕ)) → IsNumbered codes d → number_among codes c < length codes
    → (number_among codes d == number_among codes c) ≡ same_text c d
test-is codes few None d k lt = absurd (omega arith)
test-is codes few (Some p) None k lt = let h : no_number == number_among codes (Some p) ≡ false = grind arith in h
test-is codes few (Some p) (Some q) k lt = place-same codes p q lt k

-- a number past the codes is no row's
test-past : (codes : List (List ℕ)) (c d : Option (List ℕ)) → IsNumbered codes d → length codes ≤ number_among codes c → same_text c d ≡ false
test-past codes None d k le = refl
test-past codes (Some p) None k le = refl
test-past codes (Some p) (Some q) k le =
    same-test (bytes_eq p q) false (λ h. let e = ap (place_among codes) ((bytes_eq-Decides p q).0 h) in absurd (omega arith)) (λ h. cc)

-- the group of a number has the rows with it
pub group-read : (numbers : List ℕ) (groups : List (List ℕ)) (count n : ℕ) → AreGroups numbers count groups → get_or groups n [] ≡ rows_with_number numbers count n
group-read numbers groups count n g =
    elim (cases_lt n count) [
      | inl lt ↦ let within : nat_lt n count ≡ true = grind arith in rw within (g.1 n lt)
      | inr le ↦ let past : nat_lt n count ≡ false = grind arith in rw past (get_or_past groups n [] (rw g.0 le))
    ]

-- the rows with the number of a code are the rows with the code
pub numbered-rows : (codes : List (List ℕ)) → length codes ≤ no_number → (numbers : List ℕ) (code_of : ℕ → Option (List ℕ)) (rows : ℕ) → length numbers ≡ rows
    → ((j : ℕ) → j < rows → get_or numbers j 0 ≡ number_among codes (code_of j)) → ((j : ℕ) → j < rows → IsNumbered codes (code_of j))
    → (c : Option (List ℕ)) → rows_with_number numbers (length codes) (number_among codes c) ≡ filter (λ j. same_text c (code_of j)) (range_with_len 0 rows)
numbered-rows codes few numbers code_of rows len told known c =
    elim (cases_lt (number_among codes c) (length codes)) [
      | inl lt ↦
          let within : nat_lt (number_among codes c) (length codes) ≡ true = grind arith in
          rw (within, len)
          (filter-agree (λ j. get_or numbers j 0 == number_among codes c) (λ j. same_text c (code_of j)) 0 rows
          (λ j k. let below : j < rows = omega arith in ap (λ t. t == number_among codes c) (told j below) ∙ test-is codes few c (code_of j) (known j below) lt))
      | inr le ↦
          let past : nat_lt (number_among codes c) (length codes) ≡ false = grind arith in
          rw past (sym (filter-empty (λ j. same_text c (code_of j)) 0 rows (λ j k. test-past codes c (code_of j) (known j (omega arith)) le)))
    ]

-- the rows of the number of a code are the rows of the code
pub group-is : (codes : List (List ℕ)) → length codes ≤ no_number → (numbers : List ℕ) (groups : List (List ℕ)) (code_of : ℕ → Option (List ℕ)) (rows : ℕ)
    → AreGroups numbers (length codes) groups → length numbers ≡ rows
    → ((j : ℕ) → j < rows → get_or numbers j 0 ≡ number_among codes (code_of j)) → ((j : ℕ) → j < rows → IsNumbered codes (code_of j))
    → (c : Option (List ℕ)) → get_or groups (number_among codes c) [] ≡ filter (λ j. same_text c (code_of j)) (range_with_len 0 rows)
group-is codes few numbers groups code_of rows g len told known c =
    group-read numbers groups (length codes) (number_among codes c) g ∙ numbered-rows codes few numbers code_of rows len told known c

-- a place at which a code stands among distinct ones is its number
pub place-read : (codes : List (List ℕ)) (code : List ℕ) (at : ℕ) → ((a b : ℕ) → a < length codes → slice_get codes a ≡ slice_get codes b → a ≡ b)
    → slice_get codes at ≡ Some code → place_among codes code < length codes → at ≡ place_among codes code
place-read codes code at distinct is within =
    let reads : slice_get codes (place_among codes code) ≡ Some code = slice_get-get_or codes (place_among codes code) [] within ∙ ap Some (sym (at-place codes code within)) in
    sym (distinct (place_among codes code) at within (reads ∙ sym is))

-- one number more
pub told_more : (f : ℕ → ℕ) (at : ℕ) (numbers more : List ℕ) (n : ℕ) → length numbers ≡ at → ((j : ℕ) → j < at → get_or numbers j 0 ≡ f j) → more ≡ numbers ++ n ∷ [] → n ≡ f at
    → (length more ≡ at + 1) × ((j : ℕ) → j < at + 1 → get_or more j 0 ≡ f j)
told_more f at numbers more n len told grown is = (
  ap length grown ∙ length-append numbers (n ∷ []) ∙ omega (arith, len),
  λ j lt. ap (λ l. get_or l j 0) grown ∙ elim (cases_lt j at) [
    | inl old ↦ get_or-append numbers (n ∷ []) 0 j (omega (arith, len)) ∙ told j old
    | inr new ↦
        let last : j ≡ at = omega (arith, lt) in
        let seam : j ≡ length numbers = last ∙ sym len in
        ap (λ k. get_or (numbers ++ n ∷ []) k 0) seam ∙ get_or-append_seam numbers n [] 0 ∙ is ∙ ap f (sym last)
  ],
)

-- one number that is given
pub given_more : (codes new : List (List ℕ)) (code_of : ℕ → Option (List ℕ)) (at : ℕ) (numbers more : List ℕ) (n : ℕ) → KeepNumbers codes new → AreNumbered codes code_of at → AreNumbers codes code_of at numbers
    → more ≡ numbers ++ n ∷ [] → n ≡ number_among new (code_of at) → AreNumbers new code_of (at + 1) more
given_more codes new code_of at numbers more n kept numbered told grown is =
    told_more (λ j. number_among new (code_of j)) at numbers more n told.0 (λ j lt. told.1 j lt ∙ sym (kept (code_of j) (numbered j lt)).0) grown is

pub numbered_more : (codes new : List (List ℕ)) (code_of : ℕ → Option (List ℕ)) (at : ℕ) → KeepNumbers codes new → AreNumbered codes code_of at → IsNumbered new (code_of at) → AreNumbered new code_of (at + 1)
numbered_more codes new code_of at kept numbered one = λ j lt. elim (cases_lt j at) [
  | inl old ↦ (kept (code_of j) (numbered j old)).1
  | inr le ↦ let last : j ≡ at = omega (arith, lt) in subst (λ k. IsNumbered new (code_of k)) (sym last) one
]
