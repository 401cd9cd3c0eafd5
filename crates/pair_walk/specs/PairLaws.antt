-- Laws of the pairs of rows: joined, they are the compared pairs, which are a filter of the product of both files.
use Rattle.std.proofs.Common.{◌≡◌, ◌+◌, ◌<◌, ℕ, List, [], ◌∷◌, ◌++◌, length, map, take, get_or, ap, append_assoc, arith, length-append, subst, sym, ◌∙◌, All, zero, suc, filter, Bool, refl, inl, inr}
use Rattle.std.proofs.lemmas.List.{get_or-append-add, get_or-map, get_or_append_left, length-map, map-append, take_more}
use Rattle.link_base.specs.declared.rule.PairAt.{PairAt}
use Rattle.pair_walk.specs.Rows.{pair, pairs_of_rows, compared_pairs, is_compared, pairs_of_row, product_from, RowAt, all_rows, rows_from}
use Rattle.std.specs.List.{range_with_len}
use Rattle.std.proofs.lemmas.Bool.{cases_Bool}
use Rattle.std.proofs.lemmas.List.Elements.{filter-append}
use Rattle.link_base.specs.Words.{Record}
use Rattle.value_forms.specs.declared.passes.Part.{Part}

-- Laws of the pairs of a walk, row by row: what holds of the pairs of all rows holds of those of each, and what is made of them is made row by
-- row.

-- one pair of a row more
pub row_step : (a : ℕ) (bs : List ℕ) (i : ℕ) → i < length bs → map (pair a) (take (i + 1) bs) ≡ map (pair a) (take i bs) ++ pair a (get_or bs i 0) ∷ []
row_step a bs i lt = ap (map (pair a)) (take_more bs i 0 lt) ∙ map-append (pair a) (take i bs) (get_or bs i 0 ∷ [])

-- what is made of pairs, where that of joined lists is that of each, joined
module _ {X : Type 0} (made : List PairAt → List X) (joined : (ps qs : List PairAt) → made (ps ++ qs) ≡ made ps ++ made qs) where
  pub pair_more : (a : ℕ) (bs : List ℕ) (i : ℕ) (start old new : List X) → i < length bs
      → old ≡ start ++ made (map (pair a) (take i bs)) → new ≡ old ++ made (pair a (get_or bs i 0) ∷ []) → new ≡ start ++ made (map (pair a) (take (i + 1) bs))
  pair_more a bs i start old new lt told more =
      let before = map (pair a) (take i bs) in
      let here = pair a (get_or bs i 0) ∷ [] in
      let all : made (map (pair a) (take (i + 1) bs)) ≡ made before ++ made here = ap made (row_step a bs i lt) ∙ joined before here in
      more ∙ ap (λ xs. xs ++ made here) told ∙ append_assoc start (made before) (made here) ∙ ap (λ xs. start ++ xs) (sym all)

  -- one row more of a walk
  pub row_more : (left rest : List RowAt) (a : ℕ) (bs : List ℕ) (old new all : List X) → left ≡ record { a = a; bs = bs } ∷ rest
      → new ≡ old ++ made (map (pair a) bs) → old ++ made (pairs_of_rows left) ≡ all → new ++ made (pairs_of_rows rest) ≡ all
  row_more left rest a bs old new all is kept told =
      let row = map (pair a) bs in
      let both : made (pairs_of_rows left) ≡ made row ++ made (pairs_of_rows rest) = ap (λ rows. made (pairs_of_rows rows)) is ∙ joined row (pairs_of_rows rest) in
      ap (λ xs. xs ++ made (pairs_of_rows rest)) kept ∙ append_assoc old (made row) (made (pairs_of_rows rest)) ∙ ap (λ xs. old ++ xs) (sym both) ∙ told

pub count_more : (left rest : List RowAt) (a : ℕ) (bs : List ℕ) → left ≡ record { a = a; bs = bs } ∷ rest → length (pairs_of_rows left) ≡ length bs + length (pairs_of_rows rest)
count_more left rest a bs is =
    ap (λ rows. length (pairs_of_rows rows)) is ∙ length-append (map (pair a) bs) (pairs_of_rows rest) ∙ ap (λ n. n + length (pairs_of_rows rest)) (length-map bs (pair a))

module _ (P : PairAt → Type 0) (left rest : List RowAt) (a : ℕ) (bs : List ℕ) (is : left ≡ record { a = a; bs = bs } ∷ rest) (all : All P (pairs_of_rows left)) where
  whole : All P (map (pair a) bs ++ pairs_of_rows rest)
  whole = subst (λ (rows : List RowAt). All P (pairs_of_rows rows)) is all

  pub row_holds : All P (map (pair a) bs)
  row_holds k d lt =
      subst P (get_or_append_left (map (pair a) bs) (pairs_of_rows rest) d k lt) (whole k d (omega (arith, length-append (map (pair a) bs) (pairs_of_rows rest))))

  pub rest_holds : All P (pairs_of_rows rest)
  rest_holds k d lt =
      subst P (get_or-append-add (map (pair a) bs) (pairs_of_rows rest) k d) (whole (length (map (pair a) bs) + k) d (omega (arith, length-append (map (pair a) bs) (pairs_of_rows rest))))

-- the pair at a place of a row
pub pair_holds : (P : PairAt → Type 0) (a : ℕ) (bs : List ℕ) (i : ℕ) → i < length bs → All P (map (pair a) bs) → P (pair a (get_or bs i 0))
pair_holds P a bs i lt all = subst P (get_or-map (pair a) bs i 0 (pair a 0) lt) (all i (pair a 0) (omega (arith, length-map bs (pair a))))

-- the pairs of one row that pass a test
pub row-pairs : (p : PairAt → Bool) (a b count : ℕ) → map (pair a) (filter (λ j. p (pair a j)) (range_with_len b count)) ≡ filter p (pairs_of_row a b count)
row-pairs p a b zero = refl
row-pairs p a b (suc count) =
    let rest = row-pairs p a (b + 1) count in
    elim (cases_Bool (p (pair a b))) [
      | inl keep ↦ rw keep (ap (λ ps. pair a b ∷ ps) rest)
      | inr skip ↦ rw skip rest
    ]

rows-pairs : (a b : List Record) (passes : List (List Part)) (at count : ℕ) → pairs_of_rows (rows_from a b passes at count) ≡ filter (is_compared a b passes) (product_from (length b) at count)
rows-pairs a b passes at zero = refl
rows-pairs a b passes at (suc count) =
    let p = is_compared a b passes in
    ap (λ ps. ps ++ pairs_of_rows (rows_from a b passes (at + 1) count)) (row-pairs p at 0 (length b))
    ∙ ap (λ ps. filter p (pairs_of_row at 0 (length b)) ++ ps) (rows-pairs a b passes (at + 1) count)
    ∙ sym (filter-append p (pairs_of_row at 0 (length b)) (product_from (length b) (at + 1) count))

-- the pairs of all rows are the compared pairs
pub all-pairs : (a b : List Record) (passes : List (List Part)) → pairs_of_rows (all_rows a b passes) ≡ compared_pairs a b passes
all-pairs a b passes = rows-pairs a b passes 0 (length a)
