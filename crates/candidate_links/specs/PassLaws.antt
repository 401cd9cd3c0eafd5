-- Machinery of `choose_links`: rising candidates and links passed together leave the candidates that are not among the links. No public clause
-- names it.
use Rattle.std.proofs.Common.{◌≡◌, ◌<◌, ◌≤◌, ◌+◌, ℕ, zero, suc, Bool, true, false, List, [], ◌∷◌, ◌++◌, cond, filter, get_or, length, map, take, drop, ℤ, ◌+ℤ◌, append_assoc, append-nil, refl, sym, ap, ◌∙◌, inl, inr, arith, not, All, AllPairs, Contains}
use Rattle.std.proofs.lemmas.Bool.Decides.{nat_tests}
use Rattle.std.proofs.lemmas.Bool.{or_from}
use Rattle.std.proofs.lemmas.Int.{ints}
use Rattle.std.proofs.lemmas.List.{drop_more, drop_all}
use Rattle.std.proofs.lemmas.List.Elements.{All-tail, All-head, All-contains}
use Rattle.std.proofs.lemmas.Map.Made.{Contains-tail}
use Rattle.price_check.specs.PlaceLaws.{clash, AllPairs-head, AllPairs-tail}
use Rattle.price_check.specs.Assignment.{IsBefore, total}
use Rattle.link_base.specs.declared.rule.Candidate.{Candidate}
use Rattle.candidate_links.specs.Candidates.{dropped, dropped_of, is_chosen, is_same_pair}
use Rattle.link_report.specs.declared.report.Dropped.{Dropped}
use Rattle.candidate_links.specs.Merging.{is_next, unlinked}

-- rising links among rising candidates
pub record AreAmong (cs links : List Candidate) : Type 0 where
  pub rising : AllPairs IsBefore cs
  pub links_rise : AllPairs IsBefore links
  pub among : All (Contains cs) links

same_records : (x y : Candidate) → is_same_pair x y ≡ true → (x.a ≡ y.a) × (x.b ≡ y.b)
same_records x y is = (grind (arith, nat_tests), grind (arith, nat_tests))

other_records : (x y : Candidate) → IsBefore x y → is_same_pair y x ≡ false
other_records x y (inl lt) = grind (arith, nat_tests)
other_records x y (inr h) = let b : x.b < y.b = h.1 in grind (arith, nat_tests)

other_after : (l c x : Candidate) → l.a ≡ c.a → l.b ≡ c.b → IsBefore c x → is_same_pair l x ≡ false
other_after l c x a b (inl lt) = grind (arith, nat_tests)
other_after l c x a b (inr h) = let lt : c.b < x.b = h.1 in grind (arith, nat_tests)

itself : (x y : Candidate) → x ≡ y → is_same_pair y x ≡ true
itself x y is = let a : x.a ≡ y.a = ap (λ (c : Candidate). c.a) is in let b : x.b ≡ y.b = ap (λ (c : Candidate). c.b) is in grind (arith, nat_tests)

before_on : (x y z : Candidate) → IsBefore x y → IsBefore y z → IsBefore x z
before_on x y z (inl p) (inl q) = inl (omega (arith, p, q))
before_on x y z (inl p) (inr q) = inl (omega (arith, p, q.0))
before_on x y z (inr p) (inl q) = inl (omega (arith, p.0, q))
before_on x y z (inr p) (inr q) = inr (omega (arith, p.0, q.0), omega (arith, p.1, q.1))

-- members that are not the first stand in the rest
all_later : (c : Candidate) (cs xs : List Candidate) → All (Contains (c ∷ cs)) xs → All (λ x. c ≡ x → ⊥) xs → All (Contains cs) xs
all_later c cs xs among others k d lt = Contains-tail c cs (get_or xs k d) (others k d lt) (among k d lt)

not_itself : (x y : Candidate) → IsBefore x y → x ≡ y → ⊥
not_itself x y before is = clash x y before (ap (λ (c : Candidate). c.a) is) (ap (λ (c : Candidate). c.b) is)

-- the first candidate is the first link
pub passed : (c : Candidate) (cs links : List Candidate) → AreAmong (c ∷ cs) links → is_next links c ≡ true → AreAmong cs (drop 1 links)
passed c cs [] are is = absurd (cc)
passed c cs (l ∷ ls) are is =
    let same = same_records l c is in
    let after = AllPairs-head IsBefore l ls are.links_rise in
    record {
      rising = AllPairs-tail IsBefore c cs are.rising;
      links_rise = AllPairs-tail IsBefore l ls are.links_rise;
      among = all_later c cs ls (All-tail (Contains (c ∷ cs)) l ls are.among) (λ k d lt e. clash l (get_or ls k d) (after k d lt) (same.0 ∙ ap (λ (x : Candidate). x.a) e) (same.1 ∙ ap (λ (x : Candidate). x.b) e));
    }

-- the first candidate is not the first link: it stands before all links
first_later : (c l : Candidate) (cs ls : List Candidate) → AreAmong (c ∷ cs) (l ∷ ls) → is_same_pair l c ≡ false → IsBefore c l
first_later c l cs ls are other =
    let in_rest : Contains cs l = Contains-tail c cs l (λ e. let same = itself c l e in absurd (cc)) (All-head (Contains (c ∷ cs)) l ls are.among) in
    All-contains (IsBefore c) cs l (AllPairs-head IsBefore c cs are.rising) in_rest

links_later : (c : Candidate) (cs links : List Candidate) → AreAmong (c ∷ cs) links → is_next links c ≡ false → All (IsBefore c) links
links_later c cs [] are other k d lt = absurd (omega arith)
links_later c cs (l ∷ ls) are other zero d lt = first_later c l cs ls are other
links_later c cs (l ∷ ls) are other (suc k) d lt = before_on c l (get_or ls k d) (first_later c l cs ls are other) (AllPairs-head IsBefore l ls are.links_rise k d (omega arith))

pub kept : (c : Candidate) (cs links : List Candidate) → AreAmong (c ∷ cs) links → is_next links c ≡ false → AreAmong cs links
kept c cs links are other = record {
  rising = AllPairs-tail IsBefore c cs are.rising;
  links_rise = are.links_rise;
  among = all_later c cs links are.among (λ k d lt. not_itself c (get_or links k d) (links_later c cs links are other k d lt));
}

-- there are at most as many links as candidates
more_if : (c l : Candidate) (cs ls : List Candidate) (b : Bool) → (is_same_pair l c ≡ true → length ls ≤ length cs) → (is_same_pair l c ≡ false → length (l ∷ ls) ≤ length cs) → is_same_pair l c ≡ b → length (l ∷ ls) ≤ length (c ∷ cs)
more_if c l cs ls true if_same if_other is = omega (arith, if_same is)
more_if c l cs ls false if_same if_other is = omega (arith, if_other is)

pub not_more : (cs links : List Candidate) → AreAmong cs links → length links ≤ length cs
not_more [] [] are = omega arith
not_more [] (l ∷ ls) are = absurd (omega (arith, (are.among zero l (omega arith)).1))
not_more (c ∷ cs) [] are = omega arith
not_more (c ∷ cs) (l ∷ ls) are =
    more_if c l cs ls (is_same_pair l c) (λ is. not_more cs ls (passed c cs (l ∷ ls) are is)) (λ is. not_more cs (l ∷ ls) (kept c cs (l ∷ ls) are is)) refl

-- a candidate before all of some links is none of them
none_linked : (c : Candidate) (links : List Candidate) → All (IsBefore c) links → is_chosen links c ≡ false
none_linked c [] before = refl
none_linked c (l ∷ ls) before =
    or_from (is_same_pair l c) (is_chosen ls c) (other_records c l (All-head (IsBefore c) l ls before)) (none_linked c ls (All-tail (IsBefore c) l ls before))

-- a link before all of some candidates is none of them
filter_less : (l : Candidate) (ls cs : List Candidate) → All (λ c. is_same_pair l c ≡ false) cs
    → filter (λ c. not (is_chosen (l ∷ ls) c)) cs ≡ filter (λ c. not (is_chosen ls c)) cs
filter_less l ls [] others = refl
filter_less l ls (c ∷ cs) others =
    let other : is_same_pair l c ≡ false = others zero c (omega arith) in
    let rest = filter_less l ls cs (λ k d lt. others (suc k) d (omega arith)) in
    rw (other, rest) refl

-- the candidate that is the first link is left out, and the other links are among the rest
first_linked : (c : Candidate) (cs links : List Candidate) → AreAmong (c ∷ cs) links → is_next links c ≡ true
    → filter (λ x. not (is_chosen links x)) (c ∷ cs) ≡ filter (λ x. not (is_chosen (drop 1 links) x)) cs
first_linked c cs [] are is = absurd (cc)
first_linked c cs (l ∷ ls) are is =
    let same = same_records l c is in
    let others : All (λ x. is_same_pair l x ≡ false) cs = λ k d lt. other_after l c (get_or cs k d) same.0 same.1 (AllPairs-head IsBefore c cs are.rising k d lt) in
    rw is (filter_less l ls cs others)

-- what is left are the candidates that are not among the links
left_if : (c : Candidate) (cs links : List Candidate) → AreAmong (c ∷ cs) links
    → (is_next links c ≡ true → unlinked cs (drop 1 links) ≡ filter (λ x. not (is_chosen (drop 1 links) x)) cs)
    → (is_next links c ≡ false → unlinked cs links ≡ filter (λ x. not (is_chosen links x)) cs)
    → (b : Bool) → is_next links c ≡ b → cond b (unlinked cs (drop 1 links)) (c ∷ unlinked cs links) ≡ filter (λ x. not (is_chosen links x)) (c ∷ cs)
left_if c cs links are if_next if_other true is = if_next is ∙ sym (first_linked c cs links are is)
left_if c cs links are if_next if_other false is =
    let none : is_chosen links c ≡ false = none_linked c links (links_later c cs links are is) in
    rw none (ap (λ (xs : List Candidate). c ∷ xs) (if_other is))

pub unlinked_are : (cs links : List Candidate) → AreAmong cs links → unlinked cs links ≡ filter (λ c. not (is_chosen links c)) cs
unfolding unlinked
unlinked_are [] links are = refl
unlinked_are (c ∷ cs) links are =
    left_if c cs links are (λ is. unlinked_are cs (drop 1 links) (passed c cs links are is)) (λ is. unlinked_are cs links (kept c cs links are is)) (is_next links c) refl

-- one candidate more, of those from a place on
module _ (cs links : List Candidate) (i : ℕ) (d : Candidate) (lt : i < length cs) where
  pub link_passed : (all : List Dropped) → is_next links (get_or cs i d) ≡ true → all ++ map dropped (unlinked (drop i cs) links) ≡ all ++ map dropped (unlinked (drop (i + 1) cs) (drop 1 links))
  unfolding unlinked
  link_passed all is = rw (drop_more cs i d lt, is) refl

  pub one_dropped : (all more : List Dropped) → is_next links (get_or cs i d) ≡ false → more ≡ all ++ dropped (get_or cs i d) ∷ []
      → all ++ map dropped (unlinked (drop i cs) links) ≡ more ++ map dropped (unlinked (drop (i + 1) cs) links)
  unfolding unlinked
  one_dropped all more is pushed = rw (drop_more cs i d lt, is, pushed) (sym (append_assoc all (dropped (get_or cs i d) ∷ []) (map dropped (unlinked (drop (i + 1) cs) links))))

-- all candidates are passed
pub all_passed : (cs links rest : List Candidate) (i : ℕ) (all : List Dropped) → length cs ≤ i → AreAmong cs links
    → all ++ map dropped (unlinked (drop i cs) rest) ≡ map dropped (unlinked cs links) → all ≡ dropped_of cs links
unfolding unlinked
all_passed cs links rest i all past are told =
    let none : drop i cs ≡ [] = drop_all i cs past in
    let empty : all ++ map dropped (unlinked (drop i cs) rest) ≡ all = rw none (append-nil all) in
    sym empty ∙ told ∙ ap (map dropped) (unlinked_are cs links are)

-- what one link more is worth
pub total_more : {X : Type 0} (f : X → ℤ) (xs : List X) (i : ℕ) (d : X) → i < length xs → total f (take (i + 1) xs) ≡ total f (take i xs) +ℤ f (get_or xs i d)
total_more f [] i d lt = absurd (omega arith)
total_more f (x ∷ xs) zero d lt = omega (arith, ints)
total_more f (x ∷ xs) (suc i) d lt =
    let e : suc i + 1 ≡ suc (i + 1) = omega arith in
    rw e (omega (arith, ints, total_more f xs i d (omega arith)))
