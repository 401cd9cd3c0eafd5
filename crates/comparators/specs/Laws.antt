-- What the answers of a comparator keep, and outcomes made from what is read of each side. The trait carries the laws
-- (`Comparator`, member `laws`) and the impl's `outcome_of` its outcome; `value_laws` says them of values.
use Rattle.link_base.specs.declared.rule.Outcome.{Outcome}
use Rattle.link_base.specs.declared.rule.Outcome.TheVariants.{Agree, Disagree, Missing, Rare}
use Rattle.std.specs.Cmp.{nat_eq_equiv}
use Rattle.std.proofs.Common.{eqb-true, refl, ap, sym, ◌∙◌, arith, ◌≡◌, Bool, true, false, not, ◌&&◌, Option, Some, None, is_some, List, ℕ, ◌==◌, nat_le, if◌then◌else◌, slice_index, ℤ, ◌-ℤ◌, unsigned_abs, bytes_eq}
use Rattle.std.specs.Cmp.Lexicographic.{nat_list_eq_equiv}
use Rattle.std.proofs.lemmas.Slice.Eq.{bytes_eq-Decides}
use Rattle.std.proofs.lemmas.Int.{ints}
use Rattle.std.proofs.lemmas.Bool.Decides.{nat_tests}

abbrev pub is_agreement : Outcome → Bool
is_agreement Agree = true
is_agreement Disagree = false
is_agreement Missing = false
is_agreement Rare = true

abbrev pub is_missing : Outcome → Bool
is_missing Agree = false
is_missing Disagree = false
is_missing Missing = true
is_missing Rare = false

-- the laws of a comparator
pub record ComparatorLaws {S : Type 0} (rare : Bool) (present : S → Bool) (outcome : S → S → Outcome) : Type 0 where
  pub symmetric : (x y : S) → outcome x y ≡ outcome y x
  pub same : (x : S) → present x ≡ true → is_agreement (outcome x x) ≡ true
  pub missing : (x y : S) → is_missing (outcome x y) ≡ not (present x && present y)
  pub only_rare : (x y : S) → outcome x y ≡ Rare → rare ≡ true

-- the laws of a comparison of canons
pub record CanonLaws {S K : Type 0} (present : S → Bool) (outcome : S → S → Outcome) (canon : S → Option K) : Type 0 where
  pub present_at : (x : S) → is_some (canon x) ≡ present x
  pub alike : (x y : S) → present x ≡ true → present y ≡ true → canon x ≡ canon y → is_agreement (outcome x y) ≡ true
  pub equal : (x y : S) → is_agreement (outcome x y) ≡ true → canon x ≡ canon y

-- the laws of the outcome of two present values
pub record IsComparison {K : Type 0} (rare : Bool) (both : K → K → Outcome) : Type 0 where
  pub symmetric : (x y : K) → both x y ≡ both y x
  pub same : (x : K) → is_agreement (both x x) ≡ true
  pub present : (x y : K) → is_missing (both x y) ≡ false
  pub only_rare : (x y : K) → both x y ≡ Rare → rare ≡ true

-- the outcome of two sides, from what is read of each
abbrev pub outcome_by : {K : Type 0} → (K → K → Outcome) → Option K → Option K → Outcome
outcome_by both None y = Missing
outcome_by both (Some x) None = Missing
outcome_by both (Some x) (Some y) = both x y

abbrev pub agree_where : Bool → Outcome
agree_where true = Agree
agree_where false = Disagree

abbrev pub outcome_of_texts : List ℕ → List ℕ → Outcome
outcome_of_texts x y = agree_where (bytes_eq x y)

abbrev pub outcome_of_ids : ℕ → ℕ → Outcome
outcome_of_ids x y = agree_where (x == y)

-- two numbers that differ by at most `most`
abbrev pub near : ℕ → ℤ → ℤ → Outcome
near most x y = agree_where (nat_le (unsigned_abs (x -ℤ y)) most)

-- two ids, whose agreement is rare where at most `most` rows have them
abbrev pub outcome_of_counted : ℕ → List ℕ → ℕ → ℕ → Outcome
outcome_of_counted most counts x y = if x == y then (if nat_le (slice_index counts x) most then Rare else Agree) else Disagree

-- The laws of outcomes that are made from what is read of each side: the proofs of member `laws` and of `value_laws`.

module _ {K : Type 0} {rare : Bool} {both : K → K → Outcome} (laws : IsComparison rare both) where
  symmetric_by : (x y : Option K) → outcome_by both x y ≡ outcome_by both y x
  symmetric_by None None = refl
  symmetric_by None (Some y) = refl
  symmetric_by (Some x) None = refl
  symmetric_by (Some x) (Some y) = laws.symmetric x y

  same_by : (x : Option K) → is_some x ≡ true → is_agreement (outcome_by both x x) ≡ true
  same_by None h = cc
  same_by (Some x) h = laws.same x

  missing_by : (x y : Option K) → is_missing (outcome_by both x y) ≡ not (is_some x && is_some y)
  missing_by None y = refl
  missing_by (Some x) None = refl
  missing_by (Some x) (Some y) = laws.present x y

  rare_by : (x y : Option K) → outcome_by both x y ≡ Rare → rare ≡ true
  rare_by None y h = cc
  rare_by (Some x) None h = cc
  rare_by (Some x) (Some y) h = laws.only_rare x y h

  -- a comparison of what is read keeps the laws
  pub laws_by : {S : Type 0} (read : S → Option K) → ComparatorLaws rare (λ s. is_some (read s)) (λ x y. outcome_by both (read x) (read y))
  laws_by read = record {
    symmetric = λ x y. symmetric_by (read x) (read y);
    same = λ x. same_by (read x);
    missing = λ x y. missing_by (read x) (read y);
    only_rare = λ x y. rare_by (read x) (read y);
  }

-- an outcome by a test has the laws where the test is symmetric and holds of equals
pub test_laws : {K : Type 0} {test : K → K → Bool} → ((x y : K) → test x y ≡ test y x) → ((x : K) → test x x ≡ true) → IsComparison false (λ x y. agree_where (test x y))
test_laws {test = test} symm same = record {
  symmetric = λ x y. ap agree_where (symm x y);
  same = λ x. ap (λ b. is_agreement (agree_where b)) (same x);
  present = λ x y. never_missing (test x y);
  only_rare = λ x y. never_rare (test x y);
}
  where
    never_missing : (b : Bool) → is_missing (agree_where b) ≡ false
    never_missing true = refl
    never_missing false = refl

    never_rare : (b : Bool) → agree_where b ≡ Rare → false ≡ true
    never_rare true h = cc
    never_rare false h = cc

pub text_laws : IsComparison false outcome_of_texts
text_laws = test_laws nat_list_eq_equiv.symm nat_list_eq_equiv.refl

alike_by : (x y : Option (List ℕ)) → is_some x ≡ true → is_some y ≡ true → x ≡ y → is_agreement (outcome_by outcome_of_texts x y) ≡ true
alike_by None y p q e = cc
alike_by (Some x) None p q e = cc
alike_by (Some x) (Some y) p q e = let alike : x ≡ y = cc in ap (λ b. is_agreement (agree_where b)) ((bytes_eq-Decides x y).1 alike)

equal_by : (x y : Option (List ℕ)) → is_agreement (outcome_by outcome_of_texts x y) ≡ true → x ≡ y
equal_by None y h = cc
equal_by (Some x) None h = cc
equal_by (Some x) (Some y) h = ap Some ((bytes_eq-Decides x y).0 (of_agreement (bytes_eq x y) h))
  where
    of_agreement : (b : Bool) → is_agreement (agree_where b) ≡ true → b ≡ true
    of_agreement true h = refl
    of_agreement false h = cc

-- a comparison of texts has them as its canons
pub canon_laws_by : {S : Type 0} (read : S → Option (List ℕ)) → CanonLaws (λ s. is_some (read s)) (λ x y. outcome_by outcome_of_texts (read x) (read y)) read
canon_laws_by read = record {
  present_at = λ x. refl;
  alike = λ x y. alike_by (read x) (read y);
  equal = λ x y. equal_by (read x) (read y);
}

pub id_laws : IsComparison false outcome_of_ids
id_laws = test_laws nat_eq_equiv.symm nat_eq_equiv.refl

gap-symmetric : (x y : ℤ) → unsigned_abs (x -ℤ y) ≡ unsigned_abs (y -ℤ x)
gap-symmetric x y = omega (arith, ints)

gap-same : (x : ℤ) → unsigned_abs (x -ℤ x) ≡ 0
gap-same x = omega (arith, ints)

pub near_laws : (most : ℕ) → IsComparison false (near most)
near_laws most = test_laws (λ x y. ap (λ n. nat_le n most) (gap-symmetric x y)) (λ x. ap (λ n. nat_le n most) (gap-same x) ∙ zero_within most)
  where
    zero_within : (n : ℕ) → nat_le 0 n ≡ true
    zero_within n = grind (arith, nat_tests)

pub rare_id_laws : (most : ℕ) (counts : List ℕ) → IsComparison true (outcome_of_counted most counts)
rare_id_laws most counts = record {
  symmetric = λ x y. swapped x y (x == y) refl;
  same = λ x. rw (nat_eq_equiv.refl x) (agrees (nat_le (slice_index counts x) most));
  present = λ x y. there (x == y) (nat_le (slice_index counts x) most);
  only_rare = λ x y h. refl;
}
  where
    swapped : (x y : ℕ) (b : Bool) → (x == y) ≡ b → outcome_of_counted most counts x y ≡ outcome_of_counted most counts y x
    swapped x y true e = let equal : x ≡ y = eqb-true x y e in rw equal refl
    swapped x y false e = let back : (y == x) ≡ false = sym (nat_eq_equiv.symm x y) ∙ e in rw (e, back) refl

    agrees : (b : Bool) → is_agreement (if b then Rare else Agree) ≡ true
    agrees true = refl
    agrees false = refl

    there : (a b : Bool) → is_missing (if a then (if b then Rare else Agree) else Disagree) ≡ false
    there true true = refl
    there true false = refl
    there false b = refl
