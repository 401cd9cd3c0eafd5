-- Laws of ids that stand for values: ids of distinct texts are equal exactly where the texts are, so the outcome of two ids or days is that
-- of the values that they stand for.
use Rattle.std.proofs.Common.{if◌then◌else◌, ◌≡◌, ◌<◌, ◌==◌, ℕ, Bool, true, false, List, length, Option, Some, None, refl, ap, sym, ◌∙◌, nat_le, slice_index, MatchBool, option_map, slice_get, ℤ, pos, bytes_eq}
use Rattle.std.proofs.lemmas.Bool.Decides.{Decides-eqb, same_from_decides}
use Rattle.std.proofs.lemmas.Option.{slice_get_within}
use Rattle.std.proofs.lemmas.Slice.Eq.{bytes_eq-Decides}
use Rattle.link_base.specs.declared.rule.Outcome.TheVariants.{Agree, Disagree, Rare}
use Rattle.value_forms.specs.declared.canons.CompareKind.{CompareKind}
use Rattle.value_forms.specs.declared.canons.CompareKind.TheVariants as compare
use Rattle.link_base.specs.declared.standard.Value.{Value}
use Rattle.link_base.specs.declared.standard.Value.TheVariants as value
use Rattle.value_forms.specs.Days.{year_of_day}
use Rattle.comparators.specs.declared.ids.IdValue.{IdValue}
use Rattle.comparators.specs.declared.ids.IdValue.TheVariants as id
use Rattle.value_forms.specs.Canons.{compares_days, canon_by, initials_canon, day_in, year_in}
use Rattle.comparators.specs.Fields.{day_of_id, field_of, field_outcome, id_in, IsDayOrAbsent, IsFieldSide, IsIdOrAbsent, kind_outcome, year_of_id, IsDayItself, NamesCanon, StandsFor, rare_where}
use Rattle.comparators.specs.Laws.{agree_where, near, outcome_by, outcome_of_ids, outcome_of_counted, outcome_of_texts}

module _ (texts : List (List ℕ)) (distinct : (a b : ℕ) → a < length texts → slice_get texts a ≡ slice_get texts b → a ≡ b) where
  pub ids_alike : (m n : ℕ) (c d : List ℕ) → slice_get texts m ≡ Some c → slice_get texts n ≡ Some d → (m == n) ≡ bytes_eq c d
  ids_alike m n c d h k =
      same_from_decides (m == n) (bytes_eq c d) (Decides-eqb m n) (
        λ same. distinct m n (slice_get_within texts m c h) (h ∙ ap Some ((bytes_eq-Decides c d).0 same) ∙ sym k),
        λ here. let there : slice_get texts m ≡ slice_get texts n = ap (slice_get texts) here in
            let same : c ≡ d = cc in
            (bytes_eq-Decides c d).1 same,
      )

  -- a canon and an id that names it are both missing, or a text and its place
  pub names_as : (x : Option (List ℕ)) (a : IdValue) → NamesCanon texts x a → (P : Option (List ℕ) → Option ℕ → Type 0) → P None None → ((c : List ℕ) (m : ℕ) → slice_get texts m ≡ Some c → P (Some c) (Some m)) → P x (id_in a)
  names_as None id.Absent h P none some = none
  names_as None (id.Id m) h P none some = absurd h
  names_as None (id.Day m) h P none some = absurd h
  names_as (Some c) id.Absent h P none some = absurd h
  names_as (Some c) (id.Id m) h P none some = some c m h
  names_as (Some c) (id.Day m) h P none some = absurd h

  pub outcome_of_canons : (x y : Option (List ℕ)) (a b : IdValue) → NamesCanon texts x a → NamesCanon texts y b → outcome_by outcome_of_ids (id_in a) (id_in b) ≡ outcome_by outcome_of_texts x y
  outcome_of_canons x y a b h k =
      names_as x a h (λ u i. outcome_by outcome_of_ids i (id_in b) ≡ outcome_by outcome_of_texts u y) refl
      (λ c m at. names_as y b k (λ v j. outcome_by outcome_of_ids (Some m) j ≡ outcome_by outcome_of_texts (Some c) v) refl (λ d n there. ap agree_where (ids_alike m n c d at there)))

day_is : (x : Option ℤ) (a : IdValue) → IsDayItself x a → day_of_id a ≡ x
day_is None id.Absent h = refl
day_is None (id.Id m) h = absurd h
day_is None (id.Day m) h = absurd h
day_is (Some d) id.Absent h = absurd h
day_is (Some d) (id.Id m) h = absurd h
day_is (Some d) (id.Day m) h = ap Some h

-- the year of a day is read alike
year_is : (x : Value) (a : IdValue) → IsDayItself (day_in x) a → year_of_id a ≡ year_in x
year_is x a h = ap (option_map (λ (day : ℤ). pos (year_of_day day))) (day_is (day_in x) a h) ∙ of_value x
  where
    of_value : (x : Value) → option_map (λ (day : ℤ). pos (year_of_day day)) (day_in x) ≡ year_in x
    of_value value.Absent = refl
    of_value (value.Word w) = refl
    of_value (value.Day d) = refl

rare-test : (most m n : ℕ) (counts : List ℕ) (u : Bool) → (m == n) ≡ u → outcome_of_counted most counts m n ≡ rare_where (nat_le (slice_index counts m) most) (agree_where u)
rare-test most m n counts true e = rw e (by_count (nat_le (slice_index counts m) most))
  where
    by_count : (b : Bool) → (if b then Rare else Agree) ≡ rare_where b (agree_where true)
    by_count true = refl
    by_count false = refl
rare-test most m n counts false e = rw e (by_count (nat_le (slice_index counts m) most))
  where
    by_count : (b : Bool) → Disagree ≡ rare_where b (agree_where false)
    by_count true = refl
    by_count false = refl

pub outcomes_alike : (texts : List (List ℕ)) (distinct : (a b : ℕ) → a < length texts → slice_get texts a ≡ slice_get texts b → a ≡ b) (kind : CompareKind) (x y : Value) (a b : IdValue) → StandsFor texts kind x a → StandsFor texts kind y b → field_outcome (field_of kind) a b ≡ kind_outcome kind x y
outcomes_alike texts distinct (compare.Same canon) x y a b h k = outcome_of_canons texts distinct (canon_by canon x) (canon_by canon y) a b h k
outcomes_alike texts distinct compare.Initials x y a b h k = outcome_of_canons texts distinct (initials_canon x) (initials_canon y) a b h k
outcomes_alike texts distinct (compare.DaysWithin t) x y a b h k = λ i. outcome_by (near t) (day_is (day_in x) a h i) (day_is (day_in y) b k i)
outcomes_alike texts distinct (compare.YearsWithin t) x y a b h k = λ i. outcome_by (near t) (year_is x a h i) (year_is y b k i)

-- a side by what a kind compares is a valid one of its comparator over ids
pub side-valid : (kind : CompareKind) (x : IdValue) → MatchBool (compares_days kind) (IsDayOrAbsent x) (IsIdOrAbsent x) → IsFieldSide (field_of kind) x
side-valid (compare.Same canon) x h = h
side-valid compare.Initials x h = h
side-valid (compare.DaysWithin t) x h = h
side-valid (compare.YearsWithin t) x h = h

pub rare_alike : (texts : List (List ℕ)) (distinct : (a b : ℕ) → a < length texts → slice_get texts a ≡ slice_get texts b → a ≡ b) (most : ℕ) (counts : List ℕ) (m n : ℕ) (c d : List ℕ) → slice_get texts m ≡ Some c → slice_get texts n ≡ Some d → outcome_of_counted most counts m n ≡ rare_where (nat_le (slice_index counts m) most) (outcome_of_texts c d)
rare_alike texts distinct most counts m n c d h k = rare-test most m n counts (m == n) refl ∙ ap (λ u. rare_where (nat_le (slice_index counts m) most) (agree_where u)) (ids_alike texts distinct m n c d h k)
