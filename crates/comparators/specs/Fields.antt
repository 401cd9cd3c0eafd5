-- What values, and the ids and days that stand for them, are compared by: the outcomes of a kind keep the laws of a comparator
-- (`value_laws`); `FieldById::of` gives the comparator of a kind over ids, and its impl of `Comparator` carries its outcome (member
-- `outcome_of`).
use Rattle.std.specs.Prelude.{◌≡◌, Bool, true, false, Option, Some, None, is_some, ℕ, ℤ, pos, ◌<◌, length, option_map, ⊤, MatchBool, List, slice_get, zero, suc, [], ◌∷◌, take, drop}
use Rattle.link_base.specs.declared.rule.Outcome.{Outcome}
use Rattle.value_forms.specs.declared.canons.CompareKind.{CompareKind}
use Rattle.link_base.specs.declared.standard.Value.{Value}
use Rattle.link_base.specs.Words.{IsDay}
use Rattle.value_forms.specs.Days.{year_of_day}
use Rattle.comparators.specs.declared.ids.IdValue.{IdValue}
use Rattle.comparators.specs.declared.ids.FieldById.{FieldById}
use Rattle.value_forms.specs.Canons.{canon_by, canon_of, compares_days, initials_canon, day_in, year_in}
use Rattle.comparators.specs.Laws.{CanonLaws, ComparatorLaws, outcome_by, outcome_of_texts, outcome_of_ids, outcome_of_counted, near, canon_laws_by, laws_by, text_laws, id_laws, rare_id_laws, near_laws}
use Rattle.link_base.specs.declared.rule.Outcome.TheVariants.{Agree, Rare}
use Rattle.value_forms.specs.declared.canons.CompareKind.TheVariants as compare
use Rattle.comparators.specs.declared.ids.IdValue.TheVariants as id
use Rattle.comparators.specs.declared.ids.FieldById.TheVariants as field

abbrev pub kind_present : CompareKind → Value → Bool
kind_present (compare.Same canon) x = is_some (canon_by canon x)
kind_present compare.Initials x = is_some (initials_canon x)
kind_present (compare.DaysWithin t) x = is_some (day_in x)
kind_present (compare.YearsWithin t) x = is_some (year_in x)

abbrev pub kind_outcome : CompareKind → Value → Value → Outcome
kind_outcome (compare.Same canon) x y = outcome_by outcome_of_texts (canon_by canon x) (canon_by canon y)
kind_outcome compare.Initials x y = outcome_by outcome_of_texts (initials_canon x) (initials_canon y)
kind_outcome (compare.DaysWithin t) x y = outcome_by (near t) (day_in x) (day_in y)
kind_outcome (compare.YearsWithin t) x y = outcome_by (near t) (year_in x) (year_in y)

pub kind_laws : (kind : CompareKind) → ComparatorLaws false (kind_present kind) (kind_outcome kind)
kind_laws (compare.Same canon) = laws_by text_laws (canon_by canon)
kind_laws compare.Initials = laws_by text_laws initials_canon
kind_laws (compare.DaysWithin t) = laws_by (near_laws t) day_in
kind_laws (compare.YearsWithin t) = laws_by (near_laws t) year_in

pub kind_canons : (kind : CompareKind) → compares_days kind ≡ false → CanonLaws (kind_present kind) (kind_outcome kind) (canon_of kind)
kind_canons (compare.Same canon) h = canon_laws_by (canon_by canon)
kind_canons compare.Initials h = canon_laws_by initials_canon
kind_canons (compare.DaysWithin t) h = absurd (cc)
kind_canons (compare.YearsWithin t) h = absurd (cc)

abbrev pub id_in : IdValue → Option ℕ
id_in id.Absent = None
id_in (id.Id place) = Some place
id_in (id.Day day) = None

abbrev pub day_of_id : IdValue → Option ℤ
day_of_id id.Absent = None
day_of_id (id.Id place) = None
day_of_id (id.Day day) = Some day

abbrev pub year_of_id : IdValue → Option ℤ
year_of_id x = option_map (λ (day : ℤ). pos (year_of_day day)) (day_of_id x)

abbrev pub IsIdOrAbsent : IdValue → Type 0
IsIdOrAbsent id.Absent = ⊤
IsIdOrAbsent (id.Id place) = ⊤
IsIdOrAbsent (id.Day day) = ⊥

abbrev pub IsCounted : ℕ → IdValue → Type 0
IsCounted rows id.Absent = ⊤
IsCounted rows (id.Id place) = place < rows
IsCounted rows (id.Day day) = ⊥

abbrev pub IsDayOrAbsent : IdValue → Type 0
IsDayOrAbsent id.Absent = ⊤
IsDayOrAbsent (id.Id place) = ⊥
IsDayOrAbsent (id.Day day) = IsDay day

abbrev pub IsFieldSide : FieldById → IdValue → Type 0
IsFieldSide field.Same x = IsIdOrAbsent x
IsFieldSide (field.Rare most counts) x = IsCounted (length counts.items) x
IsFieldSide (field.Days t) x = IsDayOrAbsent x
IsFieldSide (field.Years t) x = IsDayOrAbsent x

abbrev pub field_rare : FieldById → Bool
field_rare field.Same = false
field_rare (field.Rare most counts) = true
field_rare (field.Days t) = false
field_rare (field.Years t) = false

abbrev pub field_present : FieldById → IdValue → Bool
field_present field.Same x = is_some (id_in x)
field_present (field.Rare most counts) x = is_some (id_in x)
field_present (field.Days t) x = is_some (day_of_id x)
field_present (field.Years t) x = is_some (year_of_id x)

abbrev pub field_outcome : FieldById → IdValue → IdValue → Outcome
field_outcome field.Same x y = outcome_by outcome_of_ids (id_in x) (id_in y)
field_outcome (field.Rare most counts) x y = outcome_by (outcome_of_counted most counts.items) (id_in x) (id_in y)
field_outcome (field.Days t) x y = outcome_by (near t) (day_of_id x) (day_of_id y)
field_outcome (field.Years t) x y = outcome_by (near t) (year_of_id x) (year_of_id y)

pub field_laws : (c : FieldById) → ComparatorLaws (field_rare c) (field_present c) (field_outcome c)
field_laws field.Same = laws_by id_laws id_in
field_laws (field.Rare most counts) = laws_by (rare_id_laws most counts.items) id_in
field_laws (field.Days t) = laws_by (near_laws t) day_of_id
field_laws (field.Years t) = laws_by (near_laws t) year_of_id

-- the comparator of a kind, over ids of canons or over days
abbrev pub field_of : CompareKind → FieldById
field_of (compare.Same canon) = field.Same
field_of compare.Initials = field.Same
field_of (compare.DaysWithin t) = field.Days t
field_of (compare.YearsWithin t) = field.Years t

-- Ids that stand for values. `same_outcomes` carries what they are worth (clause `fields`).

-- the id of a canon among these texts, and none where there is no canon
abbrev pub NamesCanon : List (List ℕ) → Option (List ℕ) → IdValue → Type 0
NamesCanon texts None id.Absent = ⊤
NamesCanon texts None (id.Id place) = ⊥
NamesCanon texts None (id.Day day) = ⊥
NamesCanon texts (Some canon) id.Absent = ⊥
NamesCanon texts (Some canon) (id.Id place) = slice_get texts place ≡ Some canon
NamesCanon texts (Some canon) (id.Day day) = ⊥

-- a day itself
abbrev pub IsDayItself : Option ℤ → IdValue → Type 0
IsDayItself None id.Absent = ⊤
IsDayItself None (id.Id place) = ⊥
IsDayItself None (id.Day day) = ⊥
IsDayItself (Some day) id.Absent = ⊥
IsDayItself (Some day) (id.Id place) = ⊥
IsDayItself (Some day) (id.Day other) = other ≡ day

-- what stands for a value that is compared by a kind: its day, where the kind compares days, and else the id of its canon
abbrev pub StandsFor : List (List ℕ) → CompareKind → Value → IdValue → Type 0
StandsFor texts kind x side = MatchBool (compares_days kind) (IsDayItself (day_in x) side) (NamesCanon texts (canon_of kind x) side)

-- an outcome whose agreement is rare
abbrev pub rare_where : Bool → Outcome → Outcome
rare_where true Agree = Rare
rare_where true other = other
rare_where false outcome = outcome

-- Rows that stand one behind the other: what `IdTable` is seen as. `IdTable::of` carries it (clause `rows`).

-- so many rows of the same width
abbrev pub rows_of_width : {X : Type 0} → ℕ → ℕ → List X → List (List X)
rows_of_width width zero xs = []
rows_of_width width (suc count) xs = take width xs ∷ rows_of_width width count (drop width xs)

-- what is seen of a table of ids: how many values a row has, and its rows
pub record IdRows : Type 0 where
  pub fields : ℕ
  pub rows : List (List IdValue)
