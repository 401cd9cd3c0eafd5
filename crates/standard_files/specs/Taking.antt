-- Machinery of `pool_values`: texts taken into a pool one after the other. No public clause names it.
use Rattle.std.specs.Prelude.{◌≡◌, ◌≢◌, ◌+◌, ◌++◌, ℕ, List, length, AllPairs, Option, Some, slice_get, Result, Ok, Err, ◌<◌, [], ◌∷◌, All, None, slice_index_or, true, ⊤, IfSome, pos, flat_map}
use Rattle.block_passes.specs.Keys.{key_ids}
use Rattle.comparators.specs.Fields.{IdRows}
use Rattle.value_pool.specs.Pool.{PoolState, stands_among, is_want_of_pool}
use Rattle.value_pool.specs.declared.pool.PoolFault.{PoolFault}
use Rattle.link_base.specs.Words.{RefusesBut, Record, absent_value, IsValid}
use Rattle.value_forms.specs.declared.canons.CompareKind.{CompareKind}
use Rattle.value_forms.specs.declared.passes.Part.{Part}
use Rattle.standard_files.specs.Sides.{sides_of_file, side_of, sides_of_row, texts_taken, canons_of_row, file_texts, standard_text}
use Rattle.comparators.specs.declared.ids.IdValue.{IdValue}
use Rattle.value_forms.specs.Canons.{exact, canon_of, exact_canon}
use Rattle.link_base.specs.declared.standard.Value.{Value}
use Rattle.standard_files.specs.declared.known.Known.{Known}
use Rattle.standard_files.specs.declared.known.KnownCanon.{KnownCanon}
use Rattle.standard_files.specs.declared.known.KnownDay.{KnownDay}
use Rattle.comparators.specs.declared.ids.IdValue.TheVariants as id
use Rattle.link_base.specs.declared.standard.Value.TheVariants as value

-- a pool took these texts and kept its limit, and what was told holds
pub record HasTakenTexts (old new : PoolState) (texts : List (List ℕ)) (told : Type 0) : Type 0 where
  pub limit : new.limit ≡ old.limit
  pub taken : texts_taken old.limit old.texts texts ≡ Ok new.texts
  pub holds : told

-- the same, or it refuses the first text that passes its limit
abbrev pub TakesTexts : {T : Type 0} → PoolState → PoolState → List (List ℕ) → (T → Type 0) → Result T PoolFault → Type 0
TakesTexts old new texts told (Ok x) = HasTakenTexts old new texts (told x)
TakesTexts old new texts told (Err f) = RefusesBut is_want_of_pool (texts_taken old.limit old.texts texts) f

-- distinct texts, among which each of some texts keeps its place
pub record Extends (held final : List (List ℕ)) : Type 0 where
  pub distinct : AllPairs (λ a b. a ≢ b) final
  pub kept : (i : ℕ) (text : List ℕ) → slice_get held i ≡ Some text → slice_get final i ≡ Some text

-- this holds in any later pool
abbrev pub InLater : List (List ℕ) → (List (List ℕ) → Type 0) → Type 0
InLater held told = (final : List (List ℕ)) → Extends held final → told final

-- a list goes on with what any later pool gives, so many items
pub record GoesOn {X : Type 0} (held : List (List ℕ)) (old new : List X) (count : ℕ) (more : List (List ℕ) → List X) : Type 0 where
  pub many : length new ≡ length old + count
  pub later : InLater held (λ final. old ++ more final ≡ new)

-- what the rows of a file are compared by is what any later pool gives
pub record IsCompared (held : List (List ℕ)) (kinds : List CompareKind) (file : List Record) (table : IdRows) : Type 0 where
  pub fields : table.fields ≡ length kinds
  pub sides : InLater held (λ final. sides_of_file final kinds file ≡ table.rows)

-- and so are the ids of the parts of its keys
pub record IsTaken (held : List (List ℕ)) (kinds : List CompareKind) (passes : List (List Part)) (file : List Record) (table : IdRows) (ids : List (Option ℕ)) : Type 0 where
  pub compared : IsCompared held kinds file table
  pub keys : InLater held (λ final. key_ids final passes file ≡ ids)

-- Machinery of `pool_values`: texts by their ids in a pool, canons that are known by them, and what is known of a row when its
-- keys are taken. No public clause names it.

-- each of some texts is held
abbrev pub HoldsTexts : List (List ℕ) → List (List ℕ) → Type 0
HoldsTexts held texts = (text : List ℕ) → stands_among texts text ≡ true → stands_among held text ≡ true

-- the id of a text that is held, if there is a text
abbrev pub IsIdOf : List (List ℕ) → Option (List ℕ) → Option ℕ → Type 0
IsIdOf held None None = ⊤
IsIdOf held None (Some id) = ⊥
IsIdOf held (Some text) None = ⊥
IsIdOf held (Some text) (Some id) = slice_get held id ≡ Some text

-- the ids of the standard texts of values, one for each value
abbrev pub AreTextIds : List (List ℕ) → List Value → List (Option ℕ) → Type 0
AreTextIds held [] [] = ⊤
AreTextIds held [] (id ∷ ids) = ⊥
AreTextIds held (v ∷ vs) [] = ⊥
AreTextIds held (v ∷ vs) (id ∷ ids) = IsIdOf held (standard_text v) id × AreTextIds held vs ids

-- the values of a file, row by row
abbrev pub file_values : List Record → List Value
file_values file = flat_map (λ (r : Record). r.row) file

-- what the values of a file are compared by, row by row
abbrev pub flat_sides : List (List ℕ) → List CompareKind → List Record → List IdValue
flat_sides texts kinds file = flat_map (λ (r : Record). sides_of_row texts kinds r.row) file

-- what a value is compared by, whose canon has this id
abbrev pub side_by_id : Option ℕ → IdValue
side_by_id None = id.Absent
side_by_id (Some canon) = id.Id canon

-- the canon of the text at a place of a pool, by the kind of a field
pub record IsCanonAt (held : List (List ℕ)) (kinds : List CompareKind) (place : ℕ) (known : KnownCanon) : Type 0 where
  pub text : List ℕ
  pub stands : slice_get held place ≡ Some text
  pub canon : IsIdOf held (canon_of (slice_index_or kinds known.field exact) (value.Word text)) (Some known.canon)

abbrev pub IsKnownAt : List (List ℕ) → List CompareKind → ℕ → Option KnownCanon → Type 0
IsKnownAt held kinds place None = ⊤
IsKnownAt held kinds place (Some known) = IsCanonAt held kinds place known

-- at the place of each text of a pool a canon of it, or none
abbrev pub AreKnownCanons : List (List ℕ) → List CompareKind → List (Option KnownCanon) → Type 0
AreKnownCanons held kinds canons = (place : ℕ) → IsKnownAt held kinds place (slice_index_or canons place None)

-- a slot that keeps no day
abbrev pub no_day : KnownDay
no_day = record { day = pos 0; text = None }

-- days with the ids of their texts
abbrev pub IsKnownDay : List (List ℕ) → KnownDay → Type 0
IsKnownDay held known = IfSome known.text (λ (text : ℕ). IsIdOf held (exact_canon (value.Day known.day)) (Some text))

abbrev pub AreKnownDays : List (List ℕ) → List KnownDay → Type 0
AreKnownDays held days = (slot : ℕ) → IsKnownDay held (slice_index_or days slot no_day)

-- what is known of the texts of a pool
pub record AreKnown (held : List (List ℕ)) (kinds : List CompareKind) (known : Known) : Type 0 where
  pub canons : AreKnownCanons held kinds known.canons.items
  pub days : AreKnownDays held known.days.items

-- the canon of the value of a row in a field
abbrev pub canon_at : List CompareKind → List Value → ℕ → Option (List ℕ)
canon_at kinds row at = canon_of (slice_index_or kinds at exact) (slice_index_or row at absent_value)

-- what it is compared by
abbrev pub side_at : List (List ℕ) → List CompareKind → List Value → ℕ → IdValue
side_at texts kinds row at = side_of texts (slice_index_or kinds at exact) (slice_index_or row at absent_value)

-- a valid value in a field of a row, the id of its standard text, and what is known of the texts of a pool
pub record IsKnownField (held : List (List ℕ)) (kinds : List CompareKind) (known : Known) (row : List Value) (at : ℕ) (id : Option ℕ) : Type 0 where
  pub field : at < length kinds
  pub within : at < length row
  pub valid : IsValid (slice_index_or row at absent_value)
  pub text : IsIdOf held (standard_text (slice_index_or row at absent_value)) id
  pub all : AreKnown held kinds known

-- a row for these kinds whose standard texts and canons are held: the ids of the texts, and what its values are compared by
pub record IsKnownRow (held : List (List ℕ)) (kinds : List CompareKind) (row : List Value) (ids : List (Option ℕ)) (compared : List IdValue) : Type 0 where
  pub as_many : length row ≡ length kinds
  pub valid : All IsValid row
  pub texts : AreTextIds held row ids
  pub canons : HoldsTexts held (canons_of_row kinds row)
  pub width : length compared ≡ length kinds
  pub sides : InLater held (λ final. sides_of_row final kinds row ≡ compared)

-- the same of the rows of a file
pub record IsKnownFile (held : List (List ℕ)) (kinds : List CompareKind) (file : List Record) (ids : List (Option ℕ)) (compared : List (List IdValue)) : Type 0 where
  pub texts : AreTextIds held (file_values file) ids
  pub canons : HoldsTexts held (file_texts (canons_of_row kinds) file)
  pub sides : InLater held (λ final. sides_of_file final kinds file ≡ compared)
