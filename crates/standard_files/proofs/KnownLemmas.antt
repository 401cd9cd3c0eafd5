-- Texts by their ids, and canons that are known.
use Rattle.std.proofs.Common.{◌≡◌, ◌<◌, ◌≤◌, ◌+◌, ℕ, zero, suc, true, List, [], ◌∷◌, ◌++◌, length, get_or, take, drop, Option, Some, None, Ok, IfSome, option_to_list, refl, ap, sym, subst, arith, length-append, ◌≢◌, false, ◌∙◌, Result, Err, option_map, slice_get, All, AllPairs, bytes_eq}
use Rattle.link_base.specs.Words.{absent_value, no_record, Record}
use Rattle.value_forms.specs.declared.canons.CompareKind.{CompareKind}
use Rattle.value_forms.specs.Canons.{exact, canon_of, exact_canon, compares_days, canon_by}
use Rattle.link_base.specs.declared.standard.Value.{Value}
use Rattle.link_base.specs.declared.standard.Value.TheVariants as value
use Rattle.value_pool.specs.Pool.{stands_among, place_among, PoolState}
use Rattle.standard_files.specs.Taking.{AreKnown, AreKnownCanons, AreKnownDays, AreTextIds, IsIdOf, IsKnownAt, IsKnownDay, file_values, no_day, side_by_id, HoldsTexts, IsKnownFile, IsKnownRow, Extends, HasTakenTexts, TakesTexts}
use Rattle.standard_files.specs.Sides.{id_side, side_of, sides_of_file, sides_of_row, standard_text, texts_taken, canons_of_row, file_texts}
use Rattle.standard_files.specs.declared.known.Known.{Known}
use Rattle.standard_files.specs.declared.known.KnownCanon.{KnownCanon}
use Rattle.standard_files.specs.declared.known.KnownDay.{KnownDay}
use Rattle.standard_files.proofs.TakingLemmas.{values-row, row-many, row-valid, takes-held, held-more, held-row, side-in, before, extends-self, kept, place-in, itself, or-left, or-right}
use Rattle.std.proofs.lemmas.List.{at_drop_more, get_or-map}
use Rattle.block_passes.specs.Keys.{ids_in_pass, ids_of_row, key_ids, part_id, no_part}
use Rattle.comparators.specs.Fields.{id_in}
use Rattle.comparators.specs.declared.ids.IdValue.{IdValue}
use Rattle.comparators.specs.declared.ids.IdValue.TheVariants as id
use Rattle.value_forms.specs.declared.passes.Part.{Part}
use Rattle.value_pool.specs.declared.pool.PoolFault.{PoolFault}
use Rattle.standard_files.specs.Ready.{IsRowFor}
use Rattle.standard_files.proofs.SideLemmas.{length-sides, side-at, sides-many}

-- a text at a place stands among the texts
pub stands-at : (texts : List (List ℕ)) (i : ℕ) (text : List ℕ) → slice_get texts i ≡ Some text → stands_among texts text ≡ true
stands-at [] i text h = cc
stands-at (t ∷ ts) zero text h = let same : t ≡ text = cc in or-left (bytes_eq t text) (stands_among ts text) (rw same (itself text))
stands-at (t ∷ ts) (suc i) text h = or-right (bytes_eq t text) (stands_among ts text) (stands-at ts i text h)

-- a text whose id is known is not taken again, and is compared by this id
pub id-taken : (limit : ℕ) (held : List (List ℕ)) (o : Option (List ℕ)) (i : Option ℕ) → IsIdOf held o i → texts_taken limit held (option_to_list o) ≡ Ok held
id-taken limit held None None h = refl
id-taken limit held None (Some i) h = absurd h
id-taken limit held (Some text) None h = absurd h
id-taken limit held (Some text) (Some i) h = takes-held limit held (Some text) (stands-at held i text h)

pub id-sides : (held final : List (List ℕ)) (o : Option (List ℕ)) (i : Option ℕ) → Extends held final → IsIdOf held o i → id_side final o ≡ side_by_id i
id-sides held final None None e h = refl
id-sides held final None (Some i) e h = absurd h
id-sides held final (Some text) None e h = absurd h
id-sides held final (Some text) (Some i) e h = side-in i text e h

-- texts keep their places
abbrev pub Keeps : List (List ℕ) → List (List ℕ) → Type 0
Keeps held new = (i : ℕ) (text : List ℕ) → slice_get held i ≡ Some text → slice_get new i ≡ Some text

module _ (held new : List (List ℕ)) (keeps : Keeps held new) where
  pub id-kept : (o : Option (List ℕ)) (i : Option ℕ) → IsIdOf held o i → IsIdOf new o i
  id-kept None None h = tt
  id-kept None (Some i) h = absurd h
  id-kept (Some text) None h = absurd h
  id-kept (Some text) (Some i) h = keeps i text h

  pub ids-kept : (vs : List Value) (is : List (Option ℕ)) → AreTextIds held vs is → AreTextIds new vs is
  ids-kept [] [] h = tt
  ids-kept [] (i ∷ is) h = absurd h
  ids-kept (v ∷ vs) [] h = absurd h
  ids-kept (v ∷ vs) (i ∷ is) h = (id-kept (standard_text v) i h.0, ids-kept vs is h.1)

  known-at-kept : (kinds : List CompareKind) (place : ℕ) (known : Option KnownCanon) → IsKnownAt held kinds place known → IsKnownAt new kinds place known
  known-at-kept kinds place None h = tt
  known-at-kept kinds place (Some known) h =
      record { text = h.text; stands = keeps place h.text h.stands; canon = id-kept (canon_of (get_or kinds known.field exact) (value.Word h.text)) (Some known.canon) h.canon }

  pub canons-kept : (kinds : List CompareKind) (known : List (Option KnownCanon)) → AreKnownCanons held kinds known → AreKnownCanons new kinds known
  canons-kept kinds known h place = known-at-kept kinds place (get_or known place None) (h place)

  day-kept : (o : Option (List ℕ)) (i : Option ℕ) → IfSome i (λ (text : ℕ). IsIdOf held o (Some text)) → IfSome i (λ (text : ℕ). IsIdOf new o (Some text))
  day-kept o None h = tt
  day-kept o (Some i) h = id-kept o (Some i) h

  known-day-kept : (known : KnownDay) → IsKnownDay held known → IsKnownDay new known
  known-day-kept known h = day-kept (exact_canon (value.Day known.day)) known.text h

  pub days-kept : (days : List KnownDay) → AreKnownDays held days → AreKnownDays new days
  days-kept days h slot = known-day-kept (get_or days slot no_day) (h slot)

  pub known-kept : (kinds : List CompareKind) (known : Known) → AreKnown held kinds known → AreKnown new kinds known
  known-kept kinds known h = record { canons = canons-kept kinds known.canons.items h.canons; days = days-kept known.days.items h.days }

-- lists of ids
module _ (held : List (List ℕ)) where
  ids-append : (vs ws : List Value) (is js : List (Option ℕ)) → AreTextIds held vs is → AreTextIds held ws js → AreTextIds held (vs ++ ws) (is ++ js)
  ids-append [] ws [] js h k = k
  ids-append [] ws (i ∷ is) js h k = absurd h
  ids-append (v ∷ vs) ws [] js h k = absurd h
  ids-append (v ∷ vs) ws (i ∷ is) js h k = (h.0, ids-append vs ws is js h.1 k)

  pub ids-many : (vs : List Value) (is : List (Option ℕ)) → AreTextIds held vs is → length is ≡ length vs
  ids-many [] [] h = refl
  ids-many [] (i ∷ is) h = absurd h
  ids-many (v ∷ vs) [] h = absurd h
  ids-many (v ∷ vs) (i ∷ is) h = ap suc (ids-many vs is h.1)

  pub ids-split : (vs ws : List Value) (is : List (Option ℕ)) → AreTextIds held (vs ++ ws) is → AreTextIds held vs (take (length vs) is) × AreTextIds held ws (drop (length vs) is)
  ids-split [] ws is h = (tt, h)
  ids-split (v ∷ vs) ws [] h = absurd h
  ids-split (v ∷ vs) ws (i ∷ is) h = let rest = ids-split vs ws is h.1 in ((h.0, rest.0), rest.1)

  pub ids-at : (vs : List Value) (is : List (Option ℕ)) (k : ℕ) (d : Value) (e : Option ℕ) → k < length vs → AreTextIds held vs is → IsIdOf held (standard_text (get_or vs k d)) (get_or is k e)
  ids-at [] is k d e lt h = absurd (omega arith)
  ids-at (v ∷ vs) [] k d e lt h = absurd h
  ids-at (v ∷ vs) (i ∷ is) zero d e lt h = h.0
  ids-at (v ∷ vs) (i ∷ is) (suc k) d e lt h = ids-at vs is k d e (omega arith) h.1

  pub ids-read : (vs : List Value) (is : List (Option ℕ)) (k : ℕ) (i : Option ℕ) → k < length vs → i ≡ get_or is k i → AreTextIds held vs is → IsIdOf held (standard_text (get_or vs k absent_value)) i
  ids-read vs is k i lt of_id h = subst (IsIdOf held (standard_text (get_or vs k absent_value))) (sym of_id) (ids-at vs is k absent_value i lt h)

-- the ids of the rows of a file that are left
module _ (held : List (List ℕ)) (kinds : List CompareKind) (file : List Record) (at : ℕ) (row : List Value) (left : List (Option ℕ)) (lt : at < length file) (e : row ≡ (get_or file at no_record).row)
    (for_kinds : All (IsRowFor kinds) file) (h : AreTextIds held (file_values (drop at file)) left) where
  pub ids-room : length kinds ≤ length left
  ids-room =
      let rest = file_values (drop (at + 1) file) in
      omega (arith, row-many kinds file at row lt e for_kinds, ids-many held (file_values (drop at file)) left h, ap length (values-row file at row lt e), length-append row rest)

  pub ids-next : AreTextIds held row (take (length kinds) left) × AreTextIds held (file_values (drop (at + 1) file)) (drop (length kinds) left)
  ids-next =
      let rest = file_values (drop (at + 1) file) in
      subst (λ n. AreTextIds held row (take n left) × AreTextIds held rest (drop n left)) (row-many kinds file at row lt e for_kinds)
      (ids-split held row rest left (subst (λ vs. AreTextIds held vs left) (values-row file at row lt e) h))

  -- those of the rows behind it, in a pool that took more
  pub ids-later : (new : List (List ℕ)) (later : List (Option ℕ)) → Keeps held new → later ≡ drop (length kinds) left → AreTextIds new (file_values (drop (at + 1) file)) later
  ids-later new later keeps is =
      let rest = file_values (drop (at + 1) file) in
      subst (AreTextIds new rest) (sym is) (ids-kept held new keeps rest (drop (length kinds) left) ids-next.1)

pub ids-push : (held new : List (List ℕ)) (vs : List Value) (v : Value) (is : List (Option ℕ)) (i : Option ℕ) → Keeps held new → AreTextIds held vs is → IsIdOf new (standard_text v) i → AreTextIds new (vs ++ v ∷ []) (is ++ i ∷ [])
ids-push held new vs v is i keeps h k = ids-append new vs (v ∷ []) is (i ∷ []) (ids-kept held new keeps vs is h) (k, tt)

-- the text of a day, read from its slot
pub day-at : (days : List KnownDay) (slot : ℕ) (known : KnownDay) (i : Option ℕ) (o : Option (List ℕ)) → get_or days slot no_day ≡ known → i ≡ known.text → exact_canon (value.Day known.day) ≡ o
    → IfSome i (λ (text : ℕ). (held : List (List ℕ)) → AreKnownDays held days → IsIdOf held o (Some text))
day-at days slot known None o is_known is_text is_day = tt
day-at days slot known (Some text) o is_known is_text is_day = λ held h.
    let at : IsKnownDay held known = subst (IsKnownDay held) is_known (h slot) in
    let of_text : IsIdOf held (exact_canon (value.Day known.day)) (Some text) =
    subst (λ (j : Option ℕ). IfSome j (λ (t : ℕ). IsIdOf held (exact_canon (value.Day known.day)) (Some t))) (sym is_text) at in
    subst (λ (p : Option (List ℕ)). IsIdOf held p (Some text)) is_day of_text

-- The ids of the parts of keys, one by one, and what is known of the rows that they are of.

-- a text whose id is known, and one by whose id a value is compared
pub id-part : (held final : List (List ℕ)) (o : Option (List ℕ)) (i : Option ℕ) → Extends held final → IsIdOf held o i → option_map (place_among final) o ≡ i
id-part held final None None e h = refl
id-part held final None (Some i) e h = absurd h
id-part held final (Some text) None e h = absurd h
id-part held final (Some text) (Some i) e h = ap Some (place-in i text e h)

-- what is told of a pool that took texts, said anew
pub holds-more : {T : Type 0} (old new : PoolState) (texts : List (List ℕ)) (told more : T → Type 0) (r : Result T PoolFault) → ((x : T) → told x → more x) → TakesTexts old new texts told r → TakesTexts old new texts more r
holds-more old new texts told more (Ok x) goes h = record { limit = h.limit; taken = h.taken; holds = goes x h.holds }
holds-more old new texts told more (Err f) goes h = h

side-part : (final : List (List ℕ)) (o : Option (List ℕ)) → option_map (place_among final) o ≡ id_in (id_side final o)
side-part final None = refl
side-part final (Some text) = refl

canon-part : (final : List (List ℕ)) (kind : CompareKind) (v : Value) → compares_days kind ≡ false → option_map (place_among final) (canon_of kind v) ≡ id_in (side_of final kind v)
canon-part final kind v e = rw e (side-part final (canon_of kind v))

pub known-part : (held final : List (List ℕ)) (kinds : List CompareKind) (row : List Value) (texts : List (Option ℕ)) (sides : List IdValue) (part : Part)
    → part.field < length kinds → ((v : Value) → canon_by part.key v ≡ canon_of (get_or kinds part.field exact) v)
    → compares_days (get_or kinds part.field exact) ≡ false → Extends held final → IsKnownRow held kinds row texts sides → part_id final row part ≡ id_in (get_or sides part.field id.Absent)
known-part held final kinds row texts sides part lt canon by_id e known =
    let v = get_or row part.field absent_value in
    let kind = get_or kinds part.field exact in
    ap (option_map (place_among final)) (canon v) ∙ canon-part final kind v by_id ∙ ap id_in (sym (side-at final kinds row part.field lt known.as_many))
    ∙ ap (λ xs. id_in (get_or xs part.field id.Absent)) (known.sides final e)

-- the ids of a row in a pass, of a row and of a file, part by part, pass by pass and row by row
pub ids-part : (final : List (List ℕ)) (row : List Value) (parts : List Part) (at : ℕ) → at < length parts
    → ids_in_pass final row (drop at parts) ≡ part_id final row (get_or parts at no_part) ∷ ids_in_pass final row (drop (at + 1) parts)
ids-part final row parts at lt = at_drop_more (ids_in_pass final row) parts at no_part lt

pub ids-pass : (final : List (List ℕ)) (row : List Value) (passes : List (List Part)) (at : ℕ) (pass : List Part) → at < length passes → pass ≡ get_or passes at pass
    → ids_of_row final (drop at passes) row ≡ ids_in_pass final row pass ++ ids_of_row final (drop (at + 1) passes) row
ids-pass final row passes at pass lt e =
    at_drop_more (λ ps. ids_of_row final ps row) passes at pass lt ∙ ap (λ p. ids_in_pass final row p ++ ids_of_row final (drop (at + 1) passes) row) (sym e)

pub ids-row : (final : List (List ℕ)) (passes : List (List Part)) (file : List Record) (at : ℕ) (row : List Value) → at < length file → row ≡ (get_or file at no_record).row
    → key_ids final passes (drop at file) ≡ ids_of_row final passes row ++ key_ids final passes (drop (at + 1) file)
ids-row final passes file at row lt e =
    at_drop_more (key_ids final passes) file at no_record lt ∙ ap (λ r. ids_of_row final passes r ++ key_ids final passes (drop (at + 1) file)) (sym e)

-- what is known of rows stays known while texts are taken
module _ {old new : PoolState} {more : List (List ℕ)} {told : Type 0} (kinds : List CompareKind) (t : HasTakenTexts old new more told) where
  pub row-kept : (row : List Value) (texts : List (Option ℕ)) (sides : List IdValue) → IsKnownRow old.texts kinds row texts sides → IsKnownRow new.texts kinds row texts sides
  row-kept row texts sides h = record {
    as_many = h.as_many;
    valid = h.valid;
    texts = ids-kept old.texts new.texts (kept t) row texts h.texts;
    canons = held-more (canons_of_row kinds row) t h.canons;
    width = h.width;
    sides = λ final e. h.sides final (before t final e);
  }

  pub file-kept : (file : List Record) (texts : List (Option ℕ)) (rows : List (List IdValue)) → IsKnownFile old.texts kinds file texts rows → IsKnownFile new.texts kinds file texts rows
  file-kept file texts rows h = record {
    texts = ids-kept old.texts new.texts (kept t) (file_values file) texts h.texts;
    canons = held-more (file_texts (canons_of_row kinds) file) t h.canons;
    sides = λ final e. h.sides final (before t final e);
  }

-- one row of a file
module _ (held : List (List ℕ)) (kinds : List CompareKind) (file : List Record) (rows : List (List IdValue)) (distinct : AllPairs (λ a b. a ≢ b) held)
    (sides : (final : List (List ℕ)) → Extends held final → sides_of_file final kinds file ≡ rows) where
  pub rows-many : length rows ≡ length file
  rows-many = ap length (sym (sides held (extends-self held distinct))) ∙ length-sides held kinds file

  row-sides : (final : List (List ℕ)) (at : ℕ) (row : List Value) → Extends held final → at < length file → row ≡ (get_or file at no_record).row → sides_of_row final kinds row ≡ get_or rows at []
  row-sides final at row e lt is =
      ap (sides_of_row final kinds) is ∙ sym (get_or-map (λ (r : Record). sides_of_row final kinds r.row) file at no_record [] lt) ∙ ap (λ rs. get_or rs at []) (sides final e)

  pub row-known : (at : ℕ) (row : List Value) (left here : List (Option ℕ)) (side : List IdValue) → at < length file → row ≡ (get_or file at no_record).row → All (IsRowFor kinds) file
      → AreTextIds held (file_values (drop at file)) left → here ≡ take (length kinds) left → HoldsTexts held (file_texts (canons_of_row kinds) file) → side ≡ get_or rows at [] → IsKnownRow held kinds row here side
  row-known at row left here side lt is for_kinds texts front canons side_is =
      let many = row-many kinds file at row lt is for_kinds in
      let same : (final : List (List ℕ)) → Extends held final → sides_of_row final kinds row ≡ side = λ final e. row-sides final at row e lt is ∙ sym side_is in
      record {
        as_many = many;
        valid = row-valid kinds file at row lt is for_kinds;
        texts = subst (AreTextIds held row) (sym front) (ids-next held kinds file at row left lt is for_kinds texts).0;
        canons = held-row (canons_of_row kinds) file at row held lt is canons;
        width = ap length (sym (same held (extends-self held distinct))) ∙ sides-many held kinds row many;
        sides = same;
      }
