-- Texts taken one after the other.
use Rattle.std.proofs.Common.{◌≡◌, ◌+◌, ℕ, Bool, true, false, not, ◌&&◌, List, [], ◌∷◌, ◌++◌, length, Some, Result, Ok, Err, IfOk, OnOk, ◌⊎◌, inl, inr, nat_lt, if◌then◌else◌, refl, ap, sym, subst, ◌∙◌, ◌<◌, ◌≢◌, get_or, arith, length-append, drop, take, option_to_list, append_assoc, append-nil, ◌||◌, zero, suc, Option, None, slice_get, sum_by, AllPairs, All, flat_map, IsErrAnd, bytes_eq}
use Rattle.link_base.specs.Words.{RefusesBut, and_then, absent_value, IsValid, no_record, Record}
use Rattle.value_pool.specs.Pool.{FullExactly, HasTaken, is_want_of_pool, PoolState, stands_among, place_among, IsHeld}
use Rattle.value_pool.specs.declared.pool.PoolFault.{PoolFault}
use Rattle.value_pool.specs.declared.pool.PoolFault.TheVariants as fault
use Rattle.standard_files.specs.Taking.{HasTakenTexts, TakesTexts, Extends, canon_at, file_values, flat_sides, side_at, HoldsTexts}
use Rattle.standard_files.specs.Sides.{text_taken, texts_taken, canons_of_row, file_texts, parts_in_pass, parts_of_row, standard_text, texts_of_row, id_side, sides_of_row}
use Rattle.std.proofs.lemmas.Bool.{cases_Bool}
use Rattle.std.proofs.lemmas.Slice.Eq.{bytes_eq-Decides}
use Rattle.std.proofs.lemmas.List.{get_or_append_left, at_drop_more, drop_more, take_more}
use Rattle.std.proofs.lemmas.List.Sums.{position_or_len_is}
use Rattle.std.proofs.lemmas.Option.{get_or_from_slice_get, slice_get-get_or, slice_get_within}
use Rattle.comparators.specs.declared.ids.IdValue.TheVariants as id
use Rattle.std.proofs.lemmas.Grind.{flat_map-append}
use Rattle.value_forms.specs.declared.canons.CompareKind.{CompareKind}
use Rattle.value_forms.specs.Canons.{exact, canon_of, canon_by}
use Rattle.value_forms.specs.declared.passes.Part.{Part}
use Rattle.link_base.specs.declared.standard.Value.{Value}
use Rattle.block_passes.specs.Keys.{no_part, part_key, row_at}
use Rattle.standard_files.specs.Ready.{IsRowFor}
use Rattle.std.proofs.lemmas.List.Folds.{list_any-append}
use Rattle.block_passes.specs.Ids.{AreKeysHeld}
use Rattle.value_forms.specs.declared.canons.Canon.{Canon}

then-then : {A B C : Type 0} (r : Result A PoolFault) (f : A → Result B PoolFault) (g : B → Result C PoolFault) → and_then (and_then r f) g ≡ and_then r (λ x. and_then (f x) g)
then-then (Ok x) f g = refl
then-then (Err e) f g = refl

pub taken-append : (limit : ℕ) (xs held ys : List (List ℕ)) → texts_taken limit held (xs ++ ys) ≡ and_then (texts_taken limit held xs) (λ more. texts_taken limit more ys)
taken-append limit [] held ys = refl
taken-append limit (x ∷ xs) held ys =
    let step : texts_taken limit held (x ∷ xs ++ ys) ≡ and_then (text_taken limit held x) (λ more. and_then (texts_taken limit more xs) (λ last. texts_taken limit last ys)) =
    λ i. and_then (text_taken limit held x) (λ more. taken-append limit xs more ys i) in
    step ∙ sym (then-then (text_taken limit held x) (λ more. texts_taken limit more xs) (λ last. texts_taken limit last ys))

-- the fault of a front is that of the whole
pub refused-append : (limit : ℕ) (held xs ys : List (List ℕ)) (f : PoolFault) → RefusesBut is_want_of_pool (texts_taken limit held xs) f → RefusesBut is_want_of_pool (texts_taken limit held (xs ++ ys)) f
refused-append limit held xs ys (fault.Full used most) h = taken-append limit xs held ys ∙ ap (λ r. and_then r (λ more. texts_taken limit more ys)) h
refused-append limit held xs ys fault.NoMemory h = tt

-- a fault that is handed on
pub is-err : {T : Type 0} {f : PoolFault} (r : Result T PoolFault) → IsErrAnd r (λ e. e ≡ f) → r ≡ Err f
is-err (Ok x) h = absurd h
is-err (Err g) h = ap Err h

-- what the pool at the start has to take is what the pool now has still to take
pub record Goes (start now : PoolState) (rest whole : List (List ℕ)) : Type 0 where
  pub limit : now.limit ≡ start.limit
  pub texts : texts_taken now.limit now.texts rest ≡ texts_taken start.limit start.texts whole

pub goes-start : (p : PoolState) (whole : List (List ℕ)) → Goes p p whole whole
goes-start p whole = record { limit = refl; texts = refl }

pub goes-on : {start now new : PoolState} {rest whole xs : List (List ℕ)} {told : Type 0} (next : List (List ℕ)) → Goes start now rest whole → HasTakenTexts now new xs told → rest ≡ xs ++ next → Goes start new next whole
goes-on {now = now} {new = new} {xs = xs} next g h e =
    let front = ap (λ r. and_then r (λ more. texts_taken now.limit more next)) h.taken in
    record {
      limit = h.limit ∙ g.limit;
      texts = ap (λ n. texts_taken n new.texts next) h.limit ∙ sym front ∙ sym (taken-append now.limit xs now.texts next) ∙ ap (texts_taken now.limit now.texts) (sym e) ∙ g.texts;
    }

-- nothing is left to take
pub goes-end : {start now : PoolState} {rest whole : List (List ℕ)} {told : Type 0} → Goes start now rest whole → rest ≡ [] → told → HasTakenTexts start now whole told
goes-end {now = now} g e holds = record { limit = g.limit; taken = sym g.texts ∙ ap (texts_taken now.limit now.texts) e; holds = holds }

pub whole-is : {start now : PoolState} {rest whole other : List (List ℕ)} → whole ≡ other → Goes start now rest whole → Goes start now rest other
whole-is {start = start} e g = record { limit = g.limit; texts = g.texts ∙ ap (texts_taken start.limit start.texts) e }

pub goes-refused : {start now : PoolState} {rest whole : List (List ℕ)} (xs next : List (List ℕ)) (f : PoolFault) → Goes start now rest whole → rest ≡ xs ++ next → RefusesBut is_want_of_pool (texts_taken now.limit now.texts xs) f → RefusesBut is_want_of_pool (texts_taken start.limit start.texts whole) f
goes-refused {now = now} xs next f g e h =
    rw (← g.texts, e) (refused-append now.limit now.texts xs next f h)

-- one text
ok-one : (held more : List (List ℕ)) (f : PoolFault) (b c : Bool) → (not b && c) ≡ false → and_then (if b then Ok held else if c then Err f else Ok more) (λ last. Ok last) ≡ Ok (if b then held else more)
ok-one held more f true c h = refl
ok-one held more f false true h = cc
ok-one held more f false false h = refl

full-one : (held more : List (List ℕ)) (f : PoolFault) (b c : Bool) → (not b && c) ≡ true → and_then (if b then Ok held else if c then Err f else Ok more) (λ last. Ok last) ≡ Err f
full-one held more f true c h = cc
full-one held more f false true h = refl
full-one held more f false false h = cc

pub takes-interned : (old new : PoolState) (text : List ℕ) (r : Result ℕ PoolFault) → old.used ≡ sum_by length old.texts → new.limit ≡ old.limit
    → IfOk r (λ id. slice_get new.texts id ≡ Some text) → OnOk r (HasTaken text old new) → FullExactly old text r → TakesTexts old new (text ∷ []) (λ id. slice_get new.texts id ≡ Some text) r
takes-interned old new text (Ok id) used limit found is h =
    let f : PoolFault = fault.Full (sum_by length old.texts + length text) old.limit in
    record {
      limit = limit;
      taken = ok-one old.texts (old.texts ++ text ∷ []) f (stands_among old.texts text) (nat_lt old.limit (sum_by length old.texts + length text)) (rw used at h) ∙ ap Ok (sym is.texts);
      holds = found;
    }
takes-interned old new text (Err (fault.Full sum most)) used limit found is h =
    let f : PoolFault = fault.Full (sum_by length old.texts + length text) old.limit in
    let e : f ≡ fault.Full sum most = rw (h.1, h.2, used) refl in
    full-one old.texts (old.texts ++ text ∷ []) f (stands_among old.texts text) (nat_lt old.limit (sum_by length old.texts + length text)) (rw used at h.0) ∙ ap Err e
takes-interned old new text (Err fault.NoMemory) used limit found is h = tt

-- a text that is taken was held, or is the last of those that are held next
pub taken-split : (limit : ℕ) (held texts new : List (List ℕ)) (text : List ℕ) (f : PoolFault) (b c : Bool)
    → and_then (if b then Ok held else if c then Err f else Ok (held ++ text ∷ [])) (λ more. texts_taken limit more texts) ≡ Ok new
    → ((b ≡ true) × (texts_taken limit held texts ≡ Ok new)) ⊎ ((b ≡ false) × (texts_taken limit (held ++ text ∷ []) texts ≡ Ok new))
taken-split limit held texts new text f true c h = inl (refl, h)
taken-split limit held texts new text f false true h = cc
taken-split limit held texts new text f false false h = inr (refl, h)

pub taken-cases : (limit : ℕ) (held texts new : List (List ℕ)) (text : List ℕ) → texts_taken limit held (text ∷ texts) ≡ Ok new
    → ((stands_among held text ≡ true) × (texts_taken limit held texts ≡ Ok new)) ⊎ ((stands_among held text ≡ false) × (texts_taken limit (held ++ text ∷ []) texts ≡ Ok new))
taken-cases limit held texts new text h =
    taken-split limit held texts new text (fault.Full (sum_by length held + length text) limit) (stands_among held text) (nat_lt limit (sum_by length held + length text)) h

-- texts after texts
pub taken-then : {old mid new : PoolState} {xs ys : List (List ℕ)} {s t told : Type 0} → HasTakenTexts old mid xs s → HasTakenTexts mid new ys t → told → HasTakenTexts old new (xs ++ ys) told
taken-then {old = old} {xs = xs} {ys = ys} h k holds =
    record { limit = k.limit ∙ h.limit; taken = sym (goes-on ys (goes-start old (xs ++ ys)) h refl).texts ∙ k.taken; holds = holds }

pub refused-then : {old mid : PoolState} {xs : List (List ℕ)} {s : Type 0} (ys : List (List ℕ)) (f : PoolFault) → HasTakenTexts old mid xs s → RefusesBut is_want_of_pool (texts_taken mid.limit mid.texts ys) f
    → RefusesBut is_want_of_pool (texts_taken old.limit old.texts (xs ++ ys)) f
refused-then {old = old} {xs = xs} ys f h k =
    subst (λ (e : Result (List (List ℕ)) PoolFault). RefusesBut is_want_of_pool e f) (goes-on ys (goes-start old (xs ++ ys)) h refl).texts k

-- The places of texts in a pool.

kept-append : (xs ys : List (List ℕ)) (i : ℕ) (text : List ℕ) → slice_get xs i ≡ Some text → slice_get (xs ++ ys) i ≡ Some text
kept-append xs ys i text h =
    let within : i < length xs = slice_get_within xs i text h in
    slice_get-get_or (xs ++ ys) i text (omega (arith, length-append xs ys)) ∙ ap Some (get_or_append_left xs ys text i within ∙ get_or_from_slice_get xs i text text h)

-- a text keeps its place
kept-taken : (limit : ℕ) (texts held new : List (List ℕ)) → texts_taken limit held texts ≡ Ok new → (i : ℕ) (text : List ℕ) → slice_get held i ≡ Some text → slice_get new i ≡ Some text
kept-taken limit [] held new h i text e = let same : held ≡ new = cc in rw (← same) e
kept-taken limit (t ∷ ts) held new h i text e =
    elim (taken-cases limit held ts new t h) [
      | inl x ↦ kept-taken limit ts held new x.1 i text e
      | inr x ↦ kept-taken limit ts (held ++ t ∷ []) new x.1 i text (kept-append held (t ∷ []) i text e)
    ]

module _ {old new : PoolState} {texts : List (List ℕ)} {told : Type 0} (h : HasTakenTexts old new texts told) where
  pub kept : (i : ℕ) (text : List ℕ) → slice_get old.texts i ≡ Some text → slice_get new.texts i ≡ Some text
  kept = kept-taken old.limit texts old.texts new.texts h.taken

  pub before : (final : List (List ℕ)) → Extends new.texts final → Extends old.texts final
  before final e = record { distinct = e.distinct; kept = λ i text at. e.kept i text (kept i text at) }

pub extends-self : (texts : List (List ℕ)) → AllPairs (λ a b. a ≢ b) texts → Extends texts texts
extends-self texts h = record { distinct = h; kept = λ i text at. at }

-- the id of a text is its place, wherever that is found
pub place-in : {held final : List (List ℕ)} (i : ℕ) (text : List ℕ) → Extends held final → slice_get held i ≡ Some text → place_among final text ≡ i
place-in {final = final} i text e h =
    let here = e.kept i text h in
    let within : i < length final = slice_get_within final i text here in
    let at : get_or final i [] ≡ text = get_or_from_slice_get final i text [] here in
    position_or_len_is (bytes_eq text) final i [] (omega arith) (λ k lt. other k lt within at) (λ _. (bytes_eq-Decides text (get_or final i [])).1 (sym at))
  where
    other : (k : ℕ) → k < i → i < length final → get_or final i [] ≡ text → bytes_eq text (get_or final k []) ≡ false
    other k lt within at =
        elim (cases_Bool (bytes_eq text (get_or final k []))) [
          | inl same ↦ absurd (e.distinct k i [] lt within (sym ((bytes_eq-Decides text (get_or final k [])).0 same) ∙ sym at))
          | inr differ ↦ differ
        ]

pub side-in : {held final : List (List ℕ)} (i : ℕ) (text : List ℕ) → Extends held final → slice_get held i ≡ Some text → id_side final (Some text) ≡ id.Id i
side-in i text e h = ap id.Id (place-in i text e h)

-- The records of a file one by one, the fields of a row, and the passes.

pub file-row : (texts : List Value → List (List ℕ)) (file : List Record) (at : ℕ) (row : List Value) → at < length file → row ≡ (get_or file at no_record).row → file_texts texts (drop at file) ≡ texts row ++ file_texts texts (drop (at + 1) file)
file-row texts file at row lt e =
    at_drop_more (file_texts texts) file at no_record lt ∙ ap (λ r. texts r ++ file_texts texts (drop (at + 1) file)) (sym e)

pub pass-parts : (row : List Value) (passes : List (List Part)) (at : ℕ) (pass : List Part) → at < length passes → pass ≡ get_or passes at pass → parts_of_row (drop at passes) row ≡ parts_in_pass row pass ++ parts_of_row (drop (at + 1) passes) row
pass-parts row passes at pass lt e =
    at_drop_more (λ ps. parts_of_row ps row) passes at pass lt ∙ ap (λ p. parts_in_pass row p ++ parts_of_row (drop (at + 1) passes) row) (sym e)

pub part-texts : (row : List Value) (parts : List Part) (at : ℕ) → at < length parts → parts_in_pass row (drop at parts) ≡ option_to_list (part_key row (get_or parts at no_part)) ++ parts_in_pass row (drop (at + 1) parts)
part-texts row parts at lt = at_drop_more (parts_in_pass row) parts at no_part lt

-- the values of a row one by one
pub row-texts : (row : List Value) (at : ℕ) (v : Value) → at < length row → v ≡ get_or row at absent_value → texts_of_row (drop at row) ≡ option_to_list (standard_text v) ++ texts_of_row (drop (at + 1) row)
row-texts row at v lt e =
    at_drop_more texts_of_row row at absent_value lt ∙ ap (λ x. option_to_list (standard_text x) ++ texts_of_row (drop (at + 1) row)) (sym e)

pub values-push : (before row : List Value) (at : ℕ) (v : Value) → at < length row → v ≡ get_or row at absent_value → before ++ take (at + 1) row ≡ (before ++ take at row) ++ v ∷ []
values-push before row at v lt e =
    ap (λ vs. before ++ vs) (take_more row at absent_value lt ∙ ap (λ x. take at row ++ x ∷ []) (sym e)) ∙ sym (append_assoc before (take at row) (v ∷ []))

-- the values of one more row
pub values-more : (file : List Record) (at : ℕ) (row : List Value) → at < length file → row ≡ (get_or file at no_record).row → file_values (take (at + 1) file) ≡ file_values (take at file) ++ row
values-more file at row lt e =
    ap file_values (take_more file at no_record lt) ∙ flat_map-append (λ (r : Record). r.row) (take at file) (get_or file at no_record ∷ [])
    ∙ ap (λ r. file_values (take at file) ++ r) (append-nil (get_or file at no_record).row ∙ sym e)

pub values-row : (file : List Record) (at : ℕ) (row : List Value) → at < length file → row ≡ (get_or file at no_record).row → file_values (drop at file) ≡ row ++ file_values (drop (at + 1) file)
values-row file at row lt e =
    at_drop_more file_values file at no_record lt ∙ ap (λ r. r ++ file_values (drop (at + 1) file)) (sym e)

-- a row and the kinds of its fields, field by field
module _ (kinds : List CompareKind) (row : List Value) (at : ℕ) (lt : at < length kinds) (many : length row ≡ length kinds) where
  kinds-left : drop at kinds ≡ get_or kinds at exact ∷ drop (at + 1) kinds
  kinds-left = drop_more kinds at exact lt

  values-left : drop at row ≡ get_or row at absent_value ∷ drop (at + 1) row
  values-left = drop_more row at absent_value (omega arith)

  pub canons-at : canons_of_row (drop at kinds) (drop at row) ≡ option_to_list (canon_at kinds row at) ++ canons_of_row (drop (at + 1) kinds) (drop (at + 1) row)
  canons-at = λ i. canons_of_row (kinds-left i) (values-left i)

  pub sides-at : (texts : List (List ℕ)) → sides_of_row texts (drop at kinds) (drop at row) ≡ side_at texts kinds row at ∷ sides_of_row texts (drop (at + 1) kinds) (drop (at + 1) row)
  sides-at texts = λ i. sides_of_row texts (kinds-left i) (values-left i)

pub flat-sides-at : (texts : List (List ℕ)) (kinds : List CompareKind) (file : List Record) (at : ℕ) (row : List Value) → at < length file → row ≡ (get_or file at no_record).row
    → flat_sides texts kinds (drop at file) ≡ sides_of_row texts kinds row ++ flat_sides texts kinds (drop (at + 1) file)
flat-sides-at texts kinds file at row lt e =
    at_drop_more (flat_sides texts kinds) file at no_record lt ∙ ap (λ r. sides_of_row texts kinds r ++ flat_sides texts kinds (drop (at + 1) file)) (sym e)

-- one side more
pub push-sides : {X : Type 0} (before rest whole left : List X) (x y : X) → before ++ left ≡ whole → left ≡ x ∷ rest → x ≡ y → (before ++ y ∷ []) ++ rest ≡ whole
push-sides before rest whole left x y e f g =
    append_assoc before (y ∷ []) rest ∙ ap (λ z. before ++ (z ∷ rest)) (sym g) ∙ ap (λ l. before ++ l) (sym f) ∙ e

-- some more of them
pub push-ids : {X : Type 0} (before rest whole left more after : List X) → before ++ left ≡ whole → left ≡ more ++ rest → before ++ more ≡ after → after ++ rest ≡ whole
push-ids before rest whole left more after e f g =
    ap (λ l. l ++ rest) (sym g) ∙ append_assoc before more rest ∙ ap (λ l. before ++ l) (sym f) ∙ e

-- a row of a file for kinds of comparison
pub row-many : (kinds : List CompareKind) (file : List Record) (at : ℕ) (row : List Value) → at < length file → row ≡ (get_or file at no_record).row → All (IsRowFor kinds) file → length row ≡ length kinds
row-many kinds file at row lt e h = rw e (h at no_record lt).as_many

pub row-valid : (kinds : List CompareKind) (file : List Record) (at : ℕ) (row : List Value) → at < length file → row ≡ (get_or file at no_record).row → All (IsRowFor kinds) file → All IsValid row
row-valid kinds file at row lt e h = rw e (h at no_record lt).valid

-- Texts that stand in a list, and among those of a pool that took it.

pub itself : (text : List ℕ) → bytes_eq text text ≡ true
itself text = (bytes_eq-Decides text text).1 refl

pub or-left : (a b : Bool) → a ≡ true → (a || b) ≡ true
or-left true b h = refl
or-left false b h = cc

pub or-right : (a b : Bool) → b ≡ true → (a || b) ≡ true
or-right true b h = refl
or-right false b h = h

-- a part of a list
pub stands-left : (xs ys : List (List ℕ)) (text : List ℕ) → stands_among xs text ≡ true → stands_among (xs ++ ys) text ≡ true
stands-left xs ys text h = list_any-append (λ t. bytes_eq t text) xs ys ∙ or-left (stands_among xs text) (stands_among ys text) h

pub stands-right : (xs ys : List (List ℕ)) (text : List ℕ) → stands_among ys text ≡ true → stands_among (xs ++ ys) text ≡ true
stands-right xs ys text h = list_any-append (λ t. bytes_eq t text) xs ys ∙ or-right (stands_among xs text) (stands_among ys text) h

pub stands-flat : {X : Type 0} (f : X → List (List ℕ)) (xs : List X) (k : ℕ) (d : X) (text : List ℕ) → k < length xs → stands_among (f (get_or xs k d)) text ≡ true → stands_among (flat_map f xs) text ≡ true
stands-flat f [] k d text lt h = absurd (omega arith)
stands-flat f (x ∷ xs) zero d text lt h = stands-left (f x) (flat_map f xs) text h
stands-flat f (x ∷ xs) (suc k) d text lt h = stands-right (f x) (flat_map f xs) text (stands-flat f xs k d text (omega arith) h)

pub stands-canons : (kinds : List CompareKind) (row : List Value) (k : ℕ) (text : List ℕ) → k < length kinds → length row ≡ length kinds → canon_of (get_or kinds k exact) (get_or row k absent_value) ≡ Some text → stands_among (canons_of_row kinds row) text ≡ true
stands-canons [] row k text lt many h = absurd (omega arith)
stands-canons (kind ∷ kinds) [] k text lt many h = absurd (omega arith)
stands-canons (kind ∷ kinds) (v ∷ vs) zero text lt many h =
    stands-left (option_to_list (canon_of kind v)) (canons_of_row kinds vs) text (rw h (or-left (bytes_eq text text) false (itself text)))
stands-canons (kind ∷ kinds) (v ∷ vs) (suc k) text lt many h =
    stands-right (option_to_list (canon_of kind v)) (canons_of_row kinds vs) text (stands-canons kinds vs k text (omega arith) (omega arith) h)

-- what is taken stands in the pool
pub taken-more : (limit : ℕ) (texts held new : List (List ℕ)) (text : List ℕ) → texts_taken limit held texts ≡ Ok new → stands_among held text ≡ true → stands_among new text ≡ true
taken-more limit [] held new text h e = let same : held ≡ new = cc in rw (← same) e
taken-more limit (t ∷ ts) held new text h e =
    elim (taken-cases limit held ts new t h) [
      | inl x ↦ taken-more limit ts held new text x.1 e
      | inr x ↦ taken-more limit ts (held ++ t ∷ []) new text x.1 (stands-left held (t ∷ []) text e)
    ]

pub taken-stands : (limit : ℕ) (texts held new : List (List ℕ)) (text : List ℕ) → texts_taken limit held texts ≡ Ok new → stands_among texts text ≡ true → stands_among new text ≡ true
taken-stands limit [] held new text h e = cc
taken-stands limit (t ∷ ts) held new text h e =
    elim (cases_Bool (bytes_eq t text)) [
      | inl here ↦
          let same : t ≡ text = (bytes_eq-Decides t text).0 here in
          elim (taken-cases limit held ts new t h) [
            | inl x ↦ taken-more limit ts held new text x.1 (rw (← same) x.0)
            | inr x ↦ taken-more limit ts (held ++ t ∷ []) new text x.1 (stands-right held (t ∷ []) text (or-left (bytes_eq t text) false here))
          ]
      | inr other ↦
          let rest : stands_among ts text ≡ true = rw other at e in
          elim (taken-cases limit held ts new t h) [
            | inl x ↦ taken-stands limit ts held new text x.1 rest
            | inr x ↦ taken-stands limit ts (held ++ t ∷ []) new text x.1 rest
          ]
    ]

-- the parts of the keys of a file
part-stands : (passes : List (List Part)) (file : List Record) (k at j : ℕ) (text : List ℕ) → k < length passes → at < length file → j < length (get_or passes k [])
    → part_key (row_at file at) (get_or (get_or passes k []) j no_part) ≡ Some text → stands_among (file_texts (parts_of_row passes) file) text ≡ true
part-stands passes file k at j text in_passes in_file in_pass h =
    let row = row_at file at in
    let here : stands_among (option_to_list (part_key row (get_or (get_or passes k []) j no_part))) text ≡ true = rw h (or-left (bytes_eq text text) false (itself text)) in
    stands-flat (λ (r : Record). parts_of_row passes r.row) file at no_record text in_file
    (stands-flat (parts_in_pass row) passes k [] text in_passes
    (stands-flat (λ part. option_to_list (part_key row part)) (get_or passes k []) j no_part text in_pass here))

pub held-by : (texts : List (List ℕ)) (key : Option (List ℕ)) → ((text : List ℕ) → key ≡ Some text → stands_among texts text ≡ true) → IsHeld texts key
held-by texts None h = tt
held-by texts (Some text) h = h text refl

pub holds-parts : (texts : List (List ℕ)) (passes : List (List Part)) (file : List Record) → ((text : List ℕ) → stands_among (file_texts (parts_of_row passes) file) text ≡ true → stands_among texts text ≡ true) → AreKeysHeld texts passes file
holds-parts texts passes file all k in_passes at in_file j in_pass =
    held-by texts (part_key (row_at file at) (get_or (get_or passes k []) j no_part)) (λ text h. all text (part-stands passes file k at j text in_passes in_file in_pass h))

-- What is held stays held, and is not taken again.

-- one text that is held
pub takes-held : (limit : ℕ) (held : List (List ℕ)) (key : Option (List ℕ)) → IsHeld held key → texts_taken limit held (option_to_list key) ≡ Ok held
takes-held limit held None h = refl
takes-held limit held (Some text) h = rw h refl

-- texts that are held, after more of them were taken
pub held-more : {old new : PoolState} {texts : List (List ℕ)} {told : Type 0} (whole : List (List ℕ)) → HasTakenTexts old new texts told → HoldsTexts old.texts whole → HoldsTexts new.texts whole
held-more {old = old} {new = new} {texts = texts} whole t h text stands = taken-more old.limit texts old.texts new.texts text t.taken (h text stands)

-- texts that were taken
pub held-taken : {old new : PoolState} {texts : List (List ℕ)} {told : Type 0} → HasTakenTexts old new texts told → HoldsTexts new.texts texts
held-taken {old = old} {new = new} {texts = texts} t text stands = taken-stands old.limit texts old.texts new.texts text t.taken stands

-- the texts of one row of a file, and of one of two files
pub held-row : (texts : List Value → List (List ℕ)) (file : List Record) (at : ℕ) (row : List Value) (held : List (List ℕ)) → at < length file → row ≡ (get_or file at no_record).row → HoldsTexts held (file_texts texts file) → HoldsTexts held (texts row)
held-row texts file at row held lt e h text stands = h text (stands-flat (λ (r : Record). texts r.row) file at no_record text lt (rw e at stands))

pub held-left : (xs ys held : List (List ℕ)) → HoldsTexts held (xs ++ ys) → HoldsTexts held xs
held-left xs ys held h text stands = h text (stands-left xs ys text stands)

pub held-right : (xs ys held : List (List ℕ)) → HoldsTexts held (xs ++ ys) → HoldsTexts held ys
held-right xs ys held h text stands = h text (stands-right xs ys text stands)

-- a part that is a canon of its row
pub canon-held : (kinds : List CompareKind) (row : List Value) (k : ℕ) (key : Canon) (held : List (List ℕ)) → k < length kinds → length row ≡ length kinds
    → canon_by key (get_or row k absent_value) ≡ canon_of (get_or kinds k exact) (get_or row k absent_value) → HoldsTexts held (canons_of_row kinds row) → IsHeld held (canon_by key (get_or row k absent_value))
canon-held kinds row k key held lt many same all =
    rw same (held-by held (canon_of (get_or kinds k exact) (get_or row k absent_value)) (λ text h. all text (stands-canons kinds row k text lt many h)))
