-- What holds of each table that is read (law `sound_table`): no more rows than are wanted, as many texts in each as columns, and ids that
-- are there and differ; and that rows of texts are the rows of a table. Proofs of the crates above cite both here.
use Rattle.std.proofs.Common.{◌≡◌, ◌<◌, ◌+◌, ◌∷◌, ◌++◌, ◌∙◌, ℕ, zero, suc, List, [], length, map, take, get_or, MatchOption, Option, Some, None, Result, Ok, Err, refl, sym, subst, arith, append_assoc, length-append, ◌≢◌, ◌≤◌, Bool, true, false, cond, not, ap, nat_lt, inl, inr, ◌==◌, IsTrue, if◌then◌else◌}
use Rattle.std.proofs.lemmas.List.{append-nil, get_or-map, get_or-take, length-map, length-take-le}
use Rattle.link_base.specs.declared.fault.Fault.{Fault}
use Rattle.link_base.specs.declared.fault.FileRole.{FileRole}
use Rattle.file_reader.specs.Table.{AreWhole, IsFirstFault, IsLeastFaulty, IsWholeTable, row_fault_at, header_fault, row_fault, rows_read, table_of, taken, unless_fault, fault_by, fields_fault, id_fault, IsFieldText, IsTextRow, key_fault, text_fault, config_of, records_in}
use Rattle.file_reader.specs.Rows.{Heading, heading_under, needed_of, Wanted, cell, cells_of, columns_of, place_in, known_ids, TableRow, ids_of, row_of_cells, with_ids}
use Rattle.std.specs.List.{All, AllPairs, find, position, position_or_len}
use Rattle.std.specs.Str.{bytes_eq, is_utf8}
use Rattle.std.proofs.lemmas.Bool.{cases_Bool}
use Rattle.std.proofs.lemmas.Bool.Decides.{nat_tests}
use Rattle.std.proofs.lemmas.List.Elements.{All-cons, All-from_get_or, All-head, All-map, All-nil, All-tail}
use Rattle.std.proofs.lemmas.List.Sums.{fails_before_first}
use Rattle.std.proofs.lemmas.Slice.Eq.{bytes_eq-Decides}
use Rattle.std.proofs.lemmas.Str.{is_utf8-from_IsUtf8, IsUtf8-from_is_utf8, IsUtf8-nil}
use Rattle.link_base.specs.Words.{or_else}
use Rattle.link_limits.specs.declared.TheConstants.{MOST_FIELD_BYTES}
use Rattle.file_reader.specs.Takers.{IsTableFor}
use Rattle.file_reader.specs.declared.layout.Column.{Column}
use Rattle.csv.specs.Machine.{next_record, Read}
use Rattle.csv.specs.Reading.{is_bom, records_from, records_next, strip_bom}
use Rattle.csv.specs.declared.parser.Config.{Config}
use Rattle.csv.specs.declared.parser.State.{State}
use Rattle.link_base.specs.declared.fault.Fault.TheVariants as fault
use Rattle.csv.specs.declared.parser.State.TheVariants as st

-- Laws of the rows of a file, which are read up to the least faulty one: the fault of a file is its first (law `first_fault`), and a file
-- that has a table has no fault (law `whole_table`). Proofs of the crates above cite them here.

abbrev Records : Type 0
Records = List (List (List ℕ))

-- the fault of a row, after a table and the rows before it
abbrev fault_after : Heading → List TableRow → Records → ℕ → Option Fault
fault_after heading table rows at = row_fault heading (length table + at + 1) (known_ids heading.has_id (table ++ map (taken heading) (take at rows))) (get_or rows at [])

same_fault : (heading : Heading) (m n : ℕ) (s t : List TableRow) (row : List (List ℕ)) → m ≡ n → s ≡ t → row_fault heading m (known_ids heading.has_id s) row ≡ row_fault heading n (known_ids heading.has_id t) row
same_fault heading m n s t row number rows = λ i. row_fault heading (number i) (known_ids heading.has_id (rows i)) row

-- the first row
here : (heading : Heading) (table : List TableRow) (row : List (List ℕ)) (rows : Records) → fault_after heading table (row ∷ rows) 0 ≡ row_fault heading (length table + 1) (known_ids heading.has_id table) row
here heading table row rows = same_fault heading (length table + 0 + 1) (length table + 1) (table ++ []) table row (omega arith) (append-nil table)

-- a row after the first
later : (heading : Heading) (table : List TableRow) (row : List (List ℕ)) (rows : Records) (at : ℕ) → fault_after heading table (row ∷ rows) (suc at) ≡ fault_after heading (table ++ taken heading row ∷ []) rows at
later heading table row rows at =
    same_fault heading (length table + suc at + 1) (length (table ++ taken heading row ∷ []) + at + 1) (table ++ taken heading row ∷ map (taken heading) (take at rows)) ((table ++ taken heading row ∷ []) ++ map (taken heading) (take at rows)) (get_or rows at [])
    (omega (arith, length-append table (taken heading row ∷ []))) (sym (append_assoc table (taken heading row ∷ []) (map (taken heading) (take at rows))))

-- the first row of a file
start : (heading : Heading) (rows : Records) (at : ℕ) → fault_after heading [] rows at ≡ row_fault_at heading rows at
start heading rows at = same_fault heading (length {A = TableRow} [] + at + 1) (at + 1) (map (taken heading) (take at rows)) (map (taken heading) (take at rows)) (get_or rows at []) (omega arith) refl

record IsLeastAfter (heading : Heading) (table : List TableRow) (rows : Records) (f : Fault) (at : ℕ) : Type 0 where
  within : at < length rows
  faulty : fault_after heading table rows at ≡ Some f
  least : (k : ℕ) → k < at → fault_after heading table rows k ≡ None

abbrev HasLeastAfter : Heading → List TableRow → Records → Fault → Type 0
HasLeastAfter heading table rows f = (at : ℕ) × IsLeastAfter heading table rows f at

none_before : (heading : Heading) (table : List TableRow) (row : List (List ℕ)) (rows : Records) (count : ℕ) → row_fault heading (length table + 1) (known_ids heading.has_id table) row ≡ None
    → ((k : ℕ) → k < count → fault_after heading (table ++ taken heading row ∷ []) rows k ≡ None) → (k : ℕ) → k < suc count → fault_after heading table (row ∷ rows) k ≡ None
none_before heading table row rows count none more zero lt = here heading table row rows ∙ none
none_before heading table row rows count none more (suc k) lt = later heading table row rows k ∙ more k (omega arith)

record AreWholeAfter (heading : Heading) (table : List TableRow) (rows : Records) (whole : List TableRow) : Type 0 where
  all : whole ≡ table ++ map (taken heading) rows
  sound : (k : ℕ) → k < length rows → fault_after heading table rows k ≡ None

-- what rows that are read come to
abbrev IsTold : Heading → List TableRow → Records → Result (List TableRow) Fault → Type 0
IsTold heading table rows (Ok whole) = AreWholeAfter heading table rows whole
IsTold heading table rows (Err f) = HasLeastAfter heading table rows f

-- with a row without a fault in front
told_next : (heading : Heading) (table : List TableRow) (row : List (List ℕ)) (rows : Records) → row_fault heading (length table + 1) (known_ids heading.has_id table) row ≡ None
    → (r : Result (List TableRow) Fault) → IsTold heading (table ++ taken heading row ∷ []) rows r → IsTold heading table (row ∷ rows) r
told_next heading table row rows none (Ok whole) told = record {
  all = told.all ∙ append_assoc table (taken heading row ∷ []) (map (taken heading) rows);
  sound = λ k lt. none_before heading table row rows (length rows) none told.sound k (omega arith);
}
told_next heading table row rows none (Err f) told =
    (suc told.0, record { within = omega (arith, told.1.within); faulty = later heading table row rows told.0 ∙ told.1.faulty; least = none_before heading table row rows told.0 none told.1.least })

rows_told : (heading : Heading) (table : List TableRow) (rows : Records) → IsTold heading table rows (rows_read heading table rows)
rows_told heading table [] = record { all = sym (append-nil table); sound = λ k lt. absurd (omega arith) }
rows_told heading table (row ∷ rows) =
    by_fault (row_fault heading (length table + 1) (known_ids heading.has_id table) row) refl (rows_told heading (table ++ taken heading row ∷ []) rows)
  where
    by_fault : (o : Option Fault) → row_fault heading (length table + 1) (known_ids heading.has_id table) row ≡ o
        → IsTold heading (table ++ taken heading row ∷ []) rows (rows_read heading (table ++ taken heading row ∷ []) rows)
        → IsTold heading table (row ∷ rows) (unless_fault o (rows_read heading (table ++ taken heading row ∷ []) rows))
    by_fault None none rest = told_next heading table row rows none (rows_read heading (table ++ taken heading row ∷ []) rows) rest
    by_fault (Some f) some rest = (0, record { within = omega arith; faulty = here heading table row rows ∙ some; least = λ k lt. absurd (omega arith) })

-- the fault of a file is its first
pub fault_is_first : (role : FileRole) (wanted : Wanted) (records : Records) (f : Fault) → table_of role wanted records ≡ Err f → IsFirstFault role wanted records f
fault_is_first _ wanted [] f e = cc e
fault_is_first role wanted (header ∷ rows) f e = by_header (header_fault role (needed_of wanted) header) e
  where
    by_header : (o : Option Fault) → unless_fault o (rows_read (heading_under role wanted header) [] rows) ≡ Err f → MatchOption o ((at : ℕ) × IsLeastFaulty (heading_under role wanted header) rows f at) (λ g. f ≡ g)
    by_header None e =
        let r : HasLeastAfter (heading_under role wanted header) [] rows f = subst (IsTold (heading_under role wanted header) [] rows) e (rows_told (heading_under role wanted header) [] rows) in
        (r.0, record { within = r.1.within; faulty = sym (start (heading_under role wanted header) rows r.0) ∙ r.1.faulty; least = λ k lt. sym (start (heading_under role wanted header) rows k) ∙ r.1.least k lt })
    by_header (Some g) e = cc e

-- a file that has a table has no fault
pub table_is_whole : (role : FileRole) (wanted : Wanted) (records : Records) (table : List TableRow) → table_of role wanted records ≡ Ok table → IsWholeTable role wanted records table
table_is_whole _ wanted [] table e = cc e
table_is_whole role wanted (header ∷ rows) table e = by_header (header_fault role (needed_of wanted) header) e
  where
    by_header : (o : Option Fault) → unless_fault o (rows_read (heading_under role wanted header) [] rows) ≡ Ok table → (o ≡ None) × AreWhole (heading_under role wanted header) rows table
    by_header None e =
        let r : AreWholeAfter (heading_under role wanted header) [] rows table = subst (IsTold (heading_under role wanted header) [] rows) e (rows_told (heading_under role wanted header) [] rows) in
        (refl, record { all = r.all; sound = λ k lt. sym (start (heading_under role wanted header) rows k) ∙ r.sound k lt })
    by_header (Some g) e = cc e

-- where nothing is found, no element passes
find_none : {X : Type 0} (p : X → Bool) (xs : List X) → find p xs ≡ None → All (λ x. p x ≡ false) xs
find_none p [] e = All-nil (λ x. p x ≡ false)
find_none p (x ∷ xs) e =
    elim (cases_Bool (p x)) [
      | inl passes ↦ (let h = rw passes at e in absurd (cc h))
      | inr fails ↦ All-cons (λ y. p y ≡ false) x xs fails (find_none p xs (rw fails at e))
    ]

-- a chain of tests without a fault
by_none : {A : Type 0} (make : A → Fault) (o : Option A) → fault_by make o ≡ None → o ≡ None
by_none make None e = refl
by_none make (Some a) e = cc e

record BothNone (a b : Option Fault) : Type 0 where
  pub first : a ≡ None
  pub second : b ≡ None

both_none : (a b : Option Fault) → or_else a b ≡ None → BothNone a b
both_none None b e = record { first = refl; second = e }
both_none (Some f) b e = cc e

if_none : (b : Bool) (f : Fault) (o : Option Fault) → cond b (Some f) o ≡ None → o ≡ None
if_none true f o e = cc e
if_none false f o e = e

if_true_none : (b : Bool) (o : Option Fault) → IsTrue b → cond b o None ≡ None → o ≡ None
if_true_none true o h e = e
if_true_none false o h e = cc h

is_text : (row : List (List ℕ)) (c : Column) → not (is_utf8 (cell row c)) ≡ false → nat_lt MOST_FIELD_BYTES (length (cell row c)) ≡ false → IsFieldText (cell row c)
is_text row c utf8 short =
    record { utf8 = IsUtf8-from_is_utf8 (cell row c) (not_false (is_utf8 (cell row c)) utf8); short = grind (arith, nat_tests, short) }
  where
    not_false : (b : Bool) → not b ≡ false → b ≡ true
    not_false true e = refl
    not_false false e = cc e

cells_text : (heading : Heading) (number : ℕ) (row : List (List ℕ)) → text_fault heading number row ≡ None → All IsFieldText (cells_of heading.columns row)
cells_text heading number row e =
    let tests = both_none (fault_by (λ (c : Column). fault.NotUtf8 heading.role number c.name) (find (λ (c : Column). not (is_utf8 (cell row c))) heading.columns)) (fault_by (λ (c : Column). fault.FieldTooLong heading.role number c.name) (find (λ (c : Column). nat_lt MOST_FIELD_BYTES (length (cell row c))) heading.columns)) e in
    let utf8 = find_none (λ (c : Column). not (is_utf8 (cell row c))) heading.columns (by_none (λ (c : Column). fault.NotUtf8 heading.role number c.name) _ tests.first) in
    let short = find_none (λ (c : Column). nat_lt MOST_FIELD_BYTES (length (cell row c))) heading.columns (by_none (λ (c : Column). fault.FieldTooLong heading.role number c.name) _ tests.second) in
    All-map IsFieldText (cell row) heading.columns (λ k d h. is_text row (get_or heading.columns k d) (utf8 k d h) (short k d h))

no_text : IsFieldText []
no_text = record { utf8 = IsUtf8-nil; short = omega arith }

cells_row : (has_id : Bool) (cells : List (List ℕ)) → All IsFieldText cells → IsTextRow (row_of_cells has_id cells)
cells_row true [] h = record { id = no_text; fields = h }
cells_row true (id ∷ fields) h = record { id = All-head IsFieldText id fields h; fields = All-tail IsFieldText id fields h }
cells_row false cells h = record { id = no_text; fields = h }

-- the faults of a row are tested in turn
fields_none : (heading : Heading) (number : ℕ) (ids row : List (List ℕ)) → row_fault heading number ids row ≡ None → fields_fault heading number ids row ≡ None
fields_none heading number ids row e =
    if_none (not (length row == heading.width)) (fault.Ragged heading.role number) (fields_fault heading number ids row)
    (if_none (nat_lt heading.most number) (fault.TooManyRows heading.role heading.most) (cond (not (length row == heading.width)) (Some (fault.Ragged heading.role number)) (fields_fault heading number ids row)) e)

pub taken_text : (heading : Heading) (number : ℕ) (ids row : List (List ℕ)) → row_fault heading number ids row ≡ None → IsTextRow (taken heading row)
taken_text heading number ids row e =
    let tests = both_none (text_fault heading number row) (key_fault heading number ids row) (fields_none heading number ids row e) in
    cells_row heading.has_id (cells_of heading.columns row) (cells_text heading number row tests.first)

-- an id that stands nowhere
position_none : (id : List ℕ) (ids : List (List ℕ)) → position (bytes_eq id) ids ≡ None → All (λ x. bytes_eq id x ≡ false) ids
position_none id ids e =
    elim (cases_Bool (nat_lt (position_or_len (bytes_eq id) ids) (length ids))) [
      | inl within ↦ (let h = rw within at e in absurd (cc h))
      | inr past ↦ (λ k d h. fails_before_first (bytes_eq id) ids k d (grind (arith, nat_tests, past)))
    ]

differ : (x y : List ℕ) → bytes_eq x y ≡ false → y ≢ x
differ x y none same =
    let t = (bytes_eq-Decides x y).1 (sym same) in
    cc (t, none)

known_true : (has_id : Bool) (table : List TableRow) → IsTrue has_id → known_ids has_id table ≡ ids_of table
known_true true table h = refl
known_true false table h = cc h

taken_new : (heading : Heading) (table : List TableRow) (number : ℕ) (ids row : List (List ℕ)) → IsTrue heading.has_id → ids ≡ ids_of table → row_fault heading number ids row ≡ None
    → All (λ x. bytes_eq (taken heading row).id x ≡ false) (ids_of table)
taken_new heading table number ids row has is e =
    let tests = both_none (text_fault heading number row) (key_fault heading number ids row) (fields_none heading number ids row e) in
    let key = if_true_none heading.has_id (id_fault heading.role number (taken heading row).id ids) has tests.second in
    let repeated = λ (place : ℕ). fault.RepeatedId heading.role number (place + 1) in
    let place = position (bytes_eq (taken heading row).id) ids in
    let found = by_none repeated place (if_none (length (taken heading row).id == 0) (fault.EmptyId heading.role number) (fault_by repeated place) key) in
    subst (λ (l : List (List ℕ)). All (λ x. bytes_eq (taken heading row).id x ≡ false) l) is (position_none (taken heading row).id ids found)

abbrev HasId : TableRow → Type 0
HasId row = row.id ≢ []

-- the id of a record without a fault
taken_id : (heading : Heading) (number : ℕ) (ids row : List (List ℕ)) → IsTrue heading.has_id → row_fault heading number ids row ≡ None → (taken heading row).id ≢ []
taken_id heading number ids row has e none =
    let tests = both_none (text_fault heading number row) (key_fault heading number ids row) (fields_none heading number ids row e) in
    let key = if_true_none heading.has_id (id_fault heading.role number (taken heading row).id ids) has tests.second in
    let empty : (length (taken heading row).id == 0) ≡ true = ap (λ (id : List ℕ). length id == 0) none in
    let refused = rw empty at key in
    cc refused

-- a table has no more rows than are wanted
within_most : (heading : Heading) (number : ℕ) (ids row : List (List ℕ)) → row_fault heading number ids row ≡ None → number ≤ heading.most
within_most heading number ids row none = by_test (nat_lt heading.most number) refl none
  where
    by_test : (b : Bool) → nat_lt heading.most number ≡ b
        → cond b (Some (fault.TooManyRows heading.role heading.most)) (cond (not (length row == heading.width)) (Some (fault.Ragged heading.role number)) (fields_fault heading number ids row)) ≡ None → number ≤ heading.most
    by_test true e h = cc h
    by_test false e h = grind (arith, nat_tests, e)

whole_few : (heading : Heading) (rows : Records) (table : List TableRow) → AreWhole heading rows table → length table ≤ heading.most
whole_few heading [] table h = omega (arith, ap length h.all)
whole_few heading (row ∷ rows) table h =
    let last = within_most heading (length rows + 1) _ _ (h.sound (length rows) (omega arith)) in
    omega (arith, ap length h.all, length-map rows (taken heading), last)

-- the fields of a row are as many as are wanted
count_cells : (names header row : List (List ℕ)) → length (cells_of (columns_of names header) row) ≡ length names
count_cells names header row =
    length-map (columns_of names header) (cell row) ∙ length-map names (λ name. record { name = name; place = place_in header name })

taken_width : (file : FileRole) (id : Option (List ℕ)) (columns : List (List ℕ)) (most : ℕ) (header row : List (List ℕ))
    → length (taken (heading_under file (record { id = id; columns = columns; most = most }) header) row).fields ≡ length columns
taken_width file None columns most header row = count_cells columns header row
taken_width file (Some id) columns most header row = count_cells columns header row

-- rows without a fault
module _ (heading : Heading) (rows : Records) (sound : (k : ℕ) → k < length rows → row_fault_at heading rows k ≡ None) where
  abbrev table : List TableRow
  table = map (taken heading) rows

  each : (P : TableRow → Type 0) → ((number : ℕ) (ids row : List (List ℕ)) → row_fault heading number ids row ≡ None → P (taken heading row)) → All P table
  each P holds = All-map P (taken heading) rows (All-from_get_or (λ row. P (taken heading row)) rows [] (λ k lt. holds (k + 1) _ (get_or rows k []) (sound k lt)))

  -- the id of a row is none of those before it
  apart : IsTrue heading.has_id → AllPairs (λ (x y : TableRow). x.id ≢ y.id) table
  apart has i j d lt within =
      let in_rows : j < length rows = omega (arith, length-map rows (taken heading)) in
      let before = take j rows in
      let count : length before ≡ j = length-take-le j rows (omega arith) in
      let many : length (map (taken heading) before) ≡ j = length-map before (taken heading) ∙ count in
      let new = taken_new heading (map (taken heading) before) (j + 1) _ (get_or rows j []) has (known_true heading.has_id (map (taken heading) before) has) (sound j in_rows) in
      let ids : get_or (ids_of (map (taken heading) before)) i [] ≡ (taken heading (get_or before i [])).id =
      get_or-map (λ (r : TableRow). r.id) (map (taken heading) before) i d [] (omega (arith, many)) ∙ ap (λ (r : TableRow). r.id) (get_or-map (taken heading) before i [] d (omega (arith, count))) in
      let earlier = new i [] (omega (arith, many, length-map (map (taken heading) before) (λ (r : TableRow). r.id))) in
      let other = differ (taken heading (get_or rows j [])).id (taken heading (get_or before i [])).id (rw ids at earlier) in
      let at_i : get_or table i d ≡ taken heading (get_or before i []) = get_or-map (taken heading) rows i [] d (omega (arith, in_rows)) ∙ ap (taken heading) (sym (get_or-take j rows i [] lt)) in
      let at_j : get_or table j d ≡ taken heading (get_or rows j []) = get_or-map (taken heading) rows j [] d in_rows in
      rw (at_i, at_j) other

-- what holds of each table
sound_rows : (file : FileRole) (wanted : Wanted) (header : List (List ℕ)) (rows : Records) (table : List TableRow) → AreWhole (heading_under file wanted header) rows table → IsTableFor wanted table
sound_rows file wanted header rows all h =
    let heading : Heading = heading_under file wanted header in
    let sound : IsTableFor wanted (table heading rows h.sound) = record {
      few = whole_few heading rows (table heading rows h.sound) (record { all = refl; sound = h.sound });
      width = each heading rows h.sound (λ r. length r.fields ≡ length wanted.columns) (λ number ids row none. taken_width file wanted.id wanted.columns wanted.most header row);
      texts = each heading rows h.sound IsTextRow (λ number ids row none. taken_text heading number ids row none);
      ids = λ has. each heading rows h.sound HasId (λ number ids row none. taken_id heading number ids row has none);
      distinct = λ has. apart heading rows h.sound has;
    } in
    subst (IsTableFor wanted) (sym h.all) sound

pub table_sound : (file : FileRole) (wanted : Wanted) (records : Records) (table : List TableRow) → table_of file wanted records ≡ Ok table → IsTableFor wanted table
table_sound file wanted [] table e = cc e
table_sound file wanted (header ∷ rows) table e = sound_rows file wanted header rows table (table_is_whole file wanted (header ∷ rows) table e).1

-- ---- rows of texts without an id are the rows of a table

-- where no element passes, none is found
pub none_found : {X : Type 0} (p : X → Bool) (xs : List X) → ((x : X) → p x ≡ false) → find p xs ≡ None
none_found p [] fails = refl
none_found p (x ∷ xs) fails = rw (fails x) (none_found p xs fails)

-- what is read of a row of texts is a text
pub text_at : (row : List (List ℕ)) (place : ℕ) → All IsFieldText row → IsFieldText (get_or row place [])
text_at [] place texts = no_text
text_at (f ∷ fs) zero texts = texts 0 [] (omega arith)
text_at (f ∷ fs) (suc place) texts = text_at fs place (All-tail IsFieldText f fs texts)

utf8_passes : (field : List ℕ) → IsFieldText field → not (is_utf8 field) ≡ false
utf8_passes field is = ap not (is_utf8-from_IsUtf8 field is.utf8)

length_passes : (field : List ℕ) → IsFieldText field → nat_lt MOST_FIELD_BYTES (length field) ≡ false
length_passes field is = let short = is.short in grind (arith, nat_tests)

texts_sound : (heading : Heading) (number : ℕ) (row : List (List ℕ)) → All IsFieldText row → text_fault heading number row ≡ None
texts_sound heading number row texts =
    rw (
      none_found (λ c. not (is_utf8 (cell row c))) heading.columns (λ c. utf8_passes (cell row c) (text_at row c.place texts)),
      none_found (λ c. nat_lt MOST_FIELD_BYTES (length (cell row c))) heading.columns (λ c. length_passes (cell row c) (text_at row c.place texts)),
    )

-- a row of so many texts
pub record IsRowOf (width : ℕ) (row : List (List ℕ)) : Type 0 where
  pub wide : length row ≡ width
  pub texts : All IsFieldText row

row_sound : (heading : Heading) (number : ℕ) (ids row : List (List ℕ)) → heading.has_id ≡ false → number ≤ heading.most → IsRowOf heading.width row
    → row_fault heading number ids row ≡ None
row_sound heading number ids row no_id few is =
    let enough : nat_lt heading.most number ≡ false = grind (arith, nat_tests) in
    let wide : (length row == heading.width) ≡ true = let w = is.wide in grind (arith, nat_tests) in
    rw (enough, wide, texts_sound heading number row is.texts, no_id)

pub rows_whole : (heading : Heading) (table : List TableRow) (rows : Records) → heading.has_id ≡ false → All (IsRowOf heading.width) rows
    → length table + length rows ≤ heading.most → rows_read heading table rows ≡ Ok (table ++ map (taken heading) rows)
rows_whole heading table [] no_id sound few = ap Ok (sym (append-nil table))
rows_whole heading table (row ∷ rows) no_id sound few =
    let here = row_sound heading (length table + 1) _ row no_id (omega arith) (sound 0 [] (omega arith)) in
    ap (λ (o : Option Fault). unless_fault o (rows_read heading (table ++ taken heading row ∷ []) rows)) here
    ∙ rows_whole heading (table ++ taken heading row ∷ []) rows no_id (All-tail (IsRowOf heading.width) row rows sound) (omega (arith, length-append table (taken heading row ∷ [])))
    ∙ ap Ok (append_assoc table (taken heading row ∷ []) (map (taken heading) rows))

-- Law of the records of a text: they are no more than its bytes, and one. Proofs of the crates above cite it.

next_few : (n : ℕ) (more : State → List ℕ → List (List (List ℕ))) → ((s : State) (xs : List ℕ) → length (more s xs) ≤ n) → (o : Option Read) → length (records_next more o) ≤ n + 1
next_few n more h None = omega arith
next_few n more h (Some p) = omega (arith, h p.1 p.2)

from_few : (cfg : Config) (n : ℕ) (s : State) (xs : List ℕ) → length (records_from cfg n s xs) ≤ n
unfolding records_from
from_few cfg zero s xs = omega arith
from_few cfg (suc n) s xs = omega (arith, next_few n (records_from cfg n) (from_few cfg n) (next_record cfg s [] [] xs))

stripped : (a b c : ℕ) (rest : List ℕ) (t : Bool) → length (if t then rest else a ∷ b ∷ c ∷ rest) ≤ length rest + 3
stripped a b c rest true = omega arith
stripped a b c rest false = omega arith

strip_few : (bytes : List ℕ) → length (strip_bom bytes) ≤ length bytes
unfolding strip_bom
strip_few [] = omega arith
strip_few (a ∷ []) = omega arith
strip_few (a ∷ b ∷ []) = omega arith
strip_few (a ∷ b ∷ c ∷ rest) = omega (arith, stripped a b c rest (is_bom a b c))

pub records_few : (delimiter : ℕ) (bytes : List ℕ) → length (records_in delimiter bytes) ≤ length bytes + 1
records_few delimiter bytes = omega (arith, strip_few bytes, from_few (config_of delimiter) (length (strip_bom bytes) + 1) st.StartRecord (strip_bom bytes))

-- Laws of rows with ids, which proofs of the crates above cite: they are as many as the rows, and have their fields.

abbrev Cells : Type 0
Cells = List (List ℕ)

pub length_with : (rows : List Cells) (ids : List (List ℕ)) → length (with_ids rows ids) ≡ length rows
length_with [] ids = refl
length_with (r ∷ rows) [] = ap suc (length_with rows [])
length_with (r ∷ rows) (id ∷ ids) = ap suc (length_with rows ids)

pub length_ids : (rows : List TableRow) → length (ids_of rows) ≡ length rows
length_ids [] = refl
length_ids (r ∷ rows) = ap suc (length_ids rows)

pub fields_with : (rows : List Cells) (ids : List (List ℕ)) → map (λ (r : TableRow). r.fields) (with_ids rows ids) ≡ rows
fields_with [] ids = refl
fields_with (r ∷ rows) [] = ap (λ (l : List Cells). r ∷ l) (fields_with rows [])
fields_with (r ∷ rows) (id ∷ ids) = ap (λ (l : List Cells). r ∷ l) (fields_with rows ids)
