-- Rows of cells side by side, with their ids.
use Rattle.std.proofs.Common.{◌≡◌, ◌<◌, ◌≤◌, ◌+◌, ◌*◌, ◌∷◌, ◌++◌, ◌∙◌, ℕ, zero, suc, Bool, true, false, List, [], length, get_or, take, drop, refl, sym, ap, arith, length-drop, None, Result, Ok, subst, length-append, ◌⊎◌, ◌-◌, Option, Some, add-one, inl, inr, if◌then◌else◌, Bor, IsSome, All, true≢false}
use Rattle.std.proofs.lemmas.List.{take-append-le, drop-append-le, get_or-take, get_or-drop, get_or_past, length-take-le, drop-map}
use Rattle.std.proofs.Math.Seq.{take-length}
use Rattle.file_reader.specs.Words.{AreIdsFor, known_ids, no_row, row_of_cells, rows_in, skipped, table_rows, TableRow, with_ids, cell, cells_of, field_columns, Heading, length_ids, length_with, taken_text, ids_after, IsUnderway, TakesTableRow, IsBetweenRecords, IsGoing, IsOfMemory, IsReading, records_left, records_unread, IsFieldText, row_fault, rows_read, taken, HasCells, IsTaken}
use Rattle.link_base.specs.declared.fault.Fault.{Fault}
use Rattle.file_reader.proofs.ReadFacts.{known_short, read}
use Rattle.csv.specs.Machine.{Read, next_record, step, in_field, start_field, start_record, is_end, ends_at_end, field_after, fields_after}
use Rattle.csv.proofs.ReadFacts.{rows-more, rows-end}
use Rattle.csv.specs.Reading.{ReadRecord, Reached, records_from, records_next, source_of, took_first, ExplainsRead, is_flexible}
use Rattle.csv.specs.declared.reader.Reader.{Reader}
use Rattle.file_reader.specs.declared.records.Records.TheInside.{Inside}
use Rattle.csv.specs.declared.parser.Config.{Config}
use Rattle.csv.specs.declared.parser.State.{State}
use Rattle.csv.specs.declared.parser.State.TheVariants as st
use Rattle.csv.specs.declared.error.ErrorKind.{ErrorKind}
use Rattle.csv.specs.declared.error.ErrorKind.TheVariants as kind

abbrev Cells : Type 0
Cells = List (List ℕ)

less_one : (n w : ℕ) (cells : Cells) → length cells ≡ suc n * w → length (drop w cells) ≡ n * w
less_one n w cells h = simp length-drop (omega (arith, h))

more_than : (n w : ℕ) (cells : Cells) → length cells ≡ suc n * w → w ≤ length cells
more_than n w cells h = omega (arith, h)

take_whole : (w : ℕ) (row : Cells) → length row ≡ w → take w row ≡ row
take_whole w row e = rw (← e) (take-length row)

rows_suc : (n w : ℕ) (cells row : Cells) → length cells ≡ n * w → length row ≡ w → rows_in (suc n) w (cells ++ row) ≡ rows_in n w cells ++ row ∷ []
rows_suc zero w [] row h e = ap (λ (r : Cells). r ∷ []) (take_whole w row e)
rows_suc zero w (c ∷ cs) row h e = absurd (omega (arith, h))
rows_suc (suc n) w cells row h e =
    let le = more_than n w cells h in
    let front = take-append-le w cells row le in
    let rest = ap (rows_in (suc n) w) (drop-append-le w cells row le) ∙ rows_suc n w (drop w cells) row (less_one n w cells h) e in
    λ i. front i ∷ rest i

-- one row more
pub rows_push : (n m w : ℕ) (cells row : Cells) → m ≡ n + 1 → length cells ≡ n * w → length row ≡ w → rows_in m w (cells ++ row) ≡ rows_in n w cells ++ row ∷ []
rows_push n m w cells row em h e =
    let s : m ≡ suc n = omega (arith, em) in
    rw s (rows_suc n w cells row h e)

length_rows : (n w : ℕ) (cells : Cells) → length (rows_in n w cells) ≡ n
length_rows zero w cells = refl
length_rows (suc n) w cells = ap suc (length_rows n w (drop w cells))

pub length_table : (n w : ℕ) (cells : Cells) (ids : List (List ℕ)) → length (table_rows n w cells ids) ≡ n
length_table n w cells ids = length_with (rows_in n w cells) ids ∙ length_rows n w cells

push_none : (rows : List Cells) (row : Cells) → with_ids (rows ++ row ∷ []) [] ≡ with_ids rows [] ++ record { id = []; fields = row } ∷ []
push_none [] row = refl
push_none (r ∷ rows) row = ap (λ (t : List TableRow). record { id = []; fields = r } ∷ t) (push_none rows row)

push_id : (rows : List Cells) (row : Cells) (ids : List (List ℕ)) (id : List ℕ) → length ids ≡ length rows
    → with_ids (rows ++ row ∷ []) (ids ++ id ∷ []) ≡ with_ids rows ids ++ record { id = id; fields = row } ∷ []
push_id [] row [] id e = refl
push_id [] row (i ∷ ids) id e = absurd (omega (arith, e))
push_id (r ∷ rows) row [] id e = absurd (omega (arith, e))
push_id (r ∷ rows) row (i ∷ ids) id e = ap (λ (t : List TableRow). record { id = i; fields = r } ∷ t) (push_id rows row ids id (omega (arith, e)))

-- a row's fields are its cells after the id
pub fields_behind : (has_id : Bool) (cells : Cells) → (row_of_cells has_id cells).fields ≡ drop (skipped has_id) cells
fields_behind true [] = refl
fields_behind true (c ∷ cs) = refl
fields_behind false cells = refl

pub row_push : (has_id : Bool) (rows : List Cells) (ids ids2 cells : List (List ℕ)) → ids ≡ known_ids has_id (with_ids rows ids)
    → ids2 ≡ ids_after has_id ids (row_of_cells has_id cells).id → with_ids (rows ++ drop (skipped has_id) cells ∷ []) ids2 ≡ with_ids rows ids ++ row_of_cells has_id cells ∷ []
row_push true rows ids ids2 cells known kept =
    let count : length ids ≡ length rows = ap length known ∙ length_ids (with_ids rows ids) ∙ length_with rows ids in
    let id = (row_of_cells true cells).id in
    ap (with_ids (rows ++ drop 1 cells ∷ [])) kept ∙ push_id rows (drop 1 cells) ids id count
    ∙ ap (λ (fields : Cells). with_ids rows ids ++ record { id = id; fields = fields } ∷ []) (sym (fields_behind true cells))
row_push false rows ids ids2 cells known kept =
    ap (with_ids (rows ++ cells ∷ [])) (kept ∙ known) ∙ push_none rows cells
    ∙ ap (λ (l : List (List ℕ)). with_ids rows l ++ record { id = []; fields = cells } ∷ []) (sym known)

-- as many ids as rows, or none
pub ids_for : (has_id : Bool) (table : List TableRow) (count : ℕ) (ids : List (List ℕ)) → length table ≡ count → ids ≡ known_ids has_id table → AreIdsFor count ids
ids_for true table count ids e known some = ap length known ∙ length_ids table ∙ e
ids_for false table count ids e known some = absurd (omega (arith, some, ap length known))

-- a cell of a row
pub cell_in : (n w : ℕ) (cells : Cells) (at place : ℕ) → length cells ≡ n * w → at < n → place < w → get_or (get_or (rows_in n w cells) at []) place [] ≡ get_or cells (at * w + place) []
cell_in zero w cells at place h lt lw = absurd (omega arith)
cell_in (suc n) w cells zero place h lt lw =
    let here : zero * w + place ≡ place = omega arith in
    get_or-take w cells place [] lw ∙ ap (λ k. get_or cells k []) (sym here)
cell_in (suc n) w cells (suc at) place h lt lw =
    let there : w + (at * w + place) ≡ suc at * w + place = omega arith in
    cell_in n w (drop w cells) at place (less_one n w cells h) (omega arith) lw ∙ get_or-drop w cells (at * w + place) [] ∙ ap (λ k. get_or cells k []) there

row_length : (n w : ℕ) (cells : Cells) (at : ℕ) → length cells ≡ n * w → at < n → length (get_or (rows_in n w cells) at []) ≡ w
row_length zero w cells at h lt = absurd (omega arith)
row_length (suc n) w cells zero h lt = length-take-le w cells (more_than n w cells h)
row_length (suc n) w cells (suc at) h lt = row_length n w (drop w cells) at (less_one n w cells h) (omega arith)

with_at : (rows : List Cells) (ids : List (List ℕ)) (at : ℕ) → at < length rows → get_or (with_ids rows ids) at no_row ≡ record { id = get_or ids at []; fields = get_or rows at [] }
with_at [] ids at lt = absurd (omega arith)
with_at (r ∷ rows) [] zero lt = refl
with_at (r ∷ rows) (id ∷ ids) zero lt = refl
with_at (r ∷ rows) [] (suc at) lt = with_at rows [] at (omega arith)
with_at (r ∷ rows) (id ∷ ids) (suc at) lt = with_at rows ids at (omega arith)

row_at : (n w : ℕ) (cells : Cells) (ids : List (List ℕ)) (at : ℕ) → at < n → get_or (table_rows n w cells ids) at no_row ≡ record { id = get_or ids at []; fields = get_or (rows_in n w cells) at [] }
row_at n w cells ids at lt = with_at (rows_in n w cells) ids at (rw (length_rows n w cells) lt)

-- the id of a row, and its fields
pub id_at : (n w : ℕ) (cells : Cells) (ids : List (List ℕ)) (at : ℕ) → at < n → (get_or (table_rows n w cells ids) at no_row).id ≡ get_or ids at []
id_at n w cells ids at lt = ap (λ (r : TableRow). r.id) (row_at n w cells ids at lt)

pub no_id_at : (n w : ℕ) (cells : Cells) (ids : List (List ℕ)) (at : ℕ) → at < n → length ids ≤ at → (get_or (table_rows n w cells ids) at no_row).id ≡ []
no_id_at n w cells ids at lt past = id_at n w cells ids at lt ∙ get_or_past ids at [] past

pub field_at : (n w : ℕ) (cells : Cells) (ids : List (List ℕ)) (at column : ℕ) → at < n
    → get_or (get_or (table_rows n w cells ids) at no_row).fields column [] ≡ get_or (get_or (rows_in n w cells) at []) column []
field_at n w cells ids at column lt = ap (λ (r : TableRow). get_or r.fields column []) (row_at n w cells ids at lt)

pub count_at : (n w : ℕ) (cells : Cells) (ids : List (List ℕ)) (at : ℕ) → length cells ≡ n * w → at < n → length (get_or (table_rows n w cells ids) at no_row).fields ≡ w
count_at n w cells ids at h lt = ap (λ (r : TableRow). length r.fields) (row_at n w cells ids at lt) ∙ row_length n w cells at h lt

-- The rows of a table go to a taker.

abbrev Records : Type 0
Records = List (List (List ℕ))

-- the fields of a record after its id
pub behind : (heading : Heading) (row : List (List ℕ)) → drop (skipped heading.has_id) (cells_of heading.columns row) ≡ cells_of (field_columns heading) row
behind heading row = drop-map (cell row) (skipped heading.has_id) heading.columns

pub fields_texts : (heading : Heading) (number : ℕ) (ids row : List (List ℕ)) → row_fault heading number ids row ≡ None → All IsFieldText (cells_of (field_columns heading) row)
fields_texts heading number ids row none =
    let fields : (taken heading row).fields ≡ cells_of (field_columns heading) row = fields_behind heading.has_id (cells_of heading.columns row) ∙ behind heading row in
    subst (λ (texts : List (List ℕ)). All IsFieldText texts) fields (taken_text heading number ids row none).fields

-- one row more goes to a taker
pub underway_more : (x : Unit {0}) (took new : Records → Type 0) (heading : Heading) (count : ℕ) (ids ids2 : List (List ℕ)) (all left rest : Records) (row fields : List (List ℕ))
    → IsUnderway took heading count ids all left → left ≡ row ∷ rest → count + 1 ≤ heading.most → fields ≡ cells_of (field_columns heading) row
    → TakesTableRow {T = Unit {0}} (row_fault heading (count + 1) ids row) heading row ids ids2 (Ok x) → ((rows : Records) → took rows → new (rows ++ fields ∷ []))
    → IsUnderway new heading (count + 1) ids2 all rest
underway_more x took new heading count ids ids2 all left rest row fields u el few ef h more =
    let table = with_ids u.rows ids in
    let cells = cells_of heading.columns row in
    let many : length table ≡ count = length_with u.rows ids ∙ u.as_many in
    let is : with_ids (u.rows ++ fields ∷ []) ids2 ≡ table ++ taken heading row ∷ [] =
    ap (λ (f : List (List ℕ)). with_ids (u.rows ++ f ∷ []) ids2) (ef ∙ sym (behind heading row)) ∙ row_push heading.has_id u.rows ids ids2 cells u.known h.1 in
    let next = read x heading table (with_ids (u.rows ++ fields ∷ []) ids2) left rest all row (count + 1) ids ids2 u.told el (omega (arith, many)) u.known h is in
    let one : length (u.rows ++ fields ∷ []) ≡ count + 1 = omega (arith, u.as_many, length-append u.rows (fields ∷ [])) in
    record {
      rows = u.rows ++ fields ∷ [];
      taken = more u.rows u.taken;
      as_many = one;
      few = few;
      short = omega (arith, ap length next.known, known_short heading.has_id (with_ids (u.rows ++ fields ∷ []) ids2), length_with (u.rows ++ fields ∷ []) ids2, one);
      known = next.known;
      told = next.told;
    }

-- none is left
pub all_taken : (took : Records → Type 0) (heading : Heading) (count : ℕ) (ids : List (List ℕ)) (all left : Records) → IsUnderway took heading count ids all left → left ≡ []
    → IsTaken heading.has_id heading.most took (rows_read heading [] all) ids count
all_taken took heading count ids all left u none =
    record {
      rows = u.rows;
      taken = u.taken;
      as_many = u.as_many;
      few = u.few;
      known = u.known;
      table = u.told ∙ ap (rows_read heading (with_ids u.rows ids)) none;
    }

-- one row more of cells side by side
pub cells_more : (width : ℕ) (cells new row : List (List ℕ)) (rows : Records) → HasCells width cells rows → length row ≡ width → new ≡ cells ++ row → HasCells width new (rows ++ row ∷ [])
cells_more width cells new row rows h many is =
    let one : length (rows ++ row ∷ []) ≡ length rows + 1 = length-append rows (row ∷ []) in
    record {
      whole = ap length is ∙ length-append cells row ∙ omega (arith, h.whole, many, ap (λ (n : ℕ). n * width) one);
      rows_of = ap (rows_in (length (rows ++ row ∷ [])) width) is ∙ rows_push (length rows) (length (rows ++ row ∷ [])) width cells row one h.whole many ∙ ap (λ (l : Records). l ++ row ∷ []) h.rows_of;
    }

-- the table of rows that are kept so
pub table_taken : (has_id : Bool) (most width count : ℕ) (cells ids : List (List ℕ)) (expected : Result (List TableRow) Fault) → IsTaken has_id most (HasCells width cells) expected ids count → expected ≡ Ok (table_rows count width cells ids)
table_taken has_id most width count cells ids expected k =
    k.table ∙ ap (λ (rows : Records). Ok (with_ids rows ids)) (sym k.taken.rows_of ∙ ap (λ (n : ℕ). rows_in n width cells) k.as_many)

pub taken_ids : (has_id : Bool) (most : ℕ) (took : Records → Type 0) (count : ℕ) (ids : List (List ℕ)) (expected : Result (List TableRow) Fault) → IsTaken has_id most took expected ids count → AreIdsFor count ids
taken_ids has_id most took count ids expected k = ids_for has_id (with_ids k.rows ids) count ids (length_with k.rows ids ∙ k.as_many) k.known

-- A read takes the first of the records that are left.

in_field_between : (cfg : Config) (c : ℕ) → is_end (in_field cfg c).1 ≡ true → IsBetweenRecords (in_field cfg c).0
in_field_between cfg c e = grind arith

start_record_between : (cfg : Config) (c : ℕ) → is_end (start_record cfg c).1 ≡ true → IsBetweenRecords (start_record cfg c).0
start_record_between cfg c e = grind arith

start_field_between : (cfg : Config) (c : ℕ) → is_end (start_field cfg c).1 ≡ true → IsBetweenRecords (start_field cfg c).0
start_field_between cfg c e = grind arith

end_between : (cfg : Config) (s : State) (c : ℕ) → is_end (step cfg s c).1 ≡ true → IsBetweenRecords (step cfg s c).0
end_between cfg st.StartRecord c e = start_record_between cfg c e
end_between cfg st.StartField c e = start_field_between cfg c e
end_between cfg st.InField c e = in_field_between cfg c e
end_between cfg st.InQuoted c e = grind arith
end_between cfg st.InEscape c e = cc e
end_between cfg st.AfterQuote c e = grind arith
end_between cfg st.InComment c e = grind arith
end_between cfg st.AfterCr c e = grind arith

-- the two ways to a record
either : (b : Bool) (r p : Read) (o : Option Read) → (if b then Some r else o) ≡ Some p → ((b ≡ true) × (r ≡ p)) ⊎ (o ≡ Some p)
either true r p o e = inl (refl, cc e)
either false r p o e = inr e

-- what a read leaves
pub shorter : (cfg : Config) (s : State) (fields : List (List ℕ)) (field : List ℕ) (xs : List ℕ) (p : Read)
    → next_record cfg s fields field xs ≡ Some p → (length p.2 ≤ length xs - 1) × IsBetweenRecords p.1
unfolding next_record
shorter cfg s fields field [] p e =
    elim (either (ends_at_end s) (fields ++ (field ∷ []), st.StartRecord, []) p None e) [
      | inl h ↦ rw (← h.1) (omega arith, inl refl)
      | inr h ↦ cc h
    ]
shorter cfg s fields field (c ∷ rest) p e =
    elim (either (is_end (step cfg s c).1) (fields_after (step cfg s c).1 fields field, (step cfg s c).0, rest) p (next_record cfg (step cfg s c).0 (fields_after (step cfg s c).1 fields field) (field_after (step cfg s c).1 c field) rest) e) [
      | inl h ↦ rw (← h.1) (omega arith, end_between cfg s c h.0)
      | inr h ↦ let q = shorter cfg (step cfg s c).0 (fields_after (step cfg s c).1 fields field) (field_after (step cfg s c).1 c field) rest p h in (omega arith, q.1)
    ]

nonempty : (cfg : Config) (s : State) (xs : List ℕ) (p : Read) → IsBetweenRecords s → next_record cfg s [] [] xs ≡ Some p → 0 < length xs
unfolding next_record
nonempty cfg s [] p b e = elim b [ inl h ↦ cc (rw h at e) | inr h ↦ cc (rw h at e) ]
nonempty cfg s (x ∷ xs) p b e = omega arith

fuel_step : (f g : State → List ℕ → List (List (List ℕ))) (o : Option Read) → ((p : Read) → o ≡ Some p → f p.1 p.2 ≡ g p.1 p.2)
    → records_next f o ≡ records_next g o
fuel_step f g None h = refl
fuel_step f g (Some p) h = ap (λ (t : List (List (List ℕ))). p.0 ∷ t) (h p refl)

fuel : (cfg : Config) (n m : ℕ) (s : State) (xs : List ℕ) → IsBetweenRecords s → length xs < n → length xs < m → records_from cfg n s xs ≡ records_from cfg m s xs
unfolding records_from
fuel cfg zero m s xs b h k = absurd (omega arith)
fuel cfg (suc n) zero s xs b h k = absurd (omega arith)
fuel cfg (suc n) (suc m) s xs b h k =
    fuel_step (records_from cfg n) (records_from cfg m) _
    (λ p e.
    let q = shorter cfg s [] [] xs p e in
    let l = nonempty cfg s xs p b e in
    fuel cfg n m p.1 p.2 q.1 (omega arith) (omega arith))

pub took_one : (cfg : Config) (s s2 : State) (y z : List ℕ) (f : List (List ℕ)) → IsBetweenRecords s → Reached cfg s y (f ∷ []) s2 z
    → (records_unread cfg s (Some y) ≡ f ∷ records_unread cfg s2 (Some z)) × IsBetweenRecords s2
unfolding Reached records_from
took_one cfg s s2 y z f b r =
    let p = r.0 in
    let q = shorter cfg s [] [] y r.0 r.1 in
    let l = nonempty cfg s y r.0 b r.1 in
    (rw (add-one, r.1, r.2, ← r.3.0, ← r.3.1) (ap (λ (t : List (List (List ℕ))). r.0.0 ∷ t) (fuel cfg (length y) (length r.0.2 + 1) r.0.1 r.0.2 q.1 (omega arith) (omega arith))), rw (← r.3.0) q.1)

pub took_none : (cfg : Config) (s : State) (y : List ℕ) → next_record cfg s [] [] y ≡ None → records_unread cfg s (Some y) ≡ []
unfolding records_from
took_none cfg s y e = rw (add-one, e) refl

some_of : (o : Option (List ℕ)) → IsSome o → (y : List ℕ) × (o ≡ Some y)
some_of None h = cc h
some_of (Some y) h = (y, refl)

first_of_left : (cfg cfg2 : Config) (s s2 : State) (o o2 : Option (List ℕ)) (y z : List ℕ) (f : List (List ℕ)) → o ≡ Some y → o2 ≡ Some z → cfg2 ≡ cfg
    → records_unread cfg s (Some y) ≡ f ∷ records_unread cfg s2 (Some z) → records_unread cfg s o ≡ f ∷ records_unread cfg2 s2 o2
first_of_left cfg cfg2 s s2 o o2 y z f e e2 ec h = rw (e, e2, ec) h

-- a read that gave a record
pub goes_on : (r : Inside) (b : Reader (Bor (List ℕ))) (f : List (List ℕ)) → r.done ≡ false → IsGoing r
    → ReadRecord (λ (s : Bor (List ℕ)). Some s.now) r.reader b true f → took_first b ≡ true → is_flexible b ≡ is_flexible r.reader
    → (records_left r ≡ f ∷ records_left (record { reader = b; done = r.done })) × IsGoing (record { reader = b; done = r.done })
unfolding Reached
goes_on r b f d g read first flexible =
    let (y, ey) = some_of (source_of (λ (s : Bor (List ℕ)). Some s.now) r.reader) g.known in
    let m = rows-more (λ (s : Bor (List ℕ)). Some s.now) r.reader b f r.reader.config r.reader.state y y [] refl ey (refl, refl) read in
    let t = took_one r.reader.config r.reader.state b.state y m.0 f g.between m.2 in
    (rw d (first_of_left r.reader.config b.config r.reader.state b.state _ _ y m.0 f ey m.1 read.2 t.0), record { flexible = flexible ∙ g.flexible; plain = read.3 ∙ g.plain; ready = inl first; between = t.1; known = rw m.1 refl })

-- a read that gave none
pub ends : (r : Inside) (b : Reader (Bor (List ℕ))) (f : List (List ℕ)) → r.done ≡ false → IsGoing r
    → ReadRecord (λ (s : Bor (List ℕ)). Some s.now) r.reader b false f → records_left r ≡ []
ends r b f d g read =
    let (y, ey) = some_of (source_of (λ (s : Bor (List ℕ)). Some s.now) r.reader) g.known in
    rw (d, ey) (took_none r.reader.config r.reader.state y (rows-end (λ (s : Bor (List ℕ)). Some s.now) r.reader b f r.reader.config y refl ey read))

-- the state of a reader that is not done
pub going : (r : Inside) → r.done ≡ false → IsReading r → IsGoing r
going r d i = elim i [ inl h ↦ cc | inr h ↦ h ]

-- why a read failed
pub of_memory : (r : Inside) (b : Reader (Bor (List ℕ))) (k : ErrorKind) → IsGoing r → ExplainsRead (λ (s : Bor (List ℕ)). Some s.now) r.reader b false k → IsOfMemory k
of_memory r b kind.OutOfMemory g why = tt
of_memory r b (kind.Io e) g why = tt
of_memory r b (kind.UnequalLengths pos expected len) g why = absurd (true≢false (sym g.flexible ∙ why.0))
of_memory r b (kind.Utf8 pos err) g why = absurd (true≢false (sym why.0))
of_memory r b (kind.Serialize text) g why = why
of_memory r b (kind.Deserialize pos err) g why = why
