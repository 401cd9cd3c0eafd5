-- The values of a file, row by row, and its first unreadable date.
use Rattle.std.proofs.Common.{◌≡◌, ◌<◌, ◌≤◌, ◌+◌, ◌*◌, ◌∷◌, ◌++◌, ◌∙◌, ℕ, true, List, [], length, map, Option, Some, None, Result, Ok, Err, refl, subst, sym, ap, arith, length-append, All, sum_by, IfSome, is_some}
use Rattle.std.specs.Option.{option_or}
use Rattle.std.proofs.lemmas.List.{length-map, map_push}
use Rattle.std.proofs.lemmas.List.Elements.{All-cons, All-head, All-nil, All-push, All-tail}
use Rattle.std.proofs.lemmas.List.Sums.{sum_by-cons, sum_by_push}
use Rattle.link_base.specs.Words.{and_then, refuses_then, Refuses, IsValid, Record, records_of}
use Rattle.link_base.specs.declared.fault.Fault.{Fault}
use Rattle.link_base.specs.declared.fault.FileRole.{FileRole}
use Rattle.link_base.specs.declared.fault.FileRole.TheVariants as role
use Rattle.link_base.specs.declared.standard.Value.{Value}
use Rattle.link_base.specs.declared.tables.Tables.{Tables}
use Rattle.link_limits.specs.declared.TheConstants.{MOST_FIELDS, MOST_ROWS}
use Rattle.file_reader.specs.Words.{Wanted, ids_of, known_ids, TableRow, with_ids, records_in, table_of, unless_fault, IsTableFor, IsTaken, fields_with, length_ids, length_with, table_sound}
use Rattle.link_plan.specs.declared.plan.Plan.{Plan}
use Rattle.standard_files.specs.Files.{date_in_row, delimiter_in, first_unreadable, sorts_a, sorts_b, sorts_in, StandardFile, standard_files, StandardPair, standard_pair, strict_fault, table_a, table_b, table_in, wanted_in}
use Rattle.standard_files.specs.Kept.{dated_file, dated_pair, dated_table, HasTaken, HasValues, IsMade}
use Rattle.standard_files.specs.Values.{standard_record, standard_records, standard_values, unreadable_from, unreadable_in, unreadable_in_row}
use Rattle.standard_files.specs.declared.file_values.DatedFile.{DatedFile}
use Rattle.standard_files.specs.declared.file_values.DatePlace.{DatePlace}
use Rattle.standard_files.specs.declared.file_values.FileValues.{FileValues}
use Rattle.standard_files.specs.declared.sorts.TextSort.{TextSort}

abbrev Texts : Type 0
Texts = List (List ℕ)

room_more : (rows new : List (List Value)) (values : List Value) (at most : ℕ) → new ≡ rows ++ values ∷ [] → length values ≤ most
    → sum_by length rows ≤ most * at → sum_by length new ≤ most * (at + 1)
room_more rows new values at most en few room =
    let sum : sum_by length new ≡ sum_by length rows + length values = ap (sum_by length) en ∙ sum_by_push length rows values in
    let next : most * (at + 1) ≡ most * at + most = omega arith in
    omega (arith, sum, next, few, room)

few_more : (old here at most : ℕ) → old ≤ most * at → here ≤ most → old + here ≤ most * (at + 1)
few_more old here at most few small =
    let next : most * (at + 1) ≡ most * at + most = omega arith in
    omega (arith, next, few, small)

-- the first unreadable date, with one row more
or_assoc : (a b c : Option DatePlace) → option_or a (option_or b c) ≡ option_or (option_or a b) c
or_assoc None b c = refl
or_assoc (Some x) b c = refl

or_none : (a : Option DatePlace) → option_or a None ≡ a
or_none None = refl
or_none (Some x) = refl

first_push : (t : Tables) (sorts : List TextSort) (number at : ℕ) (rows : List Texts) (row : Texts) → at ≡ number + length rows
    → first_unreadable t sorts number (rows ++ row ∷ []) ≡ option_or (first_unreadable t sorts number rows) (date_in_row at (unreadable_from t 0 sorts row))
first_push t sorts number at [] row e =
    let same : number ≡ at = omega (arith, e) in
    or_none (date_in_row number (unreadable_from t 0 sorts row)) ∙ ap (λ (n : ℕ). date_in_row n (unreadable_from t 0 sorts row)) same
first_push t sorts number at (r ∷ rows) row e =
    ap (option_or (date_in_row number (unreadable_from t 0 sorts r))) (first_push t sorts (number + 1) at rows row (omega (arith, e)))
    ∙ or_assoc (date_in_row number (unreadable_from t 0 sorts r)) (first_unreadable t sorts (number + 1) rows) (date_in_row at (unreadable_from t 0 sorts row))

within_more : (old : Option DatePlace) (number many : ℕ) (first : Option ℕ) → IfSome old (λ (d : DatePlace). d.field < many) → IfSome first (λ place. place < many)
    → IfSome (option_or old (date_in_row number first)) (λ (d : DatePlace). d.field < many)
within_more None number many None h k = tt
within_more None number many (Some x) h k = k
within_more (Some d) number many first h k = h

-- the values with one row more
pub record IsNext (old new : FileValues) (row : List Value) (count : ℕ) (date : Option ℕ) : Type 0 where
  pub closed : new.rows.row ≡ []
  pub rows : new.rows.rows ≡ old.rows.rows ++ row ∷ []
  pub one_more : new.count ≡ old.count + 1
  pub unreadable : new.unreadable ≡ old.unreadable + count
  pub first : new.first ≡ option_or old.first (date_in_row (old.count + 1) date)

pub has_more : (t : Tables) (sorts : List TextSort) (old new : FileValues) (rows : List Texts) (texts : Texts) (row : List Value) (count : ℕ) (date : Option ℕ)
    → HasValues t sorts old rows → IsMade t sorts texts row count date → IsNext old new row count date → HasValues t sorts new (rows ++ texts ∷ [])
has_more t sorts old new rows texts row count date h m n =
    record {
      closed = n.closed;
      values = n.rows ∙ (λ i. h.values i ++ m.values i ∷ []) ∙ sym (map_push (standard_values t sorts) rows texts);
      count = n.one_more ∙ omega (arith, h.count, length-append rows (texts ∷ []));
      unreadable = n.unreadable ∙ (λ i. h.unreadable i + m.unreadable i) ∙ sym (sum_by_push (unreadable_in_row t sorts) rows texts);
      first = n.first ∙ (λ i. option_or (h.first i) (date_in_row (old.count + 1) (m.first i))) ∙ sym (first_push t sorts 1 (old.count + 1) rows texts (omega (arith, h.count)));
      narrow = h.narrow;
      room = rw n.one_more (room_more old.rows.rows new.rows.rows row old.count MOST_FIELDS n.rows (omega (arith, m.many, h.narrow)) h.room);
      few = rw (n.one_more, n.unreadable) (few_more old.unreadable count old.count MOST_FIELDS h.few m.few);
      within = rw n.first (within_more old.first (old.count + 1) (length sorts) date h.within m.within);
      valid = rw n.rows (All-push (λ (values : List Value). All IsValid values) old.rows.rows row h.valid m.valid);
    }

-- the records with the ids of a table are the table in standard values
with_rows : (t : Tables) (sorts : List TextSort) (table : List TableRow) → records_of (ids_of table) (map (standard_values t sorts) (map (λ (row : TableRow). row.fields) table)) ≡ standard_records t sorts table
with_rows t sorts [] = refl
with_rows t sorts (row ∷ table) = ap (λ rest. standard_record t sorts row ∷ rest) (with_rows t sorts table)

with_unreadable : (t : Tables) (sorts : List TextSort) (table : List TableRow) → sum_by (unreadable_in_row t sorts) (map (λ (row : TableRow). row.fields) table) ≡ unreadable_in t sorts table
with_unreadable t sorts [] = refl
with_unreadable t sorts (row ∷ table) =
    sum_by-cons (unreadable_in_row t sorts) row.fields (map (λ (r : TableRow). r.fields) table) ∙ ap (λ (rest : ℕ). unreadable_in_row t sorts row.fields + rest) (with_unreadable t sorts table)
    ∙ sym (sum_by-cons (λ (r : TableRow). unreadable_in_row t sorts r.fields) row table)

-- records of valid values
abbrev AreValid : List Value → Type 0
AreValid values = All IsValid values

abbrev HasValid : Record → Type 0
HasValid r = All IsValid r.row

valid_records : (ids : List (List ℕ)) (rows : List (List Value)) → All AreValid rows → All HasValid (records_of ids rows)
valid_records [] rows h = All-nil HasValid
valid_records (id ∷ ids) [] h = All-nil HasValid
valid_records (id ∷ ids) (row ∷ rows) h =
    All-cons HasValid (record { id = id; row = row }) (records_of ids rows) (All-head AreValid row rows h) (valid_records ids rows (All-tail AreValid row rows h))

-- the whole file
pub record IsWholeFile (r : FileRole) (plan : Plan) (bytes : List ℕ) (v : FileValues) (ids : List (List ℕ)) : Type 0 where
  pub closed : v.rows.row ≡ []
  pub as_many : length ids ≡ length v.rows.rows
  pub table : List TableRow
  pub sound : IsTableFor (wanted_in r plan) table
  pub records : records_of ids v.rows.rows ≡ standard_records plan.tables (sorts_in r plan) table
  pub valid : All HasValid (records_of ids v.rows.rows)
  pub within : IfSome v.first (λ (d : DatePlace). d.field < length (sorts_in r plan))
  pub answer : dated_file r plan bytes ≡ Ok (record { file = record { records = records_of ids v.rows.rows; unreadable = v.unreadable }; first = v.first })

pub whole_file : (r : FileRole) (plan : Plan) (bytes : List ℕ) (tables : Tables) (v : FileValues) (ids : List (List ℕ)) (count : ℕ)
    → IsTaken true MOST_ROWS (HasTaken plan.tables (sorts_in r plan) tables v) (table_in r plan bytes) ids count → IsWholeFile r plan bytes v ids
whole_file r plan bytes tables v ids count k =
    let sorts = sorts_in r plan in
    let table = with_ids k.rows ids in
    let sound = table_sound r (wanted_in r plan) (records_in (delimiter_in r plan) bytes) table k.table in
    let own_values : HasValues plan.tables v.sorts.items v k.rows = subst (λ (x : Tables). HasValues x v.sorts.items v k.rows) k.taken.by_tables k.taken.values in
    let h = subst (λ (s : List TextSort). HasValues plan.tables s v k.rows) k.taken.of_sorts own_values in
    let fields : map (λ (row : TableRow). row.fields) table ≡ k.rows = fields_with k.rows ids in
    let own : ids ≡ ids_of table = k.known in
    let values : v.rows.rows ≡ map (standard_values plan.tables sorts) (map (λ (row : TableRow). row.fields) table) = rw fields h.values in
    let records : records_of ids v.rows.rows ≡ standard_records plan.tables sorts table = (λ i. records_of (own i) (values i)) ∙ with_rows plan.tables sorts table in
    let unreadable : v.unreadable ≡ unreadable_in plan.tables sorts table = rw (← fields) at h.unreadable ∙ with_unreadable plan.tables sorts table in
    let first : v.first ≡ first_unreadable plan.tables sorts 1 (map (λ (row : TableRow). row.fields) table) = rw fields h.first in
    record {
      closed = h.closed;
      as_many = ap length own ∙ length_ids table ∙ length_with k.rows ids ∙ sym (ap length h.values ∙ length-map k.rows (standard_values plan.tables sorts));
      table = table;
      sound = sound;
      records = records;
      valid = valid_records ids v.rows.rows h.valid;
      within = h.within;
      answer = ap (λ (x : Result (List TableRow) Fault). and_then x (λ rows. Ok (dated_table plan sorts rows))) k.table
          ∙ (λ i. Ok (record { file = record { records = sym records i; unreadable = sym unreadable i }; first = sym first i }));
    }

pub whole_read : (r : FileRole) (plan : Plan) (bytes : List ℕ) (t : Tables) (sorts : List TextSort) (wanted : Wanted) (delimiter : ℕ) (tables : Tables) (v : FileValues) (ids : List (List ℕ)) (count : ℕ)
    → t ≡ plan.tables → sorts ≡ sorts_in r plan → wanted ≡ wanted_in r plan → delimiter ≡ delimiter_in r plan
    → IsTaken (is_some wanted.id) wanted.most (λ rows. HasTaken t sorts tables v rows) (table_of r wanted (records_in delimiter bytes)) ids count → IsWholeFile r plan bytes v ids
whole_read r plan bytes t sorts wanted delimiter tables v ids count et es ew ed k =
    whole_file r plan bytes tables v ids count (record {
      rows = k.rows;
      taken = record {
        by_tables = k.taken.by_tables ∙ et;
        of_sorts = k.taken.of_sorts ∙ es;
        values = k.taken.values;
      };
      as_many = k.as_many;
      few = subst (λ (w : Wanted). count ≤ w.most) ew k.few;
      known = subst (λ (w : Wanted). ids ≡ known_ids (is_some w.id) (with_ids k.rows ids)) ew k.known;
      table = (λ i. table_of r (sym ew i) (records_in (sym ed i) bytes)) ∙ k.table;
    })

-- both files
abbrev pair_with : StandardFile → StandardFile → Result StandardPair Fault
pair_with x y = Ok (record { a = x; b = y })

both : (a b : Option Fault) (x y : StandardFile) → unless_fault a (unless_fault b (pair_with x y)) ≡ and_then (unless_fault a (Ok x)) (λ x. and_then (unless_fault b (Ok y)) (pair_with x))
both None None x y = refl
both None (Some g) x y = refl
both (Some f) b x y = refl

pair_is : (plan : Plan) (of_a of_b : List TableRow) → dated_pair plan (dated_table plan (sorts_a plan) of_a) (dated_table plan (sorts_b plan) of_b) ≡ standard_pair plan of_a of_b
pair_is plan of_a of_b =
    let a = dated_table plan (sorts_a plan) of_a in
    let b = dated_table plan (sorts_b plan) of_b in
    both (strict_fault role.A plan a.first) (strict_fault role.B plan b.first) a.file b.file

pub files_are : (plan : Plan) (bytes_a bytes_b : List ℕ) → and_then (dated_file role.A plan bytes_a) (λ a. and_then (dated_file role.B plan bytes_b) (λ b. dated_pair plan a b)) ≡ standard_files plan bytes_a bytes_b
files_are plan bytes_a bytes_b = by_tables (table_a plan bytes_a) (table_b plan bytes_b)
  where
    by_tables : (of_a of_b : Result (List TableRow) Fault)
        → and_then (and_then of_a (λ table. Ok (dated_table plan (sorts_a plan) table))) (λ a. and_then (and_then of_b (λ table. Ok (dated_table plan (sorts_b plan) table))) (λ b. dated_pair plan a b))
        ≡ and_then of_a (λ a. and_then of_b (λ b. standard_pair plan a b))
    by_tables (Err f) of_b = refl
    by_tables (Ok a) (Err f) = refl
    by_tables (Ok a) (Ok b) = pair_is plan a b

-- where both tables are read, and where that of B is refused
pub files_ok : (plan : Plan) (bytes_a bytes_b : List ℕ) (a b : DatedFile) → dated_file role.A plan bytes_a ≡ Ok a → dated_file role.B plan bytes_b ≡ Ok b → dated_pair plan a b ≡ standard_files plan bytes_a bytes_b
files_ok plan bytes_a bytes_b a b of_a of_b =
    (λ i. and_then (sym of_a i) (λ a. and_then (sym of_b i) (λ b. dated_pair plan a b))) ∙ files_are plan bytes_a bytes_b

pub files_refused : (plan : Plan) (bytes_a bytes_b : List ℕ) (a : DatedFile) (f : Fault) → dated_file role.A plan bytes_a ≡ Ok a → Refuses (dated_file role.B plan bytes_b) f → Refuses (standard_files plan bytes_a bytes_b) f
files_refused plan bytes_a bytes_b a f of_a of_b =
    subst (λ (expected : Result StandardPair Fault). Refuses expected f)
    ((λ i. and_then (sym of_a i) (λ a. and_then (dated_file role.B plan bytes_b) (λ b. dated_pair plan a b))) ∙ files_are plan bytes_a bytes_b)
    (refuses_then (dated_file role.B plan bytes_b) (λ b. dated_pair plan a b) f of_b)
