-- The text of a journal reads as this journal.
use Rattle.std.proofs.Common.{◌≡◌, ◌<◌, ◌≤◌, ◌+◌, ◌∷◌, ◌++◌, ◌∙◌, ◌≤ℤ◌, ℕ, ℤ, true, List, [], All, length, map, get_or, Result, Ok, Some, refl, sym, ap, subst, arith, append_assoc, length-append, nat_lt, codes, decimal, int_le, IsAscii, bytes_eq}
use Rattle.std.specs.List.{AllPairs, enumerate_from, flat_map, list_all, position_or_len}
use Rattle.std.proofs.lemmas.Bool.Decides.{nat_tests}
use Rattle.std.proofs.lemmas.Fmt.{IsAscii-decimal, length-decimal-le}
use Rattle.std.proofs.lemmas.List.{append-nil, length-map, get_or_append_left}
use Rattle.std.proofs.lemmas.List.Elements.{All-cons, All-map, All-nil, All-tail}
use Rattle.std.proofs.lemmas.List.Sums.{AllPass-from_list_all, list_all-from_AllPass, position_or_len_is}
use Rattle.std.proofs.lemmas.List.Folds.{flat_map-map}
use Rattle.std.proofs.lemmas.List.FromFn.{length-enumerate_from}
use Rattle.std.proofs.lemmas.Str.{IsUtf8-from_ascii}
use Rattle.std.proofs.lemmas.Str.Ascii.{IsAscii-from_all}
use Rattle.csv.specs.Writing.{default_writer, fields_text, is_blank, row_text}
use Rattle.file_reader.specs.Words.{records_in, IsFieldText, table_of, taken, header_has, Heading, heading_under, TableRow, IsRowOf, rows_whole}
use Rattle.csv_rows.specs.Numbers.{HasNoMark, no_mark}
use Rattle.link_base.specs.Words.{and_then, id_at, IsDay, no_record, Record, HaveDistinctIds, position_of_id}
use Rattle.link_base.specs.declared.fault.Fault.{Fault}
use Rattle.link_base.specs.declared.fault.FileRole.TheVariants as role
use Rattle.link_base.specs.declared.rule.Step.{Step}
use Rattle.link_base.specs.declared.rule.Step.TheVariants.{Single, First, Confirm}
use Rattle.link_base.specs.declared.rule.Verdict.{Verdict}
use Rattle.link_base.specs.declared.rule.Verdict.TheVariants as verdict
use Rattle.link_limits.specs.declared.TheConstants.{MOST_ENTRIES, MOST_FIELD_BYTES}
use Rattle.review_journal.specs.Verdict.{all_fit, IsJournal, IsReviewer, IsWithinFiles, fits_after}
use Rattle.review_journal.specs.declared.entry.Entry.{Entry}
use Rattle.value_forms.specs.Days.{iso_day, text_of_day}
use Rattle.review_journal.specs.Reading.{entries_read, entry_in, journal_in, journal_under, journal_wanted, signed, entry_fields, entry_line, HasIds, IsIdText, text_of_journal}
use Rattle.review_journal.specs.Rows.{journal_columns, step_word, verdict_word, written_in, step_named, verdict_named}
use Rattle.std.proofs.lemmas.Bool.{and_parts, false_from_ne_true}
use Rattle.std.proofs.lemmas.Int.{ints}
use Rattle.std.proofs.lemmas.Slice.Eq.{bytes_eq-Decides}
use Rattle.std.proofs.Math.Seq.{get_or-append_seam}
use Rattle.review_journal.specs.Batch.{is_not_before}

same_bytes : (text : List ℕ) → bytes_eq text text ≡ true
same_bytes text = (bytes_eq-Decides text text).1 refl

-- the record at a position is the one that its id names
pub found_again : (file : List Record) (at : ℕ) → HaveDistinctIds file → at < length file → position_of_id (id_at file at) file ≡ Some at
found_again file at distinct within =
    let here : position_or_len (λ (r : Record). bytes_eq (id_at file at) r.id) file ≡ at =
    position_or_len_is (λ (r : Record). bytes_eq (id_at file at) r.id) file at no_record (omega arith)
    (λ k lt. false_from_ne_true (bytes_eq (id_at file at) (id_at file k)) (λ same. distinct k at no_record lt within (sym ((bytes_eq-Decides (id_at file at) (id_at file k)).0 same))))
    (λ lt. same_bytes (id_at file at)) in
    let test : nat_lt at (length file) ≡ true = grind (arith, nat_tests) in
    rw (here, test)

pub verdict_again : (v : Verdict) → verdict_named (verdict_word v) ≡ Some v
verdict_again verdict.Link = refl
verdict_again verdict.NonLink = refl
verdict_again verdict.Undecided = refl

pub step_again : (s : Step) → step_named (Some (step_word s)) ≡ Some s
step_again Single = refl
step_again First = refl
step_again Confirm = refl

signed_again : (number : ℕ) (name : List ℕ) → 1 ≤ length name → signed number name ≡ Ok name
signed_again number [] some = absurd (omega arith)
signed_again number (byte ∷ bytes) some = refl

in_order : (x y : ℤ) → x ≤ℤ y → int_le x y ≡ true
in_order x y le = grind (arith, ints)

-- the day of an entry is not before those of the entries before it
pub not_before : (done later : List Entry) (e : Entry) → AllPairs (λ (x y : Entry). x.date ≤ℤ y.date) (done ++ e ∷ later) → is_not_before done e.date ≡ true
not_before done later e dates =
    list_all-from_AllPass (λ (x : Entry). int_le x.date e.date) done (λ k d lt.
    let earlier : get_or (done ++ e ∷ later) k d ≡ get_or done k d = get_or_append_left done (e ∷ later) d k lt in
    let last : get_or (done ++ e ∷ later) (length done) d ≡ e = get_or-append_seam done e later d in
    let told = dates k (length done) d lt (omega (arith, length-append done (e ∷ later))) in
    in_order (get_or done k d).date e.date (subst (λ (x : Entry). x.date ≤ℤ e.date) earlier (subst (λ (y : Entry). (get_or (done ++ e ∷ later) k d).date ≤ℤ y.date) last told)))

-- what an entry needs to be read again after these
pub record IsReadable (a b : List Record) (done : List Entry) (e : Entry) : Type 0 where
  pub day : iso_day (text_of_day e.date) ≡ Some e.date
  pub not_back : is_not_before done e.date ≡ true
  pub reviewer : 1 ≤ length e.reviewer
  pub of_a : position_of_id (id_at a e.a) a ≡ Some e.a
  pub of_b : position_of_id (id_at b e.b) b ≡ Some e.b
  pub fits : fits_after done e ≡ true

pub entry_again : (a b : List Record) (done : List Entry) (e : Entry) → IsReadable a b done e
    → entry_in a b done (length done + 1) (written_in true (entry_fields a b (length done, e))) ≡ Ok e
unfolding entry_in
entry_again a b done e is =
    rw (same_bytes (decimal (length done + 1)), is.day, is.not_back, signed_again (length done + 1) e.reviewer is.reviewer, is.of_a, is.of_b, verdict_again e.verdict, step_again e.step, is.fits)

-- the rows of a journal
-- the text of a day is read, and is ten bytes of ASCII
pub record DaysRead : Type 0 where
  pub same : (day : ℤ) → IsDay day → iso_day (text_of_day day) ≡ Some day
  pub ascii : (day : ℤ) → IsDay day → IsAscii (text_of_day day)
  pub long : (day : ℤ) → length (text_of_day day) ≡ 10

-- the rows of a text are read
abbrev pub RowsRead : Type 0
RowsRead =
    (rows : List (List (List ℕ))) → All (λ row. 1 ≤ length row) rows → HasNoMark (flat_map (row_text default_writer) rows)
    → records_in 44 (flat_map (row_text default_writer) rows) ≡ rows

abbrev heading : Heading
heading = heading_under role.Journal (journal_wanted true) (journal_columns true)

-- an entry of a journal of the files
record IsEntryOf (a b : List Record) (e : Entry) : Type 0 where
  pub day : IsDay e.date
  pub reviewer : IsReviewer e.reviewer
  pub within : IsWithinFiles (length a) (length b) e

module _ (a b : List Record) where
  abbrev row_of : ℕ × Entry → TableRow
  row_of at = record { id = []; fields = entry_fields a b at }

  rows_taken : (es : List (ℕ × Entry)) → map (taken heading) (map (entry_fields a b) es) ≡ map row_of es
  rows_taken [] = refl
  rows_taken (e ∷ es) = ap (λ (t : List TableRow). row_of e ∷ t) (rows_taken es)

  text_rows : (es : List (ℕ × Entry)) → flat_map (row_text default_writer) (journal_columns true ∷ map (entry_fields a b) es) ≡ row_text default_writer (journal_columns true) ++ flat_map (entry_line a b) es
  text_rows es = ap (λ (t : List ℕ). row_text default_writer (journal_columns true) ++ t) (flat_map-map (row_text default_writer) (entry_fields a b) es)

  some_fields : (es : List (ℕ × Entry)) → All (λ row. 1 ≤ length row) (journal_columns true ∷ map (entry_fields a b) es)
  some_fields es =
      All-cons (λ row. 1 ≤ length row) (journal_columns true) (map (entry_fields a b) es) (omega arith)
      (All-map (λ row. 1 ≤ length row) (entry_fields a b) es (λ k d lt. omega arith))

  table_read : (es : List (ℕ × Entry)) → All (IsRowOf 7) (map (entry_fields a b) es) → length (map (entry_fields a b) es) ≤ MOST_ENTRIES
      → table_of role.Journal (journal_wanted true) (journal_columns true ∷ map (entry_fields a b) es) ≡ Ok (map row_of es)
  table_read es sound few = rows_whole heading [] (map (entry_fields a b) es) refl sound (omega arith) ∙ ap Ok (rows_taken es)

-- the fields of an entry are texts as a table has them
decimal_text : (n : ℕ) → n ≤ MOST_ENTRIES → IsFieldText (decimal n)
decimal_text n few =
    let long = length-decimal-le 7 n (omega arith) (omega arith) (omega arith) in
    record { utf8 = IsUtf8-from_ascii (decimal n) (IsAscii-decimal n (omega arith)); short = omega arith }

day_text : DaysRead → (day : ℤ) → IsDay day → IsFieldText (text_of_day day)
day_text days day is =
    let long = days.long day in
    record { utf8 = IsUtf8-from_ascii (text_of_day day) (days.ascii day is); short = omega arith }

name_text : (name : List ℕ) → IsReviewer name → IsFieldText name
name_text name is = record { utf8 = is.text; short = is.few }

below : (n : ℕ) → nat_lt n 128 ≡ true → n < 128
below n e = grind (arith, nat_tests)

ascii_text : (word : List ℕ) → list_all (λ n. nat_lt n 128) word ≡ true → length word ≤ MOST_FIELD_BYTES → IsFieldText word
ascii_text word low short =
    let all = AllPass-from_list_all (λ n. nat_lt n 128) word low in
    record { utf8 = IsUtf8-from_ascii word (IsAscii-from_all word (λ k d lt. below (get_or word k d) (all k d lt))); short = short }

step_text : (s : Step) → IsFieldText (step_word s)
step_text Single = ascii_text (step_word Single) refl (omega arith)
step_text First = ascii_text (step_word First) refl (omega arith)
step_text Confirm = ascii_text (step_word Confirm) refl (omega arith)

verdict_text : (v : Verdict) → IsFieldText (verdict_word v)
verdict_text verdict.Link = ascii_text (verdict_word verdict.Link) refl (omega arith)
verdict_text verdict.NonLink = ascii_text (verdict_word verdict.NonLink) refl (omega arith)
verdict_text verdict.Undecided = ascii_text (verdict_word verdict.Undecided) refl (omega arith)

id_text : (file : List Record) (at : ℕ) → HasIds file → at < length file → IsFieldText (id_at file at)
id_text file at ids within = let id : IsIdText (get_or file at no_record) = ids.texts at no_record within in record { utf8 = id.text; short = id.few }

seven : (f g h i j k l : List ℕ) → IsFieldText f → IsFieldText g → IsFieldText h → IsFieldText i → IsFieldText j → IsFieldText k → IsFieldText l → IsRowOf 7 (f ∷ g ∷ h ∷ i ∷ j ∷ k ∷ l ∷ [])
seven f g h i j k l tf tg th ti tj tk tl = record {
  wide = refl;
  texts =
      All-cons IsFieldText f (g ∷ h ∷ i ∷ j ∷ k ∷ l ∷ []) tf (All-cons IsFieldText g (h ∷ i ∷ j ∷ k ∷ l ∷ []) tg (All-cons IsFieldText h (i ∷ j ∷ k ∷ l ∷ []) th
      (All-cons IsFieldText i (j ∷ k ∷ l ∷ []) ti (All-cons IsFieldText j (k ∷ l ∷ []) tj (All-cons IsFieldText k (l ∷ []) tk (All-cons IsFieldText l [] tl (All-nil IsFieldText)))))));
}

module _ (days : DaysRead) (a b : List Record) (ids_a : HasIds a) (ids_b : HasIds b) where
  entry_row : (at : ℕ) (e : Entry) → at + 1 ≤ MOST_ENTRIES → IsEntryOf a b e → IsRowOf 7 (entry_fields a b (at, e))
  entry_row at e few is =
      seven (decimal (at + 1)) (text_of_day e.date) e.reviewer (step_word e.step) (id_at a e.a) (id_at b e.b) (verdict_word e.verdict)
      (decimal_text (at + 1) few) (day_text days e.date is.day) (name_text e.reviewer is.reviewer) (step_text e.step)
      (id_text a e.a ids_a is.within.of_a) (id_text b e.b ids_b is.within.of_b) (verdict_text e.verdict)

  entry_rows : (at : ℕ) (es : List Entry) → at + length es ≤ MOST_ENTRIES → All (IsEntryOf a b) es → All (IsRowOf 7) (map (entry_fields a b) (enumerate_from at es))
  entry_rows at [] few all = All-nil (IsRowOf 7)
  entry_rows at (e ∷ es) few all =
      All-cons (IsRowOf 7) (entry_fields a b (at, e)) (map (entry_fields a b) (enumerate_from (at + 1) es)) (entry_row at e (omega arith) (all 0 e (omega arith)))
      (entry_rows (at + 1) es (omega arith) (All-tail (IsEntryOf a b) e es all))

  entry_next : (done later : List Entry) (e : Entry) → IsEntryOf a b e → fits_after done e ≡ true → AllPairs (λ (x y : Entry). x.date ≤ℤ y.date) (done ++ e ∷ later)
      → entry_in a b done (length done + 1) (written_in true (entry_fields a b (length done, e))) ≡ Ok e
  entry_next done later e is fits dates = entry_again a b done e (record {
    day = days.same e.date is.day;
    not_back = not_before done later e dates;
    reviewer = is.reviewer.some;
    of_a = found_again a e.a ids_a.distinct is.within.of_a;
    of_b = found_again b e.b ids_b.distinct is.within.of_b;
    fits = fits;
  })

  entries_again : (done later : List Entry) → All (IsEntryOf a b) later → all_fit done later ≡ true → AllPairs (λ (x y : Entry). x.date ≤ℤ y.date) (done ++ later)
      → entries_read true a b done (map (row_of a b) (enumerate_from (length done) later)) ≡ Ok (done ++ later)
  entries_again done [] all fit dates = ap Ok (sym (append-nil done))
  entries_again done (e ∷ later) all fit dates =
      let more : List Entry = done ++ e ∷ [] in
      let count : length more ≡ length done + 1 = length-append done (e ∷ []) in
      let joined : more ++ later ≡ done ++ e ∷ later = append_assoc done (e ∷ []) later in
      let fits = and_parts (fits_after done e) (all_fit more later) fit in
      let next = entry_next done later e (all 0 e (omega arith)) fits.0 dates in
      let rest = entries_again more later (All-tail (IsEntryOf a b) e later all) fits.1 (subst (AllPairs (λ (x y : Entry). x.date ≤ℤ y.date)) (sym joined) dates) in
      ap (λ (r : Result Entry Fault). and_then r (λ x. entries_read true a b (done ++ x ∷ []) (map (row_of a b) (enumerate_from (length done + 1) later)))) next
      ∙ ap (λ n. entries_read true a b more (map (row_of a b) (enumerate_from n later))) (sym count)
      ∙ rest ∙ ap Ok joined

-- the header begins with a letter
header_begins : (rest : List ℕ) → row_text default_writer (journal_columns true) ++ rest ≡ 110 ∷ (codes "umber,date,reviewer,step,id_a,id_b,verdict\n" ++ rest)
unfolding fields_text is_blank
header_begins rest = refl

-- a text that begins with a letter has no mark and is not empty, so it is read by its records
of_records : (a b : List Record) (text rest : List ℕ) (rows : List (List (List ℕ))) → text ≡ 110 ∷ rest → records_in 44 text ≡ journal_columns true ∷ rows
    → journal_in a b text ≡ journal_under true a b (journal_columns true ∷ rows)
of_records a b text rest rows is read =
    let same : records_in 44 (110 ∷ rest) ≡ journal_columns true ∷ rows = ap (records_in 44) (sym is) ∙ read in
    ap (journal_in a b) is ∙ ap (λ (r : List (List (List ℕ))). journal_under (header_has (codes "step") r) a b r) same

are_entries : (a b : List Record) (entries : List Entry) → IsJournal entries → All (IsWithinFiles (length a) (length b)) entries → All (IsEntryOf a b) entries
are_entries a b entries is within k d lt = record { day = is.days k d lt; reviewer = is.reviewers k d lt; within = within k d lt }

pub journal_again : DaysRead → RowsRead → (a b : List Record) (entries : List Entry) → HasIds a → HasIds b → IsJournal entries → All (IsWithinFiles (length a) (length b)) entries
    → journal_in a b (text_of_journal a b entries) ≡ Ok entries
journal_again days read a b entries ids_a ids_b is within =
    let es : List (ℕ × Entry) = enumerate_from 0 entries in
    let rows : List (List (List ℕ)) = map (entry_fields a b) es in
    let begins = header_begins (flat_map (entry_line a b) es) in
    let plain : HasNoMark (text_of_journal a b entries) = subst HasNoMark (sym begins) (no_mark 110 _ (omega arith)) in
    let text = text_rows a b es in
    let records : records_in 44 (text_of_journal a b entries) ≡ journal_columns true ∷ rows =
    ap (records_in 44) (sym text) ∙ read (journal_columns true ∷ rows) (some_fields a b es) (subst HasNoMark (sym text) plain) in
    let all = are_entries a b entries is within in
    let sound = entry_rows days a b ids_a ids_b 0 entries (omega (arith, is.few)) all in
    let few : length rows ≤ MOST_ENTRIES = omega (arith, is.few, length-map es (entry_fields a b), length-enumerate_from 0 entries) in
    of_records a b (text_of_journal a b entries) _ rows begins records
    ∙ ap (λ (t : Result (List TableRow) Fault). and_then t (entries_read true a b [])) (table_read a b es sound few)
    ∙ entries_again days a b ids_a ids_b [] entries all is.steps is.dates
