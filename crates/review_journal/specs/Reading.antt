-- The journal in a file, or its first fault: of the table, then row by row (`read_journal`, clause `answer`).
use Rattle.std.specs.Prelude.{◌≡◌, ℕ, ℤ, List, [], ◌∷◌, Bool, true, false, bytes_eq, decimal, codes, None, Result, Ok, Err, All, ◌++◌, ◌+◌, ◌≤◌, length, IsUtf8}
use Rattle.file_reader.specs.Words.{records_in, table_of, or_fault, pair_in, header_has, Wanted, TableRow, each_read}
use Rattle.link_limits.specs.declared.TheConstants.{MOST_ENTRIES, MOST_FIELD_BYTES}
use Rattle.link_base.specs.Words.{and_then, IsDay, Record, HaveDistinctIds, id_at}
use Rattle.link_base.specs.declared.fault.Fault.{Fault}
use Rattle.value_forms.specs.Days.{iso_day, text_of_day}
use Rattle.review_journal.specs.Batch.{is_not_before}
use Rattle.review_journal.specs.Verdict.{IsReviewer, fits_after}
use Rattle.review_journal.specs.declared.entry.Entry.{Entry}
use Rattle.review_journal.specs.Rows.{journal_columns, step_named, verdict_named, Written, written_in, step_word, verdict_word}
use Rattle.std.specs.List.{enumerate_from, flat_map}
use Rattle.csv.specs.Writing.{default_writer, row_text}
use Rattle.link_base.specs.declared.fault.Fault.TheVariants as fault
use Rattle.link_base.specs.declared.fault.FileRole.TheVariants as role

abbrev pub journal_wanted : Bool → Wanted
journal_wanted second = record { id = None; columns = journal_columns second; most = MOST_ENTRIES }

-- what passed a test, or the fault of the row
abbrev pub unless : {T : Type 0} → Bool → Fault → T → Result T Fault
unless true f x = Ok x
unless false f x = Err f

-- the number of a row is its own
abbrev pub numbered : ℕ → List ℕ → Result (List ℕ) Fault
numbered number text = unless (bytes_eq text (decimal number)) (fault.BadNumber number) text

-- its day is a civil date, and not before that of an earlier entry
abbrev pub dated : List Entry → ℕ → List ℕ → Result ℤ Fault
dated done number text =
    and_then (or_fault (fault.BadDate number) (iso_day text)) (λ date.
    unless (is_not_before done date) (fault.DateBack role.Journal number) date)

-- it has a reviewer
abbrev pub signed : ℕ → List ℕ → Result (List ℕ) Fault
signed number [] = Err (fault.EmptyReviewer number)
signed number (byte ∷ bytes) = Ok (byte ∷ bytes)

-- its step may stand after the earlier entries
abbrev pub fitting : List Entry → ℕ → Entry → Result Entry Fault
fitting done number e = unless (fits_after done e) (fault.BadStep number) e

-- the entry of a row: its number, date, reviewer, ids, verdict and step are tested in this order
unfoldable pub entry_in : List Record → List Record → List Entry → ℕ → Written → Result Entry Fault
entry_in a b done number w =
    and_then (numbered number w.number) (λ text.
    and_then (dated done number w.date) (λ date.
    and_then (signed number w.reviewer) (λ reviewer.
    and_then (pair_in role.Journal number w.id_a w.id_b a b) (λ at.
    and_then (or_fault (fault.BadVerdict role.Journal number) (verdict_named w.verdict)) (λ verdict.
    and_then (or_fault (fault.BadStep number) (step_named w.step)) (λ step.
    fitting done number (record { date = date; reviewer = reviewer; step = step; a = at.a; b = at.b; verdict = verdict })))))))

-- the entries with those of the rows that are left; the first row with a fault decides
abbrev pub entries_read : Bool → List Record → List Record → List Entry → List TableRow → Result (List Entry) Fault
entries_read second a b = each_read (λ done number (row : TableRow). entry_in a b done number (written_in second row.fields))

-- the journal in the records of a file of a version
abbrev pub journal_under : Bool → List Record → List Record → List (List (List ℕ)) → Result (List Entry) Fault
journal_under second a b records = and_then (table_of role.Journal (journal_wanted second) records) (entries_read second a b [])

-- the journal in a file: one of no bytes has no entries, and one whose header has the column `step` is of the second version
abbrev pub journal_in : List Record → List Record → List ℕ → Result (List Entry) Fault
journal_in a b [] = Ok []
journal_in a b (byte ∷ bytes) =
    journal_under (header_has (codes "step") (records_in 44 (byte ∷ bytes))) a b (records_in 44 (byte ∷ bytes))

-- an entry that a journal of these entries may have next
pub record CanFollow (done : List Entry) (e : Entry) : Type 0 where
  pub day : IsDay e.date
  pub not_back : is_not_before done e.date ≡ true
  pub reviewer : IsReviewer e.reviewer
  pub fits : fits_after done e ≡ true

-- The text of a journal, which is of the second version (`journal_text`, its lone clause). The law `read_again` says that it
-- reads as the journal.

-- the fields of an entry, with its number and its date as texts
abbrev pub fields_with : List ℕ → List ℕ → List Record → List Record → Entry → List (List ℕ)
fields_with number date a b e =
    number ∷ date ∷ e.reviewer ∷ step_word e.step ∷ id_at a e.a ∷ id_at b e.b ∷ verdict_word e.verdict ∷ []

-- the fields of an entry, which is numbered from 1
abbrev pub entry_fields : List Record → List Record → ℕ × Entry → List (List ℕ)
entry_fields a b at = fields_with (decimal (at.0 + 1)) (text_of_day at.1.date) a b at.1

abbrev pub entry_line : List Record → List Record → ℕ × Entry → List ℕ
entry_line a b at = row_text default_writer (entry_fields a b at)

-- a header, and a line for each entry
abbrev pub text_of_journal : List Record → List Record → List Entry → List ℕ
text_of_journal a b entries =
    row_text default_writer (journal_columns true) ++ flat_map (entry_line a b) (enumerate_from 0 entries)

-- an id as a table has it: some bytes of UTF-8, and not too many
pub record IsIdText (r : Record) : Type 0 where
  pub some : 1 ≤ length r.id
  pub few : length r.id ≤ MOST_FIELD_BYTES
  pub text : IsUtf8 r.id

-- the ids of a file as a table has them: such texts, and no two the same
pub record HasIds (file : List Record) : Type 0 where
  pub texts : All IsIdText file
  pub distinct : HaveDistinctIds file
