-- The new verdicts in a file, or its first fault: of the table, then row by row (`read_verdicts`, clause `answer`).
use Rattle.std.specs.Prelude.{ℕ, List, [], ◌∷◌, ◌<◌, codes, slice_index_or, None, Result, Ok, ◌≡◌, ◌+◌, ◌-◌, ◌++◌, ◌==◌, ◌&&◌, ℤ, int_le, Bool, not, length, nat_lt, option_map, position, slice_get, Option, Some, Err, if◌then◌else◌, filter}
use Rattle.file_reader.specs.Words.{records_in, table_of, or_fault, pair_in, each_read, Wanted, TableRow}
use Rattle.link_limits.specs.declared.TheConstants.{MOST_ROWS, MOST_ENTRIES}
use Rattle.link_base.specs.Words.{and_then, Record, or_else, Refuses}
use Rattle.link_base.specs.declared.fault.Fault.{Fault}
use Rattle.review_journal.specs.declared.batch.NewVerdict.{NewVerdict}
use Rattle.review_journal.specs.Rows.{verdict_named}
use Rattle.std.specs.List.{list_all, list_any}
use Rattle.link_base.specs.declared.rule.PairAt.{PairAt}
use Rattle.review_journal.specs.Verdict.{confirms_in, step_by}
use Rattle.review_journal.specs.declared.entry.Entry.{Entry}
use Rattle.link_base.specs.declared.fault.Fault.TheVariants as fault
use Rattle.link_base.specs.declared.fault.FileRole.TheVariants as role

abbrev pub verdicts_wanted : Wanted
verdicts_wanted = record { id = None; columns = codes "id_a" ∷ codes "id_b" ∷ codes "verdict" ∷ []; most = MOST_ROWS }

-- the new verdict of a row: its ids are tested first
unfoldable pub verdict_in : List Record → List Record → ℕ → List (List ℕ) → Result NewVerdict Fault
verdict_in a b number fields =
    and_then (pair_in role.Verdicts number (slice_index_or fields 0 []) (slice_index_or fields 1 []) a b) (λ at.
    and_then (or_fault (fault.BadVerdict role.Verdicts number) (verdict_named (slice_index_or fields 2 []))) (λ verdict.
    Ok (record { a = at.a; b = at.b; verdict = verdict })))

-- the verdicts with those of the rows that are left; the first row with a fault decides
abbrev pub verdicts_read : List Record → List Record → List NewVerdict → List TableRow → Result (List NewVerdict) Fault
verdicts_read a b = each_read (λ done number (row : TableRow). verdict_in a b number row.fields)

-- the new verdicts in a file
abbrev pub verdicts_of : List Record → List Record → List ℕ → Result (List NewVerdict) Fault
verdicts_of a b bytes = and_then (table_of role.Verdicts verdicts_wanted (records_in 44 bytes)) (verdicts_read a b [])

-- its positions are of records in files of so many
pub record NamesRecords (rows_a rows_b : ℕ) (v : NewVerdict) : Type 0 where
  pub in_a : v.a < rows_a
  pub in_b : v.b < rows_b

-- A batch of new verdicts added to a journal, or why it is not (`Journal::add`, clause `answer`).

-- the entry of a new verdict after these entries
abbrev pub entry_after : Bool → ℤ → List ℕ → List Entry → NewVerdict → Entry
entry_after double date reviewer entries v = record {
  date = date;
  reviewer = reviewer;
  step = step_by double v.verdict (confirms_in entries reviewer v.a v.b v.verdict);
  a = v.a;
  b = v.b;
  verdict = v.verdict;
}

-- the entries with one for each new verdict, in order
abbrev pub with_verdicts : Bool → ℤ → List ℕ → List Entry → List NewVerdict → List Entry
with_verdicts double date reviewer entries [] = entries
with_verdicts double date reviewer entries (v ∷ vs) =
    with_verdicts double date reviewer (entries ++ entry_after double date reviewer entries v ∷ []) vs

-- the day of the last entry
abbrev pub last_date : List Entry → Option ℤ
last_date entries = option_map (λ (e : Entry). e.date) (slice_get entries (length entries - 1))

-- a day is not before that of any entry; the last one's is the latest (`Journal::last_date`)
abbrev pub is_not_before : List Entry → ℤ → Bool
is_not_before entries date = list_all (λ (e : Entry). int_le e.date date) entries

abbrev pub is_among : List PairAt → NewVerdict → Bool
is_among possible v = list_any (λ (at : PairAt). (at.a == v.a) && (at.b == v.b)) possible

-- too many entries, a day before that of the last entry, and the first verdict on a pair that is no possible link
abbrev pub entries_fault : List Entry → List NewVerdict → Option Fault
entries_fault entries batch = if nat_lt MOST_ENTRIES (length entries + length batch) then Some (fault.TooManyEntries MOST_ENTRIES) else None

abbrev pub date_back_fault : List Entry → List NewVerdict → ℤ → Option Fault
date_back_fault entries [] date = None
date_back_fault entries (v ∷ vs) date = if is_not_before entries date then None else Some (fault.DateBack role.Verdicts 1)

abbrev pub not_possible_fault : Option ℕ → Option Fault
not_possible_fault None = None
not_possible_fault (Some place) = Some (fault.NotPossible (place + 1))

abbrev pub pair_fault : List NewVerdict → List PairAt → Option Fault
pair_fault batch possible = not_possible_fault (position (λ v. not (is_among possible v)) batch)

-- a value, where there is no fault
abbrev pub ok_unless : {A : Type 0} → Option Fault → A → Result A Fault
ok_unless None x = Ok x
ok_unless (Some f) x = Err f

-- the first fault of a batch
abbrev pub batch_fault : List Entry → List NewVerdict → ℤ → List PairAt → Option Fault
batch_fault entries batch date possible =
    or_else (entries_fault entries batch) (or_else (date_back_fault entries batch date) (pair_fault batch possible))

-- the entries of a journal after a batch, or the first fault of the batch
abbrev pub added : Bool → ℤ → List ℕ → List PairAt → List Entry → List NewVerdict → Result (List Entry) Fault
added double date reviewer possible entries batch =
    ok_unless (batch_fault entries batch date possible) (with_verdicts double date reviewer entries batch)

-- a journal after a batch has the entries that are expected, or it is as it was, and the fault is the expected one
abbrev pub IsAdded : {T : Type 0} → Result (List Entry) Fault → List Entry → List Entry → Result T Fault → Type 0
IsAdded expected old new (Ok done) = expected ≡ Ok new
IsAdded expected old new (Err f) = Refuses expected f × (new ≡ old)

-- The idle entries of a journal: those on no possible link (`idle_entries`, its lone clause).

-- the pair of an entry is none of the possible links
abbrev pub is_idle : List PairAt → Entry → Bool
is_idle possible e = not (list_any (λ (at : PairAt). (at.a == e.a) && (at.b == e.b)) possible)

abbrev pub idle_count : List PairAt → List Entry → ℕ
idle_count possible entries = length (filter (is_idle possible) entries)
