-- The reader of the records, which the clauses of `Records` see as the records that it has left: how it stands, and why it
-- can fail (`cause_of`).
use Rattle.std.specs.Prelude.{◌≡◌, ◌⊎◌, ◌+◌, ℕ, List, [], length, true, if◌then◌else◌, Option, Some, None, IsSome, ⊤, ◌≤◌, ◌∷◌, ◌++◌, Bool, Result, Ok, Err, IsAscii}
use Rattle.csv.specs.Reading.{Ready, is_flexible, reader_config, reader_state, reader_trim, records_from, source_of}
use Rattle.csv.specs.declared.error.ErrorKind.{ErrorKind}
use Rattle.csv.specs.declared.parser.Config.{Config}
use Rattle.csv.specs.declared.parser.State.{State}
use Rattle.file_reader.specs.declared.records.Records.TheInside.{Inside}
use Rattle.link_base.specs.Words.{Refuses}
use Rattle.link_base.specs.declared.fault.Fault.{Fault}
use Rattle.file_reader.specs.Rows.{Heading, known_ids, TableRow, with_ids}
use Rattle.file_reader.specs.Table.{rows_read, taken}
use Rattle.file_reader.specs.Takers.{IsTaken}
use Rattle.link_limits.specs.declared.TheConstants.{MOST_FIELD_BYTES}
use Rattle.csv.specs.declared.error.ErrorKind.TheVariants as kind
use Rattle.csv.specs.declared.parser.State.TheVariants as st
use Rattle.csv.specs.declared.reader.Trim.TheVariants as trim
use Rattle.link_base.specs.declared.fault.Fault.TheVariants as fault

-- the records from a state, where the bytes are known
abbrev pub records_unread : Config → State → Option (List ℕ) → List (List (List ℕ))
records_unread cfg s None = []
records_unread cfg s (Some bytes) = records_from cfg (length bytes + 1) s bytes

-- the bytes that a reader has left
abbrev pub bytes_left : Inside → Option (List ℕ)
bytes_left r = source_of (λ s. Some s.now) r.reader

abbrev pub records_left : Inside → List (List (List ℕ))
records_left r = if r.done then [] else records_unread (reader_config r.reader) (reader_state r.reader) (bytes_left r)

-- a state between two records
abbrev pub IsBetweenRecords : State → Type 0
IsBetweenRecords s = (s ≡ st.StartRecord) ⊎ (s ≡ st.AfterCr)

-- a reader between two records: it trims nothing, and takes records of any length
pub record IsGoing (r : Inside) : Type 0 where
  pub flexible : is_flexible r.reader ≡ true
  pub plain : reader_trim r.reader ≡ trim.None
  pub ready : Ready r.reader
  pub between : IsBetweenRecords (reader_state r.reader)
  pub known : IsSome (bytes_left r)

abbrev pub IsReading : Inside → Type 0
IsReading r = (r.done ≡ true) ⊎ IsGoing r

-- want of memory, or an error of what the bytes come from: the kit says no cause of the second, and a slice has none
abbrev pub IsOfMemory : ErrorKind → Type 0
IsOfMemory kind.OutOfMemory = ⊤
IsOfMemory (kind.Io e) = ⊤
IsOfMemory k = ⊥

-- Machinery of the reader: an id that is kept (`keep_id`), a row that is taken (`take_row`), and the rows that go to a taker
-- (`fill_rows`). No public clause names it.

-- the ids after a row's
abbrev pub ids_after : Bool → List (List ℕ) → List ℕ → List (List ℕ)
ids_after has_id ids id = if has_id then ids ++ id ∷ [] else ids

-- an id is kept, or it has the fault that is defined
abbrev pub KeepsId : {T : Type 0} → Option Fault → List ℕ → List (List ℕ) → List (List ℕ) → Result T Fault → Type 0
KeepsId expected id old new (Ok x) = (expected ≡ None) × (new ≡ old ++ id ∷ [])
KeepsId expected id old new (Err fault.NoMemory) = ⊤
KeepsId expected id old new (Err f) = expected ≡ Some f

-- a row is taken and its id is kept, or it has the fault that is defined
abbrev pub TakesTableRow : {T : Type 0} → Option Fault → Heading → List (List ℕ) → List (List ℕ) → List (List ℕ) → Result T Fault → Type 0
TakesTableRow expected heading row old new (Ok x) = (expected ≡ None) × (new ≡ ids_after heading.has_id old (taken heading row).id)
TakesTableRow expected heading row old new (Err fault.NoMemory) = ⊤
TakesTableRow expected heading row old new (Err f) = expected ≡ Some f

-- the rows of a table were taken beside these ids and counted, or its fault is told
abbrev pub FillsRows : Bool → ℕ → (List (List (List ℕ)) → Type 0) → Result (List TableRow) Fault → List (List ℕ) → Result ℕ Fault → Type 0
FillsRows has_id most took expected ids (Ok count) = IsTaken has_id most took expected ids count
FillsRows has_id most took expected ids (Err f) = Refuses expected f

-- the rows that were read were taken, so many beside these ids, and those that are left come after them
pub record IsUnderway (took : List (List (List ℕ)) → Type 0) (heading : Heading) (count : ℕ) (ids : List (List ℕ)) (all left : List (List (List ℕ))) : Type 0 where
  pub rows : List (List (List ℕ))
  pub taken : took rows
  pub as_many : length rows ≡ count
  pub few : count ≤ heading.most
  pub short : length ids ≤ count
  pub known : ids ≡ known_ids heading.has_id (with_ids rows ids)
  pub told : rows_read heading [] all ≡ rows_read heading (with_ids rows ids) left

-- Machinery of the reader: a field that needs no test of its own. No public clause names it.

-- a field is ASCII, and not too long
abbrev pub IsPlain : List ℕ → Type 0
IsPlain field = IsAscii field × (length field ≤ MOST_FIELD_BYTES)
