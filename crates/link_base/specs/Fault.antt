-- The exit statuses and texts of the faults (`push_fault`, clause `text`), and answers that may be refused by one (every clause `answer`).
use Rattle.std.specs.Prelude.{Bool, true, false, Option, Some, None, Result, ℕ, List, ◌++◌, codes, decimal}
use Rattle.link_base.specs.Answers.{GivesBut, RefusesBut}
use Rattle.link_base.specs.declared.fault.Fault.{Fault}
use Rattle.link_base.specs.declared.fault.Fault.TheVariants as fault
use Rattle.link_base.specs.declared.fault.FileRole.{FileRole}
use Rattle.link_base.specs.declared.fault.FileRole.TheVariants as role

-- the exit status of a fault
abbrev pub fault_status : Fault → ℕ
fault_status fault.NotToml = 3
fault_status (fault.UnknownKey key) = 3
fault_status (fault.MissingKey key) = 3
fault_status (fault.WrongType key) = 3
fault_status (fault.OutOfRange key) = 3
fault_status (fault.NoHeader r) = 4
fault_status (fault.RepeatedColumn r column) = 4
fault_status (fault.NoColumn r column) = 4
fault_status (fault.Ragged r row) = 4
fault_status (fault.NotUtf8 r row column) = 4
fault_status (fault.EmptyId r row) = 4
fault_status (fault.RepeatedId r row first) = 4
fault_status (fault.BadValue r row field) = 4
fault_status (fault.BadStatus row) = 4
fault_status (fault.UnknownId r row column) = 4
fault_status (fault.RepeatedPair row first) = 4
fault_status fault.NoMatched = 4
fault_status fault.NoUnmatched = 4
fault_status (fault.BadNumber row) = 4
fault_status (fault.BadDate row) = 4
fault_status (fault.DateBack r row) = 4
fault_status (fault.EmptyReviewer row) = 4
fault_status (fault.BadVerdict r row) = 4
fault_status (fault.BadStep row) = 4
fault_status (fault.BadCapacity row) = 4
fault_status (fault.NotPossible row) = 4
fault_status (fault.TooManyColumns r count limit) = 5
fault_status (fault.TooManyRows r limit) = 5
fault_status (fault.FieldTooLong r row column) = 5
fault_status (fault.PoolFull used limit) = 5
fault_status (fault.TooManyPairs limit) = 5
fault_status (fault.TooManyEntries limit) = 5
fault_status (fault.FileTooLong r limit) = 5
fault_status fault.NoMemory = 8

-- a file, as the line of a fault names it
abbrev pub role_name : FileRole → List ℕ
role_name role.Settings = codes "settings"
role_name role.A = codes "a"
role_name role.B = codes "b"
role_name role.Sample = codes "sample"
role_name role.Journal = codes "journal"
role_name role.Verdicts = codes "verdicts"
role_name role.Rule = codes "rule"
role_name role.Links = codes "links"
role_name role.Prices = codes "prices"
role_name role.Capacities = codes "capacities"

-- a row of a file, as a line names it
abbrev pub row_name : List ℕ → ℕ → List ℕ
row_name file row = file ++ codes ": row " ++ decimal row ++ codes ": "

-- the text of a fault
abbrev pub fault_text : Fault → List ℕ
fault_text fault.NotToml = codes "settings: not TOML"
fault_text (fault.UnknownKey key) = codes "settings: unknown key " ++ key
fault_text (fault.MissingKey key) = codes "settings: missing key " ++ key
fault_text (fault.WrongType key) = codes "settings: wrong type at " ++ key
fault_text (fault.OutOfRange key) = codes "settings: out of range at " ++ key
fault_text (fault.NoHeader r) = role_name r ++ codes ": no header"
fault_text (fault.RepeatedColumn r column) = role_name r ++ codes ": column " ++ column ++ codes " stands twice"
fault_text (fault.NoColumn r column) = role_name r ++ codes ": no column " ++ column
fault_text (fault.TooManyColumns r count limit) =
    role_name r ++ codes ": " ++ decimal count ++ codes " columns, limit " ++ decimal limit
fault_text (fault.TooManyRows r limit) = role_name r ++ codes ": more than " ++ decimal limit ++ codes " rows"
fault_text (fault.Ragged r row) = row_name (role_name r) row ++ codes "number of fields"
fault_text (fault.NotUtf8 r row column) = row_name (role_name r) row ++ column ++ codes " is not UTF-8"
fault_text (fault.FieldTooLong r row column) = row_name (role_name r) row ++ column ++ codes " is over 255 bytes"
fault_text (fault.EmptyId r row) = row_name (role_name r) row ++ codes "empty id"
fault_text (fault.RepeatedId r row first) = row_name (role_name r) row ++ codes "id of row " ++ decimal first
fault_text (fault.BadValue r row field) = row_name (role_name r) row ++ field ++ codes " is no date"
fault_text (fault.PoolFull used limit) = codes "values: " ++ decimal used ++ codes " bytes, limit " ++ decimal limit
fault_text (fault.BadStatus row) = row_name (codes "sample") row ++ codes "status"
fault_text (fault.UnknownId r row column) = row_name (role_name r) row ++ codes "unknown " ++ column
fault_text (fault.RepeatedPair row first) = row_name (codes "sample") row ++ codes "pair of row " ++ decimal first
fault_text fault.NoMatched = codes "sample: no matched pair"
fault_text fault.NoUnmatched = codes "sample: no unmatched pair"
fault_text (fault.TooManyPairs limit) = codes "pairs: more than " ++ decimal limit
fault_text (fault.BadNumber row) = row_name (codes "journal") row ++ codes "number"
fault_text (fault.BadDate row) = row_name (codes "journal") row ++ codes "date"
fault_text (fault.DateBack r row) = row_name (role_name r) row ++ codes "date goes back"
fault_text (fault.EmptyReviewer row) = row_name (codes "journal") row ++ codes "no reviewer"
fault_text (fault.BadVerdict r row) = row_name (role_name r) row ++ codes "verdict"
fault_text (fault.BadStep row) = row_name (codes "journal") row ++ codes "step"
fault_text (fault.BadCapacity row) = row_name (codes "capacities") row ++ codes "capacity"
fault_text (fault.TooManyEntries limit) = codes "journal: more than " ++ decimal limit ++ codes " entries"
fault_text (fault.NotPossible row) = row_name (codes "verdicts") row ++ codes "not a possible pair"
fault_text (fault.FileTooLong r limit) = role_name r ++ codes ": more than " ++ decimal limit ++ codes " bytes"
fault_text fault.NoMemory = codes "want of memory"

-- the first of two faults, where there is one
abbrev pub or_else : Option Fault → Option Fault → Option Fault
or_else None next = next
or_else (Some f) next = Some f

-- want of memory is the one free answer: no clause ties it to a cause
abbrev pub is_want : Fault → Bool
is_want fault.NoMemory = true
is_want f = false

-- a refusal is the one that is defined, but for want of memory
abbrev pub Refuses : {T : Type 0} → Result T Fault → Fault → Type 0
Refuses expected f = RefusesBut is_want expected f

-- an answer, seen by `view`, is the one that is defined, but for want of memory
abbrev pub Gives : {X T : Type 0} → (X → T) → Result T Fault → Result X Fault → Type 0
Gives view expected result = GivesBut is_want view expected result

-- an answer is the one that is defined, but for want of memory
abbrev pub IsAnswer : {T : Type 0} → Result T Fault → Result T Fault → Type 0
IsAnswer expected result = Gives (λ x. x) expected result
