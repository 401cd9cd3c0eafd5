-- The reviewed pairs of a sample file, or its first fault: of the table, then row by row. `count_sample_over` carries it
-- (clause `answer`, by `sample_of`).
use Rattle.std.specs.Prelude.{◌≡◌, ◌+◌, ◌==◌, ◌&&◌, ◌<◌, ◌≤◌, All, ℕ, Bool, true, false, not, List, [], ◌∷◌, length, position, Option, Some, None, Result, Ok, Err, codes, bytes_eq, slice_index_or, if◌then◌else◌}
use Rattle.std.specs.List.{list_any}
use Rattle.link_limits.specs.declared.TheConstants.{MOST_ROWS}
use Rattle.link_base.specs.Words.{and_then, Record}
use Rattle.link_base.specs.declared.fault.Fault.{Fault}
use Rattle.link_base.specs.declared.fault.Fault.TheVariants as fault
use Rattle.link_base.specs.declared.fault.FileRole.TheVariants as role
use Rattle.file_reader.specs.Words.{each_read, or_fault, pair_in, Wanted, TableRow, table_of}
use Rattle.sample_counts.specs.declared.reviewed.Reviewed.{Reviewed}

-- the columns of a sample, and the most rows that it may have
abbrev pub sample_wanted : Wanted
sample_wanted = record { id = None; columns = codes "id_a" ∷ codes "id_b" ∷ codes "status" ∷ []; most = MOST_ROWS }

-- whether a status says that the pair is matched
abbrev pub is_matched_by : List ℕ → Option Bool
is_matched_by status =
    if bytes_eq status (codes "matched") then Some true
    else if bytes_eq status (codes "unmatched") then Some false
    else None

abbrev pub field_at : List (List ℕ) → ℕ → List ℕ
field_at fields k = slice_index_or fields k []

-- the pair of a row with this status: its id in A is tested first, then its id in B
abbrev pub named_pair : List Record → List Record → ℕ → List (List ℕ) → Bool → Result Reviewed Fault
named_pair a b number fields matched =
    and_then (pair_in role.Sample number (field_at fields 0) (field_at fields 1) a b) (λ at.
    Ok (record { a = at.a; b = at.b; matched = matched }))

-- the reviewed pair of a row, whose status is tested before its ids
abbrev pub reviewed_row : List Record → List Record → ℕ → List (List ℕ) → Result Reviewed Fault
reviewed_row a b number fields =
    and_then (or_fault (fault.BadStatus number) (is_matched_by (field_at fields 2))) (named_pair a b number fields)

-- a reviewed pair is the one at these positions
abbrev pub is_pair : ℕ → ℕ → Reviewed → Bool
is_pair a b r = a == r.a && b == r.b

-- a pair that none of the earlier rows names
abbrev pub unless_repeated : ℕ → Reviewed → Option ℕ → Result Reviewed Fault
unless_repeated number r None = Ok r
unless_repeated number r (Some place) = Err (fault.RepeatedPair number (place + 1))

abbrev pub new_after : List Reviewed → ℕ → Reviewed → Result Reviewed Fault
new_after done number r = unless_repeated number r (position (is_pair r.a r.b) done)

-- the pair of a row after these
abbrev pub sample_row : List Record → List Record → List Reviewed → ℕ → List (List ℕ) → Result Reviewed Fault
sample_row a b done number fields = and_then (reviewed_row a b number fields) (new_after done number)

-- the pairs with those of the rows that are left; the first row with a fault decides
abbrev pub reviewed_rows : List Record → List Record → List Reviewed → List TableRow → Result (List Reviewed) Fault
reviewed_rows a b = each_read (λ done number (row : TableRow). sample_row a b done number row.fields)

-- a sample has a matched and an unmatched pair
abbrev pub with_both : List Reviewed → Result (List Reviewed) Fault
with_both sample =
    if list_any (λ (r : Reviewed). r.matched) sample
    then (if list_any (λ (r : Reviewed). not r.matched) sample then Ok sample else Err fault.NoUnmatched)
    else Err fault.NoMatched

-- the sample in a table, and in the records of a file
abbrev pub sample_under : List Record → List Record → List TableRow → Result (List Reviewed) Fault
sample_under a b table = and_then (reviewed_rows a b [] table) with_both

abbrev pub sample_of : List Record → List Record → List (List (List ℕ)) → Result (List Reviewed) Fault
sample_of a b records = and_then (table_of role.Sample sample_wanted records) (sample_under a b)

-- machinery of the code, which no public clause names: positions of files of so many records
pub record IsInFiles (rows_a rows_b : ℕ) (r : Reviewed) : Type 0 where
  pub of_a : r.a < rows_a
  pub of_b : r.b < rows_b

-- and reviewed pairs of both kinds, at most `MOST_ROWS`
pub record IsSample (rows_a rows_b : ℕ) (sample : List Reviewed) : Type 0 where
  pub few : length sample ≤ MOST_ROWS
  pub in_files : All (IsInFiles rows_a rows_b) sample
  pub matched : list_any (λ (r : Reviewed). r.matched) sample ≡ true
  pub unmatched : list_any (λ (r : Reviewed). not r.matched) sample ≡ true
