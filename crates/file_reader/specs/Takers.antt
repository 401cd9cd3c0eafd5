-- What takes the rows of a table one by one as they are read (`RowTaker`), and a table whose rows went to it (`read_rows`,
-- clause `answer`; what every table keeps: law `sound_table`).
use Rattle.link_base.specs.Words.{Refuses, and_then, refuses_then}
use Rattle.link_base.specs.declared.fault.Fault.{Fault}
use Rattle.file_reader.specs.Rows.{Wanted, known_ids, rows_in, TableRow, with_ids}
use Rattle.file_reader.specs.Table.{HasDistinctIds, HasTexts, HasWantedIds, HasWidth}
use Rattle.file_reader.specs.declared.taker.TableIds.{TableIds}
use Rattle.std.proofs.Common.{◌+◌, ◌∷◌, ◌++◌, ◌∙◌, suc, [], drop, get_or, sym, ap, arith, drop-cons, ◌≡◌, ◌≤◌, ◌<◌, ◌*◌, ℕ, Bool, List, length, Result, Ok, Err}

-- fewer rows than so many were taken
abbrev pub HasRoom : (List (List (List ℕ)) → Type 0) → ℕ → Type 0
HasRoom took most = (rows : List (List (List ℕ))) × took rows × (length rows < most)

-- rows were taken, as many as are told and no more than are wanted, and with the ids that are told they are the table; a file without ids has none
pub record IsTaken (has_id : Bool) (most : ℕ) (took : List (List (List ℕ)) → Type 0) (expected : Result (List TableRow) Fault) (ids : List (List ℕ)) (count : ℕ) : Type 0 where
  pub rows : List (List (List ℕ))
  pub taken : took rows
  pub as_many : length rows ≡ count
  pub few : count ≤ most
  pub known : ids ≡ known_ids has_id (with_ids rows ids)
  pub table : expected ≡ Ok (with_ids rows ids)

-- the rows of the table that is defined were taken, or its fault is told, but for want of memory
abbrev pub ReadsInto : Bool → ℕ → (List (List (List ℕ)) → Type 0) → Result (List TableRow) Fault → Result TableIds Fault → Type 0
ReadsInto has_id most took expected (Ok told) = IsTaken has_id most took expected told.ids told.rows
ReadsInto has_id most took expected (Err f) = Refuses expected f

-- what holds of each table that is read: as many texts in each row as columns are wanted, and where an id is wanted,
-- one for each row, and no two the same
pub record IsTableFor (wanted : Wanted) (table : List TableRow) : Type 0 where
  pub few : length table ≤ wanted.most
  pub width : HasWidth wanted table
  pub texts : HasTexts table
  pub ids : HasWantedIds wanted table
  pub distinct : HasDistinctIds wanted table

-- machinery of the reader: rows of so many cells each are kept side by side
pub record HasCells (width : ℕ) (cells : List (List ℕ)) (rows : List (List (List ℕ))) : Type 0 where
  pub whole : length cells ≡ length rows * width
  pub rows_of : rows_in (length rows) width cells ≡ rows

-- What the rows of a table give one by one, each by its number and after those before it, and its laws: a row that was read, and one at
-- fault. The readers of a sample, of a journal and of new verdicts are such (`count_sample_over`, `read_journal` and `read_verdicts`, clause
-- `answer`).

-- what rows give; the first row with a fault decides
abbrev pub each_read : {R E : Type 0} → (List E → ℕ → R → Result E Fault) → List E → List R → Result (List E) Fault
each_read one done [] = Ok done
each_read one done (row ∷ rows) = and_then (one done (length done + 1) row) (λ e. each_read one (done ++ e ∷ []) rows)

module _ {R E : Type 0} (one : List E → ℕ → R → Result E Fault) (rows : List R) (none : R) where
  -- law: a row that was read
  pub row_taken : (done new : List E) (at : ℕ) (e : E) → at < length rows → length done ≡ at → one done (at + 1) (get_or rows at none) ≡ Ok e
      → new ≡ done ++ e ∷ [] → each_read one done (drop at rows) ≡ each_read one new (drop (at + 1) rows)
  row_taken done new at e within count told is_new =
      let one_more : suc at ≡ at + 1 = omega arith in
      ap (each_read one done) (drop-cons rows at none within)
      ∙ ap (λ n. and_then (one done (n + 1) (get_or rows at none)) (λ x. each_read one (done ++ x ∷ []) (drop (suc at) rows))) count
      ∙ ap (λ (r : Result E Fault). and_then r (λ x. each_read one (done ++ x ∷ []) (drop (suc at) rows))) told
      ∙ (λ i. each_read one (sym is_new i) (drop (one_more i) rows))

  -- law: a row at fault
  pub row_refused : (done : List E) (at : ℕ) (f : Fault) → at < length rows → length done ≡ at → Refuses (one done (at + 1) (get_or rows at none)) f
      → Refuses (each_read one done (drop at rows)) f
  row_refused done at f within count h =
      rw (drop-cons rows at none within, count) (refuses_then (one done (at + 1) (get_or rows at none)) (λ e. each_read one (done ++ e ∷ []) (drop (suc at) rows)) f h)
