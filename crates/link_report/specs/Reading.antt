-- The rows of a written file, read again: what `read_rows` gives (clause `rows`). The law
-- `texts_read_again` says that they give the rows of the texts that are written.
use Rattle.std.specs.Prelude.{◌==◌, ◌+◌, ◌<◌, ◌^◌, ℕ, Bool, List, [], ◌∷◌, ◌++◌, ℤ, bytes_eq, codes, filter, if◌then◌else◌, IfSome, length, map, Option, Some, None, Result, Ok, Err, zip, ⊤}
use Rattle.std.specs.Cmp.Lexicographic.{pointwise}
use Rattle.link_base.specs.Words.{Record}
use Rattle.link_report.specs.LinksText.{is_priced, price_fields}
use Rattle.link_report.specs.declared.reading.ReadRows.{ReadRows}
use Rattle.link_report.specs.declared.reading.ReadRows.TheVariants.{Rows, Bad}
use Rattle.std.proofs.Common.{◌≡◌, suc, true, All, arith, refl}
use Rattle.std.proofs.lemmas.Slice.Eq.{bytes_eq-Decides, slice_eq-Decides}

-- two rows have the same fields
abbrev pub same_row : List (List ℕ) → List (List ℕ) → Bool
same_row = pointwise bytes_eq

-- the first of the rows, numbered from `number` on, that has not so many fields
abbrev pub first_misfit : ℕ → ℕ → List (List (List ℕ)) → Option ℕ
first_misfit width number [] = None
first_misfit width number (row ∷ rows) = if length row == width then first_misfit width (number + 1) rows else Some number

-- the rows, or the number of one at fault
abbrev pub unless_at : List (List (List ℕ)) → Option ℕ → Result (List (List (List ℕ))) ℕ
unless_at rows None = Ok rows
unless_at rows (Some number) = Err number

-- the rows under a header, or the number of the first record at fault: 0 for a header that is another or none, and else the first row
-- that has not as many fields as the header
abbrev pub rows_under : List (List ℕ) → List (List (List ℕ)) → Result (List (List (List ℕ))) ℕ
rows_under header [] = Err 0
rows_under header (first ∷ rows) = if same_row first header then unless_at rows (first_misfit (length header) 1 rows) else Err 0

-- the rows after a header, whatever their form, where the first record is that header (`rows_begun`)
abbrev pub rows_begun : List (List ℕ) → List (List (List ℕ)) → Option (List (List (List ℕ)))
rows_begun header [] = None
rows_begun header (first ∷ rows) = if same_row first header then Some rows else None

-- what was read
abbrev pub shown_rows : ReadRows → Result (List (List (List ℕ))) ℕ
shown_rows (Rows rows) = Ok rows
shown_rows (Bad row) = Err row

-- rows whose numbers fit into 32 bits, and one more (clause `few`)
abbrev pub HasFewRows : ReadRows → Type 0
HasFewRows (Rows rows) = length rows + 1 < 2 ^ 32
HasFewRows (Bad row) = ⊤

abbrev pub HaveFewBegun : Option (List (List (List ℕ))) → Type 0
HaveFewBegun begun = IfSome begun (λ rows. length rows + 1 < 2 ^ 32)

-- the rows of the prices of a side, and of both sides
abbrev pub side_rows : List ℕ → List ℤ → List Record → List (List (List ℕ))
side_rows side prices file = map (price_fields side) (filter is_priced (zip prices file))

abbrev pub rows_of_prices : List ℤ → List ℤ → List Record → List Record → List (List (List ℕ))
rows_of_prices prices_a prices_b a b = side_rows (codes "A") prices_a a ++ side_rows (codes "B") prices_b b

-- Laws of rows that are read again: two are the same exactly where the test says so, and those of one width have no misfit. Proofs of the
-- crates above cite them.

-- rows have the same fields exactly where the test says so
pub row_same : (x y : List (List ℕ)) → same_row x y ≡ true → x ≡ y
row_same x y e = (slice_eq-Decides bytes_eq-Decides x y (same_row x y) refl).0 e

pub same_itself : (x : List (List ℕ)) → same_row x x ≡ true
same_itself x = (slice_eq-Decides bytes_eq-Decides x x (same_row x x) refl).1 refl

-- rows of one width have no misfit
pub fits : (width n : ℕ) (rows : List (List (List ℕ))) → All (λ (r : List (List ℕ)). length r ≡ width) rows → first_misfit width n rows ≡ None
fits width n [] all = refl
fits width n (row ∷ rows) all =
    let here : length row ≡ width = all 0 [] (omega arith) in
    rw here (rw (eq_itself width) (fits width (n + 1) rows (λ k d lt. all (suc k) d (omega arith))))
  where
    eq_itself : (m : ℕ) → (m == m) ≡ true
    eq_itself m = grind arith
