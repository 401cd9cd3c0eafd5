-- A row whose bytes together are ASCII and not too long.
use Rattle.std.proofs.Common.{◌≡◌, ◌-◌, ◌∷◌, ℕ, zero, suc, List, [], length, get_or, take, drop, None, ap, arith, nat_lt, refl, not, ◌≤◌, ◌<◌, ◌+◌, ◌*◌, ◌++◌, ◌∙◌, Bool, true, false, Some, Ok, Err, sym, length-drop, length-take, inl, inr, min}
use Rattle.std.specs.Str.{is_utf8}
use Rattle.std.specs.Int.{bit_at, from_le_bytes, w64}
use Rattle.std.specs.Int.Bits.{bit_and}
use Rattle.std.specs.Simd.{first_chunks}
use Rattle.std.proofs.lemmas.List.{drop-drop, get_or-drop, get_or-take, get_or_past}
use Rattle.std.proofs.Math.Seq.{take-add}
use Rattle.std.proofs.lemmas.Nat.Bits.{bit_at_and, bit_at-lt, bit_at-zero, bit_at-pow_other, bit_at_above, bit_at_cat_high, bit_at_cat_low, same_from_bits}
use Rattle.std.proofs.lemmas.Bool.{cases_eq, cases_lt}
use Rattle.std.proofs.lemmas.Str.{is_utf8-from_IsUtf8, IsAscii-append, IsAscii-drop, IsAscii-take, IsUtf8-from_ascii}
use Rattle.std.specs.Str.{IsAscii}
use Rattle.std.proofs.lemmas.Str.Ascii.{IsAscii-nil}
use Rattle.csv.specs.Records.{cut_from, fields_of, Row, text_of}
use Rattle.link_limits.specs.declared.TheConstants.{MOST_FIELD_BYTES}
use Rattle.file_reader.specs.Words.{cell, Heading, ids_of, known_ids, TableRow, IsPlain, ids_after, TakesTableRow, text_fault, row_fault, rows_read, taken, none_found, length_ids}
use Rattle.file_reader.specs.declared.layout.Column.{Column}
use Rattle.file_reader.proofs.FindFacts.{no_more}
use Rattle.std.proofs.lemmas.Bool.Decides.{nat_tests}
use Rattle.link_base.specs.Words.{Refuses}
use Rattle.link_base.specs.declared.fault.Fault.{Fault}
use Rattle.link_base.specs.declared.fault.Fault.TheVariants as fault

-- eight bytes without a high bit, and many
high : (n i : ℕ) → bit_and n 0x8080_8080_8080_8080 ≡ 0 → bit_at 0x8080_8080_8080_8080 i ≡ 1 → bit_at n i ≡ 0
high n i none one = omega (arith, bit_at_and n 0x8080_8080_8080_8080 i, ap (λ m. bit_at m i) none, bit_at-zero i, one, bit_at-lt n i)

word_ascii : (xs : List ℕ) → ((k : ℕ) → get_or xs k 0 < 256) → bit_and (from_le_bytes w64 (take 8 xs)) 0x8080_8080_8080_8080 ≡ 0 → IsAscii (take 8 xs)
word_ascii xs small none k = by k
  where
    at : (i : ℕ) → i < 8 → get_or (take 8 xs) i 0 < 256
    at i lt = rw (get_or-take 8 xs i 0 lt) (small i)

    by : (k : ℕ) → get_or (take 8 xs) k 0 < 128
    by zero = omega (arith, high (from_le_bytes w64 (take 8 xs)) 7 none refl, at 0 (omega arith))
    by (suc zero) = omega (arith, high (from_le_bytes w64 (take 8 xs)) 15 none refl, at 0 (omega arith), at 1 (omega arith))
    by (suc (suc zero)) = omega (arith, high (from_le_bytes w64 (take 8 xs)) 23 none refl, at 0 (omega arith), at 1 (omega arith), at 2 (omega arith))
    by (suc (suc (suc zero))) = omega (arith, high (from_le_bytes w64 (take 8 xs)) 31 none refl, at 0 (omega arith), at 1 (omega arith), at 2 (omega arith), at 3 (omega arith))
    by (suc (suc (suc (suc zero)))) = omega (arith, high (from_le_bytes w64 (take 8 xs)) 39 none refl, at 0 (omega arith), at 1 (omega arith), at 2 (omega arith), at 3 (omega arith), at 4 (omega arith))
    by (suc (suc (suc (suc (suc zero))))) = omega (arith, high (from_le_bytes w64 (take 8 xs)) 47 none refl, at 0 (omega arith), at 1 (omega arith), at 2 (omega arith), at 3 (omega arith), at 4 (omega arith), at 5 (omega arith))
    by (suc (suc (suc (suc (suc (suc zero)))))) = omega (arith, high (from_le_bytes w64 (take 8 xs)) 55 none refl, at 0 (omega arith), at 1 (omega arith), at 2 (omega arith), at 3 (omega arith), at 4 (omega arith), at 5 (omega arith), at 6 (omega arith))
    by (suc (suc (suc (suc (suc (suc (suc zero))))))) = omega (arith, high (from_le_bytes w64 (take 8 xs)) 63 none refl, at 0 (omega arith), at 1 (omega arith), at 2 (omega arith), at 3 (omega arith), at 4 (omega arith), at 5 (omega arith), at 6 (omega arith), at 7 (omega arith))
    by (suc (suc (suc (suc (suc (suc (suc (suc k)))))))) = omega (arith, get_or_past (take 8 xs) (suc (suc (suc (suc (suc (suc (suc (suc k)))))))) 0 (omega (arith, length-take 8 xs)))

-- a byte more of a word: one below 128 adds no high bit
low_byte : (n m b : ℕ) → b < 128 → bit_and n m ≡ 0 → bit_and (n * 256 + b) (m * 256 + 128) ≡ 0
low_byte n m b lt none = same_from_bits (bit_and (n * 256 + b) (m * 256 + 128)) 0 (λ i. bit_at_and (n * 256 + b) (m * 256 + 128) i ∙ by i ∙ sym (bit_at-zero i))
  where
    last : (i : ℕ) → min (bit_at b i) (bit_at 128 i) ≡ 0
    last i =
        elim (cases_eq i 7) [
          | inl same ↦ rw (same, bit_at_above b 7 7 lt (omega arith)) refl
          | inr other ↦ omega (arith, bit_at-pow_other 7 i other)
        ]

    by : (i : ℕ) → min (bit_at (n * 256 + b) i) (bit_at (m * 256 + 128) i) ≡ 0
    by i =
        elim (cases_lt i 8) [
          | inl less ↦ (λ j. min (bit_at_cat_low n 8 b i less j) (bit_at_cat_low m 8 128 i less j)) ∙ last i
          | inr more ↦
              (λ j. min (bit_at_cat_high n 8 b i (omega arith) more j) (bit_at_cat_high m 8 128 i (omega arith) more j))
              ∙ sym (bit_at_and n m (i - 8)) ∙ ap (λ k. bit_at k (i - 8)) none ∙ bit_at-zero (i - 8)
        ]

-- eight such bytes
low_word : (a b c d e f g h : ℕ) → a < 128 → b < 128 → c < 128 → d < 128 → e < 128 → f < 128 → g < 128 → h < 128
    → bit_and (((((((h * 256 + g) * 256 + f) * 256 + e) * 256 + d) * 256 + c) * 256 + b) * 256 + a) 0x8080_8080_8080_8080 ≡ 0
low_word a b c d e f g h la lb lc ld le lf lg lh =
    let alone : 0 * 256 + h ≡ h = omega arith in
    let first : bit_and h 0x80 ≡ 0 = ap (λ n. bit_and n 0x80) (sym alone) ∙ low_byte 0 0 h lh refl in
    low_byte _ 0x80_8080_8080_8080 a la (low_byte _ 0x8080_8080_8080 b lb (low_byte _ 0x80_8080_8080 c lc (low_byte _ 0x8080_8080 d ld (
    low_byte _ 0x80_8080 e le (low_byte _ 0x8080 f lf (low_byte h 0x80 g lg first))))))

word_plain : (xs : List ℕ) → IsAscii (take 8 xs) → bit_and (from_le_bytes w64 (take 8 xs)) 0x8080_8080_8080_8080 ≡ 0
word_plain xs plain =
    let ys = take 8 xs in
    let at : ℕ → ℕ = λ i. get_or ys i 0 in
    let same : from_le_bytes w64 ys ≡ ((((((at 7 * 256 + at 6) * 256 + at 5) * 256 + at 4) * 256 + at 3) * 256 + at 2) * 256 + at 1) * 256 + at 0 = omega arith in
    ap (λ n. bit_and n 0x8080_8080_8080_8080) same
    ∙ low_word (at 0) (at 1) (at 2) (at 3) (at 4) (at 5) (at 6) (at 7) (plain 0) (plain 1) (plain 2) (plain 3) (plain 4) (plain 5) (plain 6) (plain 7)

chunk : (n i : ℕ) (xs : List ℕ) → i < n → get_or (first_chunks 8 n xs) i [] ≡ take 8 (drop (i * 8) xs)
chunk zero i xs lt = absurd (omega arith)
chunk (suc n) zero xs lt = refl
chunk (suc n) (suc i) xs lt =
    let next : 8 + i * 8 ≡ suc i * 8 = omega arith in
    chunk n i (drop 8 xs) (omega arith) ∙ ap (take 8) (drop-drop (i * 8) 8 xs ∙ ap (λ m. drop m xs) next)

pub words_more : (n i : ℕ) (xs : List ℕ) → i < n → ((k : ℕ) → get_or xs k 0 < 256) → bit_and (from_le_bytes w64 (get_or (first_chunks 8 n xs) i [])) 0x8080_8080_8080_8080 ≡ 0
    → IsAscii (take (i * 8) xs) → IsAscii (take ((i + 1) * 8) xs)
words_more n i xs lt small none told =
    let here = word_ascii (drop (i * 8) xs) (λ k. rw (get_or-drop (i * 8) xs k 0) (small (i * 8 + k))) (ap (λ w. bit_and (from_le_bytes w64 w) 0x8080_8080_8080_8080) (sym (chunk n i xs lt)) ∙ none) in
    let next : (i + 1) * 8 ≡ i * 8 + 8 = omega arith in
    rw (next, take-add (i * 8) 8 xs) (IsAscii-append (take (i * 8) xs) (take 8 (drop (i * 8) xs)) told here)

-- a word of bytes that are ASCII has no high bit
pub word_of_plain : (n i : ℕ) (xs : List ℕ) → i < n → IsAscii xs → bit_and (from_le_bytes w64 (get_or (first_chunks 8 n xs) i [])) 0x8080_8080_8080_8080 ≡ 0
word_of_plain n i xs lt plain =
    ap (λ w. bit_and (from_le_bytes w64 w) 0x8080_8080_8080_8080) (chunk n i xs lt) ∙ word_plain (drop (i * 8) xs) (IsAscii-take (drop (i * 8) xs) 8 (IsAscii-drop xs (i * 8) plain))

-- a part of such bytes
part_plain : (bytes : List ℕ) (start count : ℕ) → IsPlain bytes → IsPlain (take count (drop start bytes))
part_plain bytes start count h =
    (IsAscii-take (drop start bytes) count (IsAscii-drop bytes start h.0), omega (arith, h.1, length-take count (drop start bytes), length-drop start bytes))

-- a field of them
field_plain : (start : ℕ) (ends bytes : List ℕ) (at : ℕ) → IsPlain bytes → IsPlain (get_or (cut_from start ends bytes) at [])
unfolding cut_from
field_plain start [] bytes at h = (IsAscii-nil, omega arith)
field_plain start (end ∷ ends) bytes zero h = part_plain bytes start (end - start) h
field_plain start (end ∷ ends) bytes (suc at) h = field_plain end ends bytes at h

-- such a row has no fault in its fields
pub plain_faultless : (heading : Heading) (row : Row) → IsPlain (text_of row) → (number : ℕ) → text_fault heading number (fields_of row) ≡ None
plain_faultless heading row h number =
    let plain : (c : Column) → IsPlain (cell (fields_of row) c) = λ c. field_plain 0 row.ends row.bytes c.place h in
    let texts = none_found (λ (c : Column). not (is_utf8 (cell (fields_of row) c))) heading.columns (λ c. ap not (is_utf8-from_IsUtf8 (cell (fields_of row) c) (IsUtf8-from_ascii (cell (fields_of row) c) (plain c).0))) in
    let lengths = none_found (λ (c : Column). nat_lt MOST_FIELD_BYTES (length (cell (fields_of row) c))) heading.columns (λ c. no_more MOST_FIELD_BYTES (length (cell (fields_of row) c)) (plain c).1) in
    rw (texts, lengths) refl

-- One record more is read, or refused.

abbrev Records : Type 0
Records = List (List (List ℕ))

ids_push : (rows : List TableRow) (row : TableRow) → ids_of (rows ++ row ∷ []) ≡ ids_of rows ++ row.id ∷ []
ids_push [] row = refl
ids_push (r ∷ rows) row = ap (λ (ids : List (List ℕ)). r.id ∷ ids) (ids_push rows row)

pub known_push : (has_id : Bool) (rows : List TableRow) (row : TableRow) → known_ids has_id (rows ++ row ∷ []) ≡ ids_after has_id (known_ids has_id rows) row.id
known_push true rows row = ids_push rows row
known_push false rows row = refl

-- a record without a fault is taken
pub step : (heading : Heading) (table new : List TableRow) (left rest : Records) (row : List (List ℕ)) (number : ℕ) (ids : List (List ℕ))
    → left ≡ row ∷ rest → number ≡ length table + 1 → ids ≡ known_ids heading.has_id table → row_fault heading number ids row ≡ None → new ≡ table ++ taken heading row ∷ []
    → rows_read heading table left ≡ rows_read heading new rest
step heading table new left rest row number ids el en ei ef ew = rw (el, ← en, ← ei, ef, ew) refl

-- a record with a fault ends the table
pub refused : (heading : Heading) (table : List TableRow) (left rest : Records) (row : List (List ℕ)) (number : ℕ) (ids : List (List ℕ)) (f : Fault)
    → left ≡ row ∷ rest → number ≡ length table + 1 → ids ≡ known_ids heading.has_id table → row_fault heading number ids row ≡ Some f
    → rows_read heading table left ≡ Err f
refused heading table left rest row number ids f el en ei ef = rw (el, ← en, ← ei, ef) refl

pub refuses : (heading : Heading) (table : List TableRow) (left rest all : Records) (row : List (List ℕ)) (number : ℕ) (ids new : List (List ℕ)) (f : Fault)
    → rows_read heading [] all ≡ rows_read heading table left → left ≡ row ∷ rest → number ≡ length table + 1 → ids ≡ known_ids heading.has_id table
    → TakesTableRow {T = Unit {0}} (row_fault heading number ids row) heading row ids new (Err f) → Refuses (rows_read heading [] all) f
refuses heading table left rest all row number ids new fault.NoMemory told el en ei h = tt
refuses heading table left rest all row number ids new f told el en ei h = told ∙ refused heading table left rest row number ids f el en ei h

too_many : (heading : Heading) (ids row : List (List ℕ)) (number : ℕ) → nat_lt heading.most number ≡ true → row_fault heading number ids row ≡ Some (fault.TooManyRows heading.role heading.most)
too_many heading ids row number h = rw h refl

pub one_too_many : (heading : Heading) (table : List TableRow) (left rest all : Records) (row : List (List ℕ))
    → rows_read heading [] all ≡ rows_read heading table left → left ≡ row ∷ rest → heading.most ≤ length table
    → rows_read heading [] all ≡ Err (fault.TooManyRows heading.role heading.most)
one_too_many heading table left rest all row told el le =
    let over : nat_lt heading.most (length table + 1) ≡ true = grind (arith, nat_tests) in
    told ∙ refused heading table left rest row (length table + 1) (known_ids heading.has_id table) (fault.TooManyRows heading.role heading.most) el refl refl (too_many heading (known_ids heading.has_id table) row (length table + 1) over)

-- what holds after one row more
pub record IsRead (heading : Heading) (new : List TableRow) (ids : List (List ℕ)) (rest all : Records) : Type 0 where
  pub known : ids ≡ known_ids heading.has_id new
  pub told : rows_read heading [] all ≡ rows_read heading new rest

pub read : (x : Unit {0}) (heading : Heading) (table new : List TableRow) (left rest all : Records) (row : List (List ℕ)) (number : ℕ) (ids ids2 : List (List ℕ))
    → rows_read heading [] all ≡ rows_read heading table left → left ≡ row ∷ rest → number ≡ length table + 1 → ids ≡ known_ids heading.has_id table
    → TakesTableRow {T = Unit {0}} (row_fault heading number ids row) heading row ids ids2 (Ok x) → new ≡ table ++ taken heading row ∷ [] → IsRead heading new ids2 rest all
read x heading table new left rest all row number ids ids2 told el en ei h ew =
    record {
      known = h.1 ∙ ap (λ known. ids_after heading.has_id known (taken heading row).id) ei ∙ sym (known_push heading.has_id table (taken heading row)) ∙ ap (known_ids heading.has_id) (sym ew);
      told = told ∙ step heading table new left rest row number ids el en ei h.0 ew;
    }

pub known_short : (has_id : Bool) (rows : List TableRow) → length (known_ids has_id rows) ≤ length rows
known_short true rows = omega (arith, length_ids rows)
known_short false rows = omega arith
