-- A number past its limit stays past it, whatever digits follow.
use Rattle.std.proofs.Common.{◌≡◌, ◌<◌, ◌≤◌, ◌+◌, ◌*◌, ◌-◌, ◌∷◌, ℕ, List, [], Bool, false, arith, ◌&&◌, nat_le, ◌++◌, ◌∙◌, suc, length, map, get_or, drop, take, sym, ap, add-one, Bor, zero, All, refl, length-append, drop-cons, flat_map}
use Rattle.std.proofs.lemmas.Bool.Decides.{nat_tests}
use Rattle.csv_rows.specs.Numbers.{number_after, HasNoMark}
use Rattle.std.proofs.lemmas.List.{append_assoc, append-nil, drop_all, length-map, take_all}
use Rattle.csv.specs.Writing.{default_writer, field_text, fields_text, is_blank, row_text, read_back}
use Rattle.csv.proofs.RoundTrip.{read-write}
use Rattle.csv.specs.Machine.{next_record}
use Rattle.csv.specs.Reading.{default_config, records_from}
use Rattle.csv.specs.declared.parser.State.TheVariants as st
use Rattle.file_reader.specs.Words.{records_in}

pub number_after_least : (n : ℕ) (digits : List ℕ) → n ≤ number_after n digits
number_after_least n [] = omega arith
number_after_least n (digit ∷ digits) = let h = number_after_least (n * 10 + (digit - 48)) digits in omega arith

pub beyond : (number value most : ℕ) (b : Bool) → most < number → number ≤ value → false ≡ b && nat_le value most
beyond number value most b h le = grind (arith, nat_tests)

-- The fields of a row, one after the other.

abbrev now_of : Bor (List ℕ) → List ℕ
now_of field = field.now

-- one field more, after a comma
one_more : (line f : List ℕ) (fs : List (List ℕ)) → ((line ++ 44 ∷ []) ++ field_text default_writer f) ++ fields_text default_writer fs ≡ line ++ fields_text default_writer (f ∷ fs)
unfolding fields_text
one_more line f fs =
    append_assoc (line ++ 44 ∷ []) (field_text default_writer f) (fields_text default_writer fs)
    ∙ append_assoc line (44 ∷ []) (field_text default_writer f ++ fields_text default_writer fs)

pub rest_more : (fields : List (Bor (List ℕ))) (i : ℕ) (d : Bor (List ℕ)) (line mid new start : List ℕ) → i < length fields
    → new ≡ mid ++ field_text default_writer (now_of (get_or fields i d)) → mid ≡ line ++ 44 ∷ []
    → line ++ fields_text default_writer (map now_of (drop i fields)) ≡ start
    → new ++ fields_text default_writer (map now_of (drop (i + 1) fields)) ≡ start
rest_more fields i d line mid new start within is comma told =
    let cons : drop i fields ≡ get_or fields i d ∷ drop (suc i) fields = drop-cons fields i d within in
    ap (λ xs. xs ++ fields_text default_writer (map now_of (drop (i + 1) fields))) (is ∙ ap (λ xs. xs ++ field_text default_writer (now_of (get_or fields i d))) comma)
    ∙ rw add-one (one_more line (now_of (get_or fields i d)) (map now_of (drop (suc i) fields)))
    ∙ sym (ap (λ fs. line ++ fields_text default_writer (map now_of fs)) cons)
    ∙ told

-- the first field, the rest and the line feed of a row of two fields or more
whole : (line f : List ℕ) (fs : List (List ℕ)) → 1 ≤ length fs → ((line ++ field_text default_writer f) ++ fields_text default_writer fs) ++ 10 ∷ [] ≡ line ++ row_text default_writer (f ∷ fs)
unfolding is_blank
whole line f (g ∷ gs) some =
    ap (λ xs. xs ++ 10 ∷ []) (append_assoc line (field_text default_writer f) (fields_text default_writer (g ∷ gs)))
    ∙ append_assoc line (field_text default_writer f ++ fields_text default_writer (g ∷ gs)) (10 ∷ [])
whole line f [] some = absurd (omega arith)

-- no field is left
pub at_end : (fields : List (Bor (List ℕ))) (i : ℕ) (text start : List ℕ) → length fields ≤ i → text ++ fields_text default_writer (map now_of (drop i fields)) ≡ start → text ≡ start
unfolding fields_text
at_end fields i text start past told =
    sym (append-nil text) ∙ sym (ap (λ fs. text ++ fields_text default_writer (map now_of fs)) (drop_all i fields past)) ∙ told

pub row_written : (fields : List (Bor (List ℕ))) (d : Bor (List ℕ)) (line mid after new : List ℕ) → 2 ≤ length fields
    → mid ≡ line ++ field_text default_writer (now_of (get_or fields 0 d))
    → after ≡ mid ++ fields_text default_writer (map now_of (take (length fields - 1) (drop 1 fields)))
    → new ≡ after ++ 10 ∷ []
    → new ≡ line ++ row_text default_writer (map now_of fields)
row_written (f ∷ fs) d line mid after new some first rest last =
    let all : take (length (f ∷ fs) - 1) (drop 1 (f ∷ fs)) ≡ fs = take_all (length (f ∷ fs) - 1) fs (omega arith) in
    last
    ∙ ap (λ xs. xs ++ 10 ∷ []) (rest ∙ ap (λ gs. mid ++ fields_text default_writer (map now_of gs)) all ∙ ap (λ xs. xs ++ fields_text default_writer (map now_of fs)) first)
    ∙ whole line (now_of f) (map now_of fs) (omega (arith, length-map fs now_of))
row_written [] d line mid after new some first rest last = absurd (omega arith)

-- The text of rows is read back row by row.

abbrev text_of : List (List (List ℕ)) → List ℕ
text_of rows = flat_map (row_text default_writer) rows

-- a row of some fields reads back as it is
same_back : (row : List (List ℕ)) → 1 ≤ length row → read_back row ≡ row
same_back [] some = absurd (omega arith)
same_back (x ∷ xs) some = refl

ends_longer : (x y : List ℕ) → 1 ≤ length (x ++ (y ++ 10 ∷ []))
ends_longer x y = omega (arith, length-append x (y ++ 10 ∷ []), length-append y (10 ∷ []))

-- each row ends with a byte
row_long : (row : List (List ℕ)) → 1 ≤ length (row_text default_writer row)
row_long row = ends_longer _ _

read_with : (n : ℕ) (rows : List (List (List ℕ))) → All (λ row. 1 ≤ length row) rows → length (text_of rows) < n
    → records_from default_config n st.StartRecord (text_of rows) ≡ rows
unfolding records_from next_record
read_with zero rows some few = absurd (omega arith)
read_with (suc n) [] some few = refl
read_with (suc n) (row ∷ rows) some few =
    let shorter : length (text_of rows) < n = omega (arith, row_long row, length-append (row_text default_writer row) (text_of rows)) in
    let rest : records_from default_config n st.StartRecord (text_of rows) ≡ rows = read_with n rows (λ k d h. some (suc k) d (omega arith)) shorter in
    rw (read-write row (text_of rows)) (ap (λ (r : List (List ℕ)). r ∷ records_from default_config n st.StartRecord (text_of rows)) (same_back row (some 0 [] (omega arith)))
    ∙ ap (λ (t : List (List (List ℕ))). row ∷ t) rest)

pub read_again : (rows : List (List (List ℕ))) → All (λ row. 1 ≤ length row) rows → HasNoMark (text_of rows) → records_in 44 (text_of rows) ≡ rows
read_again rows some plain =
    ap (λ (t : List ℕ). records_from default_config (length t + 1) st.StartRecord t) plain
    ∙ read_with (length (text_of rows) + 1) rows some (omega arith)
