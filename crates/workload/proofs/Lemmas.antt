-- The headers of the made files, byte by byte.
use Rattle.std.proofs.Common.{◌≡◌, refl, codes, ◌+◌, ◌++◌, ◌∷◌, ◌∙◌, ℕ, List, [], map, sym, ap, zero-add, ◌<◌, ◌/◌, ◌%◌, length, slice_index_or, arith, append_assoc, append-nil}
use Rattle.csv.specs.Writing.{default_writer, fields_text, is_blank, row_text}
use Rattle.workload.specs.Made.{file_header, sample_header, rows_text}
use Rattle.std.specs.List.{range_with_len}
use Rattle.std.proofs.lemmas.Grind.{flat_map-append}
use Rattle.std.proofs.lemmas.List.FromFn.{map-range_with_len_more}
use Rattle.workload.specs.People.{syllable, word}

pub file_header_text : row_text default_writer file_header ≡ codes "id,surname,given,birth\n"
unfolding fields_text is_blank
file_header_text = refl

pub sample_header_text : row_text default_writer sample_header ≡ codes "id_a,id_b,status\n"
unfolding fields_text is_blank
sample_header_text = refl

-- The rows of a text, one more.

-- the text of the rows that a function gives is that of one row fewer, and the last
rows_more : (row_of : ℕ → List (List ℕ)) (n : ℕ)
    → rows_text (map row_of (range_with_len 0 (n + 1))) ≡ rows_text (map row_of (range_with_len 0 n)) ++ row_text default_writer (row_of n)
rows_more row_of n =
    ap rows_text (map-range_with_len_more row_of 0 n n (zero-add n))
    ∙ flat_map-append (row_text default_writer) (map row_of (range_with_len 0 n)) (row_of n ∷ [])
    ∙ ap (λ xs. rows_text (map row_of (range_with_len 0 n)) ++ xs) (append-nil (row_text default_writer (row_of n)))

pub text_more : (row_of : ℕ → List (List ℕ)) (n : ℕ) (row : List (List ℕ)) (start text new : List ℕ) → text ≡ start ++ rows_text (map row_of (range_with_len 0 n))
    → new ≡ text ++ row_text default_writer row → row ≡ row_of n → new ≡ start ++ rows_text (map row_of (range_with_len 0 (n + 1)))
text_more row_of n row start text new told more is =
    more ∙ ap (λ xs. text ++ row_text default_writer xs) is ∙ ap (λ xs. xs ++ row_text default_writer (row_of n)) told
    ∙ append_assoc start (rows_text (map row_of (range_with_len 0 n))) (row_text default_writer (row_of n))
    ∙ ap (λ xs. start ++ xs) (sym (rows_more row_of n))

-- the text of a header, and then of two lists of rows
pub in_turn : (header : List (List ℕ)) (first last : List (List (List ℕ))) (text mid new : List ℕ) → text ≡ row_text default_writer header
    → mid ≡ text ++ rows_text first → new ≡ mid ++ rows_text last → new ≡ rows_text (header ∷ first ++ last)
in_turn header first last text mid new headed middle end =
    end ∙ ap (λ xs. xs ++ rows_text last) (middle ∙ ap (λ xs. xs ++ rows_text first) headed)
    ∙ append_assoc (row_text default_writer header) (rows_text first) (rows_text last)
    ∙ ap (λ xs. row_text default_writer header ++ xs) (sym (flat_map-append (row_text default_writer) first last))

-- The text of the settings, piece by piece.

pub seven_pieces : (a b c d e f g t u v w x y z : List ℕ) → t ≡ a → u ≡ t ++ b → v ≡ u ++ c → w ≡ v ++ d → x ≡ w ++ e → y ≡ x ++ f → z ≡ y ++ g
    → z ≡ a ++ b ++ c ++ d ++ e ++ f ++ g
seven_pieces a b c d e f g t u v w x y z first second third fourth fifth sixth last =
    last ∙ ap (λ xs. xs ++ g) (sixth ∙ ap (λ xs. xs ++ f) (fifth ∙ ap (λ xs. xs ++ e) (fourth ∙ ap (λ xs. xs ++ d) (third ∙ ap (λ xs. xs ++ c) (second ∙ ap (λ xs. xs ++ b) first)))))

-- The words of numbers, digit by digit.

-- two lists of two items and of four, item by item
two_items : (xs : List ℕ) → length xs ≡ 2 → slice_index_or xs 0 0 ∷ slice_index_or xs 1 0 ∷ [] ≡ xs
two_items [] h = absurd (omega arith)
two_items (a ∷ []) h = absurd (omega arith)
two_items (a ∷ b ∷ []) h = refl
two_items (a ∷ b ∷ c ∷ xs) h = absurd (omega arith)

four_items : (xs : List ℕ) → length xs ≡ 4 → slice_index_or xs 0 0 ∷ slice_index_or xs 1 0 ∷ slice_index_or xs 2 0 ∷ slice_index_or xs 3 0 ∷ [] ≡ xs
four_items [] h = absurd (omega arith)
four_items (a ∷ []) h = absurd (omega arith)
four_items (a ∷ b ∷ []) h = absurd (omega arith)
four_items (a ∷ b ∷ c ∷ []) h = absurd (omega arith)
four_items (a ∷ b ∷ c ∷ d ∷ []) h = refl
four_items (a ∷ b ∷ c ∷ d ∷ e ∷ xs) h = absurd (omega arith)

pub of_syllables : (n : ℕ) (a b : List ℕ) → n < 256 → length a ≡ 2 → length b ≡ 2 → a ≡ syllable (n / 16) → b ≡ syllable (n % 16)
    → slice_index_or a 0 0 ∷ slice_index_or a 1 0 ∷ slice_index_or b 0 0 ∷ slice_index_or b 1 0 ∷ [] ≡ word 2 n
unfolding word
of_syllables n a b small two others first last =
    ap (λ xs. xs ++ slice_index_or b 0 0 ∷ slice_index_or b 1 0 ∷ []) (two_items a two ∙ first) ∙ ap (λ xs. syllable (n / 16) ++ xs) (two_items b others ∙ last)
    ∙ ap (λ digit. syllable digit ++ syllable (n % 16)) (omega arith)

-- four digits in two halves
halves : (n : ℕ) → n < 65536 → word 2 (n / 256) ++ word 2 (n % 256) ≡ word 4 n
unfolding word
halves n small =
    sym (append_assoc (word 2 (n / 256)) (syllable (n % 256 / 16 % 16)) (syllable (n % 256 % 16)))
    ∙ ap (λ digit. syllable digit ++ syllable (n / 256 % 16) ++ syllable (n % 256 / 16 % 16) ++ syllable (n % 256 % 16)) (omega arith)
    ∙ ap (λ digit. syllable (n / 16 / 16 / 16 % 16) ++ syllable digit ++ syllable (n % 256 / 16 % 16) ++ syllable (n % 256 % 16)) (omega arith)
    ∙ ap (λ digit. syllable (n / 16 / 16 / 16 % 16) ++ syllable (n / 16 / 16 % 16) ++ syllable digit ++ syllable (n % 256 % 16)) (omega arith)
    ∙ ap (λ digit. syllable (n / 16 / 16 / 16 % 16) ++ syllable (n / 16 / 16 % 16) ++ syllable (n / 16 % 16) ++ syllable digit) (omega arith)

pub of_words : (n : ℕ) (a b : List ℕ) → n < 65536 → length a ≡ 4 → length b ≡ 4 → a ≡ word 2 (n / 256) → b ≡ word 2 (n % 256)
    → slice_index_or a 0 0 ∷ slice_index_or a 1 0 ∷ slice_index_or a 2 0 ∷ slice_index_or a 3 0 ∷ slice_index_or b 0 0 ∷ slice_index_or b 1 0 ∷ slice_index_or b 2 0 ∷ slice_index_or b 3 0 ∷ [] ≡ word 4 n
of_words n a b small four others first last =
    ap (λ xs. xs ++ slice_index_or b 0 0 ∷ slice_index_or b 1 0 ∷ slice_index_or b 2 0 ∷ slice_index_or b 3 0 ∷ []) (four_items a four ∙ first)
    ∙ ap (λ xs. word 2 (n / 256) ++ xs) (four_items b others ∙ last) ∙ halves n small
