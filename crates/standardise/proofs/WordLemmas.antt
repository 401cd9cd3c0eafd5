-- Words, titles, and where spaces stand.
use Rattle.std.proofs.Common.{◌≡◌, ℕ, ◌+◌, ◌<◌, ◌≤◌, List, [], ◌∷◌, ◌++◌, Bool, true, false, not, ◌&&◌, ◌||◌, cond, ◌==◌, ◌/◌, ◌%◌, nat_le, nat_lt, map, reverse, take, drop, length, get_or, IsTrue, encode_utf8_all, refl, ap, sym, ◌∙◌, append_assoc, arith, zero, suc, inl, inr, Option, Some, None, subst, bytes_eq, if◌then◌else◌, option_to_list}
use lib.Utf8.{encode}
use Rattle.std.specs.List.{list_all, list_any, flat_map, range_with_len}
use Rattle.std.specs.Str.{IsAscii, IsUtf8, trim}
use Rattle.std.proofs.lemmas.Grind.{common_steps}
use Rattle.std.proofs.lemmas.Bool.Decides.{nat_tests}
use Rattle.std.proofs.lemmas.List.{append-nil, drop_more, take_more}
use Rattle.std.proofs.lemmas.Str.{encode_ascii, encodes-append, length-le-encodes, IsCharBoundary-after_ascii, IsCharBoundary-before_ascii, IsUtf8-drop, IsUtf8-from_ascii, IsUtf8-take, chars-IsAscii}
use Rattle.std.proofs.lemmas.Str.Ascii.{IsAscii-cons, IsAscii-nil, All-from_ascii, encodes-IsAscii}
use Rattle.link_base.specs.Words.{is_word, is_word_byte}
use Rattle.link_texts.specs.Texts.{stands_among}
use Rattle.standardise.specs.Names.{run_words, without_first, without_last, words, words_after, replaced, without_titles, characters_of, text_value, word_or_absent, words_of_text, TextView}
use Rattle.std.proofs.lemmas.Bool.{cases_lt, not-true}
use Rattle.std.proofs.lemmas.List.Concat.{flat_map-append}
use Rattle.std.proofs.lemmas.Slice.Eq.{bytes_eq-Decides}
use Rattle.unicode_normalization.specs.Forms.{nfd}
use Rattle.unicode_normalization.specs.declared.Form.TheVariants.{Nfd}
use Rattle.unicode_normalization.proofs.FormsLemmas.{normalize-ascii}
use Rattle.ucd_category.specs.GeneralCategory.{general_category}
use Rattle.ucd_category.specs.GeneralCategoryRows.{general_category_rows}
use Rattle.ucd_table.specs.Rows.{value_in}
use Rattle.std.specs.Char.{to_ascii_uppercase}
use Rattle.standardise.specs.Cleaning.{ascii_cleaned, cleaned, cleaned_char, in_capitals, in_apostrophes, is_combining, letter_of, with_letters, with_spaces, without_apostrophes, without_marks}
use Rattle.link_base.specs.declared.tables.WordPair.{WordPair}
use Rattle.link_base.specs.declared.standard.Value.TheVariants as value

abbrev pub has_space : List ℕ → Bool
has_space cs = list_any (λ c. c == 32) cs

neither : (a b : Bool) → (a || b) ≡ false → (a ≡ false) × (b ≡ false)
neither true b h = absurd (let e : true ≡ false = h in cc)
neither false b h = (refl, h)

-- a run without a space is one word
pub alone : (run w : List ℕ) → has_space w ≡ false → words_after run w ≡ run_words (run ++ w)
alone run [] h = ap run_words (sym (append-nil run))
alone run (c ∷ cs) h =
    let parts = neither (c == 32) (has_space cs) h in
    ap (λ b. cond b (run_words run ++ words_after [] cs) (words_after (run ++ c ∷ []) cs)) parts.0
    ∙ alone (run ++ c ∷ []) cs parts.1
    ∙ ap run_words (append_assoc run (c ∷ []) cs)

-- a space parts words
pub parted : (run xs ys : List ℕ) → words_after run (xs ++ 32 ∷ ys) ≡ words_after run xs ++ words ys
parted run [] ys = refl
parted run (c ∷ cs) ys =
    elim (c == 32) as (λ b. cond b (run_words run ++ words_after [] (cs ++ 32 ∷ ys)) (words_after (run ++ c ∷ []) (cs ++ 32 ∷ ys)) ≡ cond b (run_words run ++ words_after [] cs) (words_after (run ++ c ∷ []) cs) ++ words ys) [
      | true ↦ ap (λ ws. run_words run ++ ws) (parted [] cs ys) ∙ sym (append_assoc (run_words run) (words_after [] cs) (words ys))
      | false ↦ parted (run ++ c ∷ []) cs ys
    ]

pub run_some : (w : List ℕ) → 0 < length w → run_words w ≡ w ∷ []
run_some [] some = absurd (omega arith)
run_some (c ∷ cs) some = refl

pub run_none : (w : List ℕ) → length w ≤ 0 → run_words w ≡ []
run_none [] none = refl
run_none (c ∷ cs) none = absurd (omega arith)

pub one_word : (w : List ℕ) → 0 < length w → has_space w ≡ false → words w ≡ w ∷ []
one_word w some none = alone [] w none ∙ run_some w some

pub none_seen : (spaced seen : Bool) → not spaced ≡ true → spaced ≡ seen → seen ≡ false
none_seen true seen h is = absurd (let e : false ≡ true = h in cc)
none_seen false seen h is = sym is

-- at a place
here : (text : List ℕ) (i d : ℕ) → i < length text → text ≡ take i text ++ get_or text i d ∷ drop (i + 1) text
here text i d lt = grind (arith, common_steps)

drop_here : (text : List ℕ) (i d : ℕ) → i < length text → drop i text ≡ get_or text i d ∷ drop (i + 1) text
drop_here text i d lt = drop_more text i d lt

take_here : (text : List ℕ) (i d : ℕ) → i < length text → take (i + 1) text ≡ take i text ++ get_or text i d ∷ []
take_here text i d lt = take_more text i d lt

pub past_letter : (text : List ℕ) (i c : ℕ) → i < length text → c ≡ get_or text i c → (c == 32) ≡ false → words_after (take (i + 1) text) (drop (i + 1) text) ≡ words_after (take i text) (drop i text)
past_letter text i c lt is other =
    let at : get_or text i c ≡ c = sym is in
    ap (λ run. words_after run (drop (i + 1) text)) (take_here text i c lt ∙ ap (λ x. take i text ++ x ∷ []) at)
    ∙ sym (ap (words_after (take i text)) (drop_here text i c lt ∙ ap (λ x. x ∷ drop (i + 1) text) at)
    ∙ ap (λ b. cond b (run_words (take i text) ++ words_after [] (drop (i + 1) text)) (words_after (take i text ++ c ∷ []) (drop (i + 1) text))) other)

-- from the end
pub at_last_space : (text : List ℕ) (i : ℕ) → i < length text → get_or text i 0 ≡ 32 → has_space (drop (i + 1) text) ≡ false → words text ≡ words (take i text) ++ run_words (drop (i + 1) text)
at_last_space text i lt space none =
    ap words (here text i 0 lt ∙ ap (λ x. take i text ++ x ∷ drop (i + 1) text) space)
    ∙ parted [] (take i text) (drop (i + 1) text)
    ∙ ap (λ ws. words (take i text) ++ ws) (alone [] (drop (i + 1) text) none)

pub no_space : (text : List ℕ) → has_space (drop 0 text) ≡ false → words text ≡ run_words text
no_space text none = let all : drop 0 text ≡ text = grind (arith, common_steps) in alone [] text (sym (ap has_space all) ∙ none)

-- what stands before a space and behind it is text
pub utf8_parted : (text : List ℕ) (i : ℕ) → i < length text → get_or text i 0 ≡ 32 → IsUtf8 text → IsUtf8 (take i text) × IsUtf8 (drop (i + 1) text)
utf8_parted text i lt space utf8 =
    let at : get_or text i 0 < 128 = omega arith in
    (IsUtf8-take text i utf8 (IsCharBoundary-before_ascii text i lt at), IsUtf8-drop text (i + 1) utf8 (IsCharBoundary-after_ascii text i utf8 lt at))

-- titles at the front
pub title : (ts : List (List ℕ)) (w : List ℕ) (ws : List (List ℕ)) → 0 < length ws → stands_among ts w ≡ true → without_first ts (w ∷ ws) ≡ without_first ts ws
title ts w [] some h = absurd (omega arith)
title ts w (v ∷ vs) some h = ap (λ b. cond b (without_first ts (v ∷ vs)) (w ∷ v ∷ vs)) h

-- and at the end
reverse_push : (ws : List (List ℕ)) (w : List ℕ) → reverse (ws ++ w ∷ []) ≡ w ∷ reverse ws
reverse_push ws w = grind (arith, common_steps)

pub title_last : (ts : List (List ℕ)) (w : List ℕ) (ws : List (List ℕ)) → 0 < length ws → stands_among ts w ≡ true → without_last ts (ws ++ w ∷ []) ≡ without_last ts ws
title_last ts w ws some h =
    let rest : 0 < length (reverse ws) = grind (arith, common_steps) in
    ap reverse (ap (without_first ts) (reverse_push ws w) ∙ title ts w (reverse ws) rest h)

-- words of A to Z and 0 to 9 are text
ascii_byte : (b : ℕ) → is_word_byte b ≡ true → b < 128
ascii_byte b h = grind (arith, nat_tests)

pub both : (a b : Bool) → (a && b) ≡ true → (a ≡ true) × (b ≡ true)
both true b h = (refl, h)
both false b h = absurd (let e : false ≡ true = h in cc)

ascii_bytes : (w : List ℕ) → list_all is_word_byte w ≡ true → IsAscii w
ascii_bytes [] h = IsAscii-nil
ascii_bytes (b ∷ bs) h = let parts = both (is_word_byte b) (list_all is_word_byte bs) h in IsAscii-cons b bs (ascii_byte b parts.0) (ascii_bytes bs parts.1)

pub word_is_utf8 : (w : List ℕ) → IsTrue (is_word w) → IsUtf8 w
word_is_utf8 w h = IsUtf8-from_ascii w (ascii_bytes w (both (nat_le 1 (length w) && nat_le (length w) 32) (list_all is_word_byte w) h).1)

-- the words of a text's bytes are those of its characters
one_byte : (c : ℕ) → (c == 32) ≡ false → has_space (c ∷ []) ≡ false
one_byte c h = ap (λ b. b || false) h

either_none : (b : Bool) (xs ys : List ℕ) → has_space xs ≡ false → has_space ys ≡ false → has_space (cond b xs ys) ≡ false
either_none true xs ys h g = h
either_none false xs ys h g = g

past : (c : ℕ) → 128 ≤ c → (c == 32) ≡ false
past c le = grind (arith, nat_tests)

two_bytes : (a b : ℕ) → 128 ≤ a → 128 ≤ b → has_space (a ∷ b ∷ []) ≡ false
two_bytes a b h g = ap (λ x. x || has_space (b ∷ [])) (past a h) ∙ one_byte b (past b g)

three_bytes : (a b c : ℕ) → 128 ≤ a → 128 ≤ b → 128 ≤ c → has_space (a ∷ b ∷ c ∷ []) ≡ false
three_bytes a b c h g k = ap (λ x. x || has_space (b ∷ c ∷ [])) (past a h) ∙ two_bytes b c g k

four_bytes : (a b c d : ℕ) → 128 ≤ a → 128 ≤ b → 128 ≤ c → 128 ≤ d → has_space (a ∷ b ∷ c ∷ d ∷ []) ≡ false
four_bytes a b c d h g k l = ap (λ x. x || has_space (b ∷ c ∷ d ∷ [])) (past a h) ∙ three_bytes b c d g k l

no_space_in : (c : ℕ) → (c == 32) ≡ false → has_space (encode c) ≡ false
unfolding encode
no_space_in c h =
    either_none (nat_lt c 128) _ _ (one_byte c h)
    (either_none (nat_lt c 2048) _ _ (two_bytes (192 + c / 64) (128 + c % 64) (omega arith) (omega arith))
    (either_none (nat_lt c 65536) _ _ (three_bytes (224 + c / 4096) (128 + c / 64 % 64) (128 + c % 64) (omega arith) (omega arith) (omega arith))
    (four_bytes (240 + c / 262144) (128 + c / 4096 % 64) (128 + c / 64 % 64) (128 + c % 64) (omega arith) (omega arith) (omega arith) (omega arith))))

-- a run of bytes without a space goes to the run before it
run_on : (run w cs : List ℕ) → has_space w ≡ false → words_after run (w ++ cs) ≡ words_after (run ++ w) cs
run_on run [] cs h = ap (λ r. words_after r cs) (sym (append-nil run))
run_on run (c ∷ w) cs h =
    let parts = neither (c == 32) (has_space w) h in
    ap (λ b. cond b (run_words run ++ words_after [] (w ++ cs)) (words_after (run ++ c ∷ []) (w ++ cs))) parts.0
    ∙ run_on (run ++ c ∷ []) w cs parts.1
    ∙ ap (λ r. words_after r cs) (append_assoc run (c ∷ []) w)

encoded_run : (run : List ℕ) → run_words (encode_utf8_all run) ≡ map encode_utf8_all (run_words run)
encoded_run [] = refl
encoded_run (c ∷ cs) = run_some (encode_utf8_all (c ∷ cs)) (let n = length-le-encodes (c ∷ cs) in omega arith)

map_words : (xs ys : List (List ℕ)) → map encode_utf8_all (xs ++ ys) ≡ map encode_utf8_all xs ++ map encode_utf8_all ys
map_words xs ys = grind (arith, common_steps)

encoded_step : (b : Bool) (run cs : List ℕ) (c : ℕ) → (c == 32) ≡ b
    → words_after [] (encode_utf8_all cs) ≡ map encode_utf8_all (words_after [] cs)
    → words_after (encode_utf8_all (run ++ c ∷ [])) (encode_utf8_all cs) ≡ map encode_utf8_all (words_after (run ++ c ∷ []) cs)
    → words_after (encode_utf8_all run) (encode_utf8_all (c ∷ cs)) ≡ map encode_utf8_all (words_after run (c ∷ cs))
encoded_step true run cs c is first rest =
    let space : c ≡ 32 = grind (arith, nat_tests) in
    ap (λ x. words_after (encode_utf8_all run) (x ++ encode_utf8_all cs)) (ap encode space ∙ encode_ascii 32 (omega arith))
    ∙ ap (λ ws. run_words (encode_utf8_all run) ++ ws) first
    ∙ ap (λ ws. ws ++ map encode_utf8_all (words cs)) (encoded_run run)
    ∙ sym (map_words (run_words run) (words cs))
    ∙ sym (ap (λ b. map encode_utf8_all (cond b (run_words run ++ words_after [] cs) (words_after (run ++ c ∷ []) cs))) is)
encoded_step false run cs c is first rest =
    let more : encode_utf8_all run ++ encode c ≡ encode_utf8_all (run ++ c ∷ []) = sym (encodes-append run (c ∷ []) ∙ ap (λ bs. encode_utf8_all run ++ bs) (append-nil (encode c))) in
    run_on (encode_utf8_all run) (encode c) (encode_utf8_all cs) (no_space_in c is)
    ∙ ap (λ r. words_after r (encode_utf8_all cs)) more
    ∙ rest
    ∙ sym (ap (λ b. map encode_utf8_all (cond b (run_words run ++ words_after [] cs) (words_after (run ++ c ∷ []) cs))) is)

encoded_after : (run cs : List ℕ) → words_after (encode_utf8_all run) (encode_utf8_all cs) ≡ map encode_utf8_all (words_after run cs)
encoded_after run [] = encoded_run run
encoded_after run (c ∷ cs) = encoded_step (c == 32) run cs c refl (encoded_after [] cs) (encoded_after (run ++ c ∷ []) cs)

pub encoded_words : (cs : List ℕ) → words (encode_utf8_all cs) ≡ map encode_utf8_all (words cs)
encoded_words cs = encoded_after [] cs

-- one more word behind a space
pub one_more : (out word rest : List ℕ) → ((out ++ 32 ∷ []) ++ word) ++ rest ≡ out ++ ((32 ∷ word) ++ rest)
one_more out word rest = grind (arith, common_steps)

pub one_space : IsUtf8 (32 ∷ [])
one_space = IsUtf8-from_ascii (32 ∷ []) (IsAscii-cons 32 [] (omega arith) IsAscii-nil)

-- Five steps in turn are one step at each character.

-- what the steps after the letter table make of letters
abbrev pub finished : List ℕ → List ℕ
finished cs = with_spaces (without_apostrophes (in_capitals cs))

finished_cons : (c : ℕ) (cs : List ℕ) → finished (c ∷ cs) ≡ finished (c ∷ []) ++ finished cs
finished_cons c cs =
    elim (in_apostrophes (to_ascii_uppercase c)) as (λ b. with_spaces (cond (not b) (to_ascii_uppercase c ∷ without_apostrophes (in_capitals cs)) (without_apostrophes (in_capitals cs))) ≡ with_spaces (cond (not b) (to_ascii_uppercase c ∷ []) []) ++ finished cs) [
      | true ↦ refl
      | false ↦ refl
    ]

pub finished-append : (xs ys : List ℕ) → finished (xs ++ ys) ≡ finished xs ++ finished ys
finished-append [] ys = refl
finished-append (x ∷ xs) ys =
    finished_cons x (xs ++ ys)
    ∙ ap (λ zs. finished (x ∷ []) ++ zs) (finished-append xs ys)
    ∙ sym (append_assoc (finished (x ∷ [])) (finished xs) (finished ys))
    ∙ ap (λ zs. zs ++ finished ys) (sym (finished_cons x xs))

pub cleaned_by_char : (cs : List ℕ) → flat_map cleaned_char cs ≡ cleaned cs
cleaned_by_char [] = refl
cleaned_by_char (c ∷ cs) =
    ap (λ zs. cleaned_char c ++ zs) (cleaned_by_char cs)
    ∙ elim (is_combining c) as (λ b. cond b [] (finished (letter_of c)) ++ cleaned cs ≡ finished (with_letters (cond (not b) (c ∷ without_marks cs) (without_marks cs)))) [
      | true ↦ refl
      | false ↦ sym (finished-append (letter_of c) (with_letters (without_marks cs)))
    ]

pub two_letters : (before first second : List ℕ) → (before ++ encode_utf8_all first) ++ encode_utf8_all second ≡ before ++ encode_utf8_all (first ++ second)
two_letters before first second = append_assoc before (encode_utf8_all first) (encode_utf8_all second) ∙ ap (λ bs. before ++ bs) (sym (encodes-append first second))

-- what the steps make of an ASCII character, seen at each of them
abbrev same_at : ℕ → Bool
same_at c = bytes_eq (cleaned_char c) (option_to_list (ascii_cleaned c)) && list_all (λ b. nat_lt b 128) (option_to_list (ascii_cleaned c))

all_same : list_all same_at (range_with_len 0 128) ≡ true
unfolding ascii_cleaned letter_of general_category value_in general_category_rows
all_same = refl

below : (p : ℕ → Bool) (n from c : ℕ) → list_all p (range_with_len from n) ≡ true → from ≤ c → c < from + n → p c ≡ true
below p zero from c h le lt = absurd (omega arith)
below p (suc n) from c h le lt =
    let parts = both (p from) (list_all p (range_with_len (from + 1) n)) h in
    elim (cases_lt from c) [
      | inl later ↦ below p n (from + 1) c parts.1 (omega arith) (omega arith)
      | inr here ↦ let same : from ≡ c = omega arith in subst (λ k. p k ≡ true) same parts.0
    ]

abbrev from_ascii : ℕ → List ℕ
from_ascii c = option_to_list (ascii_cleaned c)

-- what the table of ASCII says
record Ascii (c : ℕ) : Type 0 where
  pub same : cleaned_char c ≡ from_ascii c
  pub low : list_all (λ b. nat_lt b 128) (from_ascii c) ≡ true

ascii_char : (c : ℕ) → c < 128 → Ascii c
ascii_char c lt =
    let parts = both (bytes_eq (cleaned_char c) (from_ascii c)) (list_all (λ b. nat_lt b 128) (from_ascii c)) (below same_at 128 0 c all_same (omega arith) (omega arith)) in
    record { same = (bytes_eq-Decides (cleaned_char c) (from_ascii c)).0 parts.0; low = parts.1 }

ascii_chars : (bs : List ℕ) → IsAscii bs → flat_map cleaned_char bs ≡ flat_map from_ascii bs
ascii_chars [] h = refl
ascii_chars (b ∷ bs) h = ap (λ xs. xs ++ flat_map cleaned_char bs) (ascii_char b (h 0)).same ∙ ap (λ xs. from_ascii b ++ xs) (ascii_chars bs (λ i. h (suc i)))

one_or_none : (o : Option ℕ) (rest : List ℕ) → list_all (λ b. nat_lt b 128) (option_to_list o) ≡ true → IsAscii rest → IsAscii (option_to_list o ++ rest)
one_or_none None rest low h = h
one_or_none (Some b) rest low h = IsAscii-cons b rest (grind (arith, nat_tests)) h

pub ascii_stays : (bs : List ℕ) → IsAscii bs → IsAscii (flat_map from_ascii bs)
ascii_stays [] h = IsAscii-nil
ascii_stays (b ∷ bs) h = one_or_none (ascii_cleaned b) (flat_map from_ascii bs) (ascii_char b (h 0)).low (ascii_stays bs (λ i. h (suc i)))

-- of an ASCII text the steps make what each of its bytes becomes
pub ascii_text : (bs : List ℕ) → IsAscii bs → flat_map (λ c. option_to_list (ascii_cleaned c)) bs ≡ encode_utf8_all (characters_of bs)
unfolding characters_of
ascii_text bs h =
    sym (encodes-IsAscii (flat_map from_ascii bs) (ascii_stays bs h))
    ∙ ap encode_utf8_all (sym (ascii_chars bs h) ∙ cleaned_by_char bs ∙ ap cleaned (sym (normalize-ascii Nfd bs (All-from_ascii bs h)) ∙ ap nfd (sym (chars-IsAscii bs h))))

-- one character more
pub cleaned_more : (cs : List ℕ) (i c : ℕ) → i < length cs → c ≡ get_or cs i c → encode_utf8_all (flat_map cleaned_char (take (i + 1) cs)) ≡ encode_utf8_all (flat_map cleaned_char (take i cs)) ++ encode_utf8_all (cleaned_char c)
cleaned_more cs i c lt is =
    let split : take (i + 1) cs ≡ take i cs ++ c ∷ [] = grind (arith, common_steps) in
    let more : flat_map cleaned_char (take i cs ++ c ∷ []) ≡ flat_map cleaned_char (take i cs) ++ cleaned_char c = flat_map-append cleaned_char (take i cs) (c ∷ []) ∙ ap (λ xs. flat_map cleaned_char (take i cs) ++ xs) (append-nil (cleaned_char c)) in
    ap (λ xs. encode_utf8_all (flat_map cleaned_char xs)) split ∙ ap encode_utf8_all more ∙ encodes-append (flat_map cleaned_char (take i cs)) (cleaned_char c)

-- a capital or a digit stays as it is, seen at each of them
abbrev stays_at : ℕ → Bool
stays_at c = not (is_word_byte c) || (bytes_eq (from_ascii c) (c ∷ []) && not (c == 32))

all_stay : list_all stays_at (range_with_len 0 128) ≡ true
unfolding ascii_cleaned
all_stay = refl

record Stays (c : ℕ) : Type 0 where
  pub text : from_ascii c ≡ c ∷ []
  pub low : c < 128
  pub seen : (c == 32) ≡ false

stays_if : (c : ℕ) (is : Bool) → is_word_byte c ≡ is → is ≡ true → (not is || (bytes_eq (from_ascii c) (c ∷ []) && not (c == 32))) ≡ true → c < 128 → Stays c
stays_if c false e h told lt = absurd (let f : false ≡ true = h in cc)
stays_if c true e h told lt =
    let parts = both (bytes_eq (from_ascii c) (c ∷ [])) (not (c == 32)) told in
    record { text = (bytes_eq-Decides (from_ascii c) (c ∷ [])).0 parts.0; low = lt; seen = not-true (c == 32) parts.1 }

stays : (c : ℕ) → is_word_byte c ≡ true → Stays c
stays c h =
    let lt : c < 128 = grind (arith, nat_tests) in
    stays_if c (is_word_byte c) refl h (below stays_at 128 0 c all_stay (omega arith) (omega (arith, lt))) lt

-- a text of capitals and digits stays as it is
pub record StaysAsIs (bs : List ℕ) : Type 0 where
  pub text : flat_map from_ascii bs ≡ bs
  pub ascii : IsAscii bs
  pub spaced : has_space bs ≡ false

pub stays_as_is : (bs : List ℕ) → ((k : ℕ) → k < length bs → is_word_byte (get_or bs k 0) ≡ true) → StaysAsIs bs
stays_as_is [] h = record { text = refl; ascii = IsAscii-nil; spaced = refl }
stays_as_is (b ∷ bs) h =
    let here = stays b (h 0 (omega arith)) in
    let rest = stays_as_is bs (λ k lt. h (suc k) (omega (arith, lt))) in
    record {
      text = ap (λ xs. xs ++ flat_map from_ascii bs) here.text ∙ ap (λ xs. b ∷ xs) rest.text;
      ascii = IsAscii-cons b bs here.low rest.ascii;
      spaced = ap (λ x. x || has_space bs) here.seen ∙ rest.spaced;
    }

-- The standard value of a name or of a place, by what was found on the way to it.

-- the words of what is left of a text after the steps at its characters
pub cleaned_words : (text cleaned : List ℕ) → cleaned ≡ encode_utf8_all (characters_of text) → words cleaned ≡ words_of_text text
cleaned_words text cleaned is = ap words is ∙ encoded_words (characters_of text)

-- any other text
pub value_of_words : (t : TextView) (text : List ℕ) (missing : Bool) → missing ≡ stands_among t.marks (trim text) → missing ≡ false
    → word_or_absent t.words (without_titles t.titles t.suffixes (words_of_text (trim text))) ≡ text_value t text
value_of_words t text missing is so =
    let all = word_or_absent t.words (without_titles t.titles t.suffixes (words_of_text (trim text))) in
    ap (λ b. if b then value.Absent else all) (sym so ∙ is)

-- a text that is one word keeps it
pub one_word_kept : (titles suffixes : List (List ℕ)) (cleaned : List ℕ) (all : List (List ℕ)) → words cleaned ≡ cleaned ∷ [] → words cleaned ≡ all → words cleaned ≡ without_titles titles suffixes all
one_word_kept titles suffixes cleaned all one is =
    let single : all ≡ cleaned ∷ [] = sym is ∙ one in
    rw single one

-- the value of one word
pub one_replaced : (pairs : List WordPair) (cleaned result : List ℕ) → result ≡ replaced pairs cleaned → words cleaned ≡ cleaned ∷ [] → value.Word result ≡ word_or_absent pairs (words cleaned)
one_replaced pairs cleaned result is one =
    ap value.Word (is ∙ sym (append-nil (replaced pairs cleaned))) ∙ ap (word_or_absent pairs) (sym one)
