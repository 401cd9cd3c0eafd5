-- Looking back from each place, and carrying a code.
use Rattle.std.proofs.Common.{◌≡◌, ℕ, suc, ◌+◌, ◌-◌, List, [], ◌∷◌, ◌++◌, true, false, ◌&&◌, not, ◌==◌, cond, Option, Some, None, find, filter, map, reverse, take, length, slice_index, refl, ap, ◌∙◌, subst, append_assoc, arith, zero, ◌<◌, ◌≤◌, ◌⊎◌, inl, inr, Bool, ◌||◌, nat_lt, IsTrue}
use Rattle.std.specs.List.{range_with_len, AllByRecursion}
use Rattle.std.specs.Option.{option_map_or}
use Rattle.std.proofs.lemmas.Grind.{common_steps}
use Rattle.phonetic_keys.specs.Soundex.{letter_code, code_at, counts, counted_places, parts_codes, carried, code_behind, is_new_behind}
use Rattle.std.proofs.lemmas.List.Elements.{All-from_recursion}
use Rattle.std.proofs.lemmas.Bool.Decides.{nat_tests}
use Rattle.phonetic_keys.specs.Alphabet.{A, C, D, E, F, G, H, I, K, M, N, P, Q, R, S, T, V, W, Y, Z, in_vowels, in_alphabet, letters_of}
use Rattle.phonetic_keys.specs.Nysiis.{IsKey, body, body_over, body_rule, end_rule, ended, front, front_rule, last_of, rewritten_behind, spelled_on, tail_of, three_letters, with_ay_joined, without_last_letter}
use Rattle.phonetic_keys.specs.declared.rewriting.Three.{Three}

-- the code that a front leaves
abbrev pub left_by : List ℕ → ℕ
left_by front = option_map_or letter_code (find parts_codes (reverse front)) 48

pub reverse-push : (front : List ℕ) (c : ℕ) → reverse (front ++ c ∷ []) ≡ c ∷ reverse front
reverse-push front c = grind (arith, common_steps)

pub left_by-push : (front : List ℕ) (c : ℕ) → left_by (front ++ c ∷ []) ≡ code_behind (left_by front) c
left_by-push front c =
    rw reverse-push (
    elim (parts_codes c) as (λ b. option_map_or letter_code (cond b (Some c) (find parts_codes (reverse front))) 48 ≡ cond b (letter_code c) (left_by front)) [
      | true ↦ refl
      | false ↦ refl
    ])

-- whether a place counts, by what its front leaves
counts_from : (code : ℕ) (nearest : Option ℕ) →
    (not (code == 48) && option_map_or (λ d. not (code == letter_code d)) nearest true)
    ≡ (not (code == 48) && not (code == option_map_or letter_code nearest 48))
counts_from code None =
    elim (code == 48) as (λ b. (not b && true) ≡ (not b && not b)) [ true ↦ refl | false ↦ refl ]
counts_from code (Some d) = refl

pub take_front : (front rest : List ℕ) → take (length front) (front ++ rest) ≡ front
take_front front rest = grind (arith, common_steps)

pub at_front : (front : List ℕ) (c : ℕ) (cs : List ℕ) → slice_index (front ++ c ∷ cs) (length front) ≡ c
at_front front c cs = grind (arith, common_steps)

counts_at : (front : List ℕ) (c : ℕ) (cs : List ℕ) → counts (front ++ c ∷ cs) (length front) ≡ is_new_behind (left_by front) c
counts_at front c cs =
    rw (at_front front c cs, take_front front (c ∷ cs)) (counts_from (letter_code c) (find parts_codes (reverse front)))

-- the codes of the places that count, of the places from a front on
abbrev looked : List ℕ → ℕ → ℕ → List ℕ
looked letters from n = map (code_at letters) (filter (counts letters) (range_with_len from n))

looked_step : (letters : List ℕ) (from n : ℕ) → looked letters from (suc n) ≡ cond (counts letters from) (code_at letters from ∷ looked letters (from + 1) n) (looked letters (from + 1) n)
looked_step letters from n =
    elim (counts letters from) as (λ b. map (code_at letters) (cond b (from ∷ filter (counts letters) (range_with_len (from + 1) n)) (filter (counts letters) (range_with_len (from + 1) n))) ≡ cond b (code_at letters from ∷ looked letters (from + 1) n) (looked letters (from + 1) n)) [
      | true ↦ refl
      | false ↦ refl
    ]

pub looked-carried : (front rest : List ℕ) → looked (front ++ rest) (length front) (length rest) ≡ carried (left_by front) rest
looked-carried front [] = refl
looked-carried front (c ∷ cs) =
    let whole : (front ++ c ∷ []) ++ cs ≡ front ++ (c ∷ cs) = append_assoc front (c ∷ []) cs in
    let longer : length (front ++ c ∷ []) ≡ length front + 1 = grind (arith, common_steps) in
    let rest : looked (front ++ (c ∷ cs)) (length front + 1) (length cs) ≡ carried (code_behind (left_by front) c) cs =
    subst (λ (n : ℕ). looked (front ++ (c ∷ cs)) n (length cs) ≡ carried (code_behind (left_by front) c) cs) longer
    (subst (λ (xs : List ℕ). looked xs (length (front ++ c ∷ [])) (length cs) ≡ carried (code_behind (left_by front) c) cs) whole
    (looked-carried (front ++ c ∷ []) cs ∙ ap (λ n. carried n cs) (left_by-push front c))) in
    looked_step (front ++ (c ∷ cs)) (length front) (length cs)
    ∙ rw (counts_at front c cs, at_front front c cs, rest) refl

-- the same from the second letter on
pub counted_carried : (c : ℕ) (cs : List ℕ) → map (code_at (c ∷ cs)) (counted_places (c ∷ cs)) ≡ carried (code_behind 48 c) cs
counted_carried c cs =
    let n : length (c ∷ cs) - 1 ≡ length cs = grind (arith, common_steps) in
    ap (λ n. looked (c ∷ cs) 1 n) n ∙ looked-carried (c ∷ []) cs ∙ ap (λ n. carried n cs) (left_by-push [] c)

-- A key by the rules has one to six letters A to Z.

-- what holds of both results of a test holds of the result
either : {X : Type 0} (P : X → Type 0) (b : Bool) (x y : X) → (b ≡ true → P x) → (b ≡ false → P y) → P (cond b x y)
either P true x y h g = h refl
either P false x y h g = g refl

record IsLetter (c : ℕ) : Type 0 where
  pub low : 65 ≤ c
  pub high : c ≤ 90

abbrev AreLetters : List ℕ → Type 0
AreLetters = AllByRecursion IsLetter

letter : (c : ℕ) → 65 ≤ c → c ≤ 90 → IsLetter c
letter c low high = record { low = low; high = high }

-- three letters whose first is a letter, and the others where there was one
record AreThree (q r : ℕ) (t : Three) : Type 0 where
  pub here : IsLetter t.here
  pub next : IsLetter q → IsLetter t.next
  pub later : IsLetter r → IsLetter t.later

here_alone : (q r p : ℕ) → IsLetter p → AreThree q r (three_letters p q r)
here_alone q r p h = record { here = h; next = λ g. g; later = λ g. g }

here_and_next : (q r p n : ℕ) → IsLetter p → IsLetter n → AreThree q r (three_letters p n r)
here_and_next q r p n h g = record { here = h; next = λ _. g; later = λ g. g }

all_three : (q r p n l : ℕ) → IsLetter p → IsLetter n → IsLetter l → AreThree q r (three_letters p n l)
all_three q r p n l h g k = record { here = h; next = λ _. g; later = λ _. k }

front_letters : (p q r : ℕ) → IsLetter p → AreThree q r (front_rule p q r)
unfolding front_rule
front_letters p q r h =
    either (AreThree q r) (p == M && q == A && r == C) _ _ (λ _. all_three q r M C C (letter M (omega arith) (omega arith)) (letter C (omega arith) (omega arith)) (letter C (omega arith) (omega arith)))
    (λ _. either (AreThree q r) (p == K && q == N) _ _ (λ _. here_and_next q r N N (letter N (omega arith) (omega arith)) (letter N (omega arith) (omega arith)))
    (λ _. either (AreThree q r) (p == K) _ _ (λ _. here_alone q r C (letter C (omega arith) (omega arith)))
    (λ _. either (AreThree q r) (p == P && (q == H || q == F)) _ _ (λ _. here_and_next q r F F (letter F (omega arith) (omega arith)) (letter F (omega arith) (omega arith)))
    (λ _. either (AreThree q r) (p == S && q == C && r == H) _ _ (λ _. all_three q r S S S (letter S (omega arith) (omega arith)) (letter S (omega arith) (omega arith)) (letter S (omega arith) (omega arith)))
    (λ _. here_alone q r p h)))))

-- nothing before, or a letter
abbrev IsBefore : ℕ → Type 0
IsBefore before = (before ≡ 0) ⊎ IsLetter before

not_none : (e : ℕ) → IsBefore e → (e == 0) ≡ false → IsLetter e
not_none e (inl none) h = absurd (grind (arith, nat_tests))
not_none e (inr is) h = is

rule_letters : (before p q r : ℕ) → IsBefore before → IsLetter p → AreThree q r (body_rule before p q r)
unfolding body_rule
rule_letters before p q r b h =
    either (AreThree q r) (before == 0) _ _ (λ _. here_alone q r p h)
    (λ some. either (AreThree q r) (p == E && q == V) _ _ (λ _. here_and_next q r A F (letter A (omega arith) (omega arith)) (letter F (omega arith) (omega arith)))
    (λ _. either (AreThree q r) (in_vowels p) _ _ (λ _. here_alone q r A (letter A (omega arith) (omega arith)))
    (λ _. either (AreThree q r) (p == Q) _ _ (λ _. here_alone q r G (letter G (omega arith) (omega arith)))
    (λ _. either (AreThree q r) (p == Z) _ _ (λ _. here_alone q r S (letter S (omega arith) (omega arith)))
    (λ _. either (AreThree q r) (p == M) _ _ (λ _. here_alone q r N (letter N (omega arith) (omega arith)))
    (λ _. either (AreThree q r) (p == K && q == N) _ _ (λ _. here_alone q r N (letter N (omega arith) (omega arith)))
    (λ _. either (AreThree q r) (p == K) _ _ (λ _. here_alone q r C (letter C (omega arith) (omega arith)))
    (λ _. either (AreThree q r) (p == S && q == C && r == H) _ _ (λ _. all_three q r S S S (letter S (omega arith) (omega arith)) (letter S (omega arith) (omega arith)) (letter S (omega arith) (omega arith)))
    (λ _. either (AreThree q r) (p == P && q == H) _ _ (λ _. here_and_next q r F F (letter F (omega arith) (omega arith)) (letter F (omega arith) (omega arith)))
    (λ _. either (AreThree q r) (p == H && (not (in_vowels before) || not (in_vowels q))) _ _ (λ _. here_alone q r before (not_none before b some))
    (λ _. either (AreThree q r) (p == W && in_vowels before) _ _ (λ _. here_alone q r before (not_none before b some))
    (λ _. here_alone q r p h))))))))))))

behind_letters : (cs : List ℕ) (t : Three) → AreLetters cs → AreThree (slice_index cs 0) (slice_index cs 1) t → AreLetters (rewritten_behind cs t)
behind_letters [] t are three = tt
behind_letters (q ∷ []) t are three = (three.next are.0, tt)
behind_letters (q ∷ r ∷ cs) t are three = (three.next are.0, (three.later are.1.0, are.1.1))

front_are : (cs : List ℕ) → AreLetters cs → AreLetters (front cs)
front_are [] are = tt
front_are (p ∷ cs) are =
    let three = front_letters p (slice_index cs 0) (slice_index cs 1) are.0 in
    (three.here, behind_letters cs (front_rule p (slice_index cs 0) (slice_index cs 1)) are.1 three)

end_letter : (x y : ℕ) → IsBefore (end_rule x y)
unfolding end_rule
end_letter x y =
    either IsBefore ((x == E || x == I) && y == E) Y _ (λ _. inr (letter Y (omega arith) (omega arith)))
    (λ _. either IsBefore ((x == D || x == R || x == N) && y == T) D _ (λ _. inr (letter D (omega arith) (omega arith)))
    (λ _. either IsBefore ((x == R || x == N) && y == D) D 0 (λ _. inr (letter D (omega arith) (omega arith))) (λ _. inl refl)))

ended_are : (cs : List ℕ) → AreLetters cs → AreLetters (ended cs)
ended_are [] are = tt
ended_are (x ∷ []) are = are
ended_are (x ∷ y ∷ []) are = either AreLetters (end_rule x y == 0) (x ∷ y ∷ []) (end_rule x y ∷ []) (λ _. are) (λ other. (not_none (end_rule x y) (end_letter x y) other, tt))
ended_are (x ∷ y ∷ z ∷ zs) are = (are.0, ended_are (y ∷ z ∷ zs) are.1)

ended_some : (cs : List ℕ) → 0 < length cs → 0 < length (ended cs)
ended_some [] some = some
ended_some (x ∷ []) some = some
ended_some (x ∷ y ∷ []) some = either (λ cs. 0 < length cs) (end_rule x y == 0) (x ∷ y ∷ []) (end_rule x y ∷ []) (λ _. omega arith) (λ _. omega arith)
ended_some (x ∷ y ∷ z ∷ zs) some = omega arith

front_some : (cs : List ℕ) → 0 < length cs → 0 < length (front cs)
front_some [] some = some
front_some (p ∷ cs) some = omega arith

append_are : (xs ys : List ℕ) → AreLetters xs → AreLetters ys → AreLetters (xs ++ ys)
append_are [] ys h g = g
append_are (x ∷ xs) ys h g = (h.0, append_are xs ys h.1 g)

take_are : (n : ℕ) (xs : List ℕ) → AreLetters xs → AreLetters (take n xs)
take_are zero [] h = tt
take_are (suc n) [] h = tt
take_are zero (x ∷ xs) h = tt
take_are (suc n) (x ∷ xs) h = (h.0, take_are n xs h.1)

-- what is spelled of letters
spelled_are : (key : List ℕ) (c : ℕ) → AreLetters key → IsLetter c → AreLetters (spelled_on key c)
spelled_are key c are h = either AreLetters (last_of key == c) key (key ++ c ∷ []) (λ _. are) (λ _. append_are key (c ∷ []) are (h, tt))

spelled_long : (key : List ℕ) (c : ℕ) → length key ≤ length (spelled_on key c)
spelled_long key c = either (λ xs. length key ≤ length xs) (last_of key == c) key (key ++ c ∷ []) (λ _. omega arith) (λ _. grind (arith, common_steps))

body_are : (n before : ℕ) (cs key : List ℕ) → IsBefore before → AreLetters cs → AreLetters key → AreLetters (body_over n before cs key)
body_are zero before cs key b are k = k
body_are (suc n) before [] key b are k = k
body_are (suc n) before (p ∷ cs) key b are k =
    let t = body_rule before p (slice_index cs 0) (slice_index cs 1) in
    let three = rule_letters before p (slice_index cs 0) (slice_index cs 1) b are.0 in
    body_are n t.here (rewritten_behind cs t) (spelled_on key t.here) (inr three.here) (behind_letters cs t are.1 three) (spelled_are key t.here k three.here)

body_long : (n before : ℕ) (cs key : List ℕ) → length key ≤ length (body_over n before cs key)
body_long zero before cs key = omega arith
body_long (suc n) before [] key = omega arith
body_long (suc n) before (p ∷ cs) key =
    let t = body_rule before p (slice_index cs 0) (slice_index cs 1) in
    let a = spelled_long key t.here in
    let b = body_long n t.here (rewritten_behind cs t) (spelled_on key t.here) in
    omega arith

first_spelled : (c : ℕ) → IsLetter c → 0 < length (spelled_on [] c)
first_spelled c h = let low = h.low in either (λ cs. 0 < length cs) (last_of [] == c) [] (c ∷ []) (λ same. absurd (grind (arith, nat_tests))) (λ _. omega arith)

body_some : (before : ℕ) (cs : List ℕ) → IsBefore before → AreLetters cs → 0 < length cs → 0 < length (body before cs [])
unfolding body
body_some before [] b are some = some
body_some before (p ∷ cs) b are some =
    let t = body_rule before p (slice_index cs 0) (slice_index cs 1) in
    let three = rule_letters before p (slice_index cs 0) (slice_index cs 1) b are.0 in
    let first = first_spelled t.here three.here in
    let rest = body_long (length cs) t.here (rewritten_behind cs t) (spelled_on [] t.here) in
    omega arith

whole_are : (cs : List ℕ) → AreLetters cs → AreLetters (body 0 (ended (front cs)) [])
unfolding body
whole_are cs are = body_are (length (ended (front cs))) 0 (ended (front cs)) [] (inl refl) (ended_are (front cs) (front_are cs are)) tt

-- the end of a key
last_are : (c : ℕ) (key : List ℕ) → AreLetters key → AreLetters (without_last_letter c key)
last_are c key are = either AreLetters (nat_lt 1 (length key) && last_of key == c) (take (length key - 1) key) key (λ _. take_are (length key - 1) key are) (λ _. are)

room : (n : ℕ) (b : Bool) → (nat_lt 1 n && b) ≡ true → 1 < n
room n b h = grind (arith, nat_tests)

shorter_some : (key : List ℕ) → 1 < length key → 0 < length (take (length key - 1) key)
shorter_some key h = grind (arith, common_steps)

last_some : (c : ℕ) (key : List ℕ) → 0 < length key → 0 < length (without_last_letter c key)
last_some c key some = either (λ xs. 0 < length xs) (nat_lt 1 (length key) && last_of key == c) (take (length key - 1) key) key (λ h. shorter_some key (room (length key) (last_of key == c) h)) (λ _. some)

joined_are : (key : List ℕ) → AreLetters key → AreLetters (with_ay_joined key)
joined_are key are = either AreLetters _ (take (length key - 2) key ++ Y ∷ []) key (λ _. append_are (take (length key - 2) key) (Y ∷ []) (take_are (length key - 2) key are) (letter Y (omega arith) (omega arith), tt)) (λ _. are)

joined_some : (key : List ℕ) → 0 < length key → 0 < length (with_ay_joined key)
joined_some key some = either (λ xs. 0 < length xs) _ (take (length key - 2) key ++ Y ∷ []) key (λ _. grind (arith, common_steps)) (λ _. some)

cut_some : (most : ℕ) (key : List ℕ) → 0 < most → 0 < length key → 0 < length (take most key)
cut_some most key h some = grind (arith, common_steps)

cut_few : (most : ℕ) (key : List ℕ) → length (take most key) ≤ most
cut_few most key = grind (arith, common_steps)

-- letters by their test
is_in : (c : ℕ) → IsLetter c → IsTrue (in_alphabet c)
is_in c is = let low = is.low in let high = is.high in grind (arith, nat_tests)

tail_key : (key : List ℕ) → AreLetters key → 0 < length key → IsKey (tail_of key)
unfolding tail_of
tail_key key are some =
    let a = without_last_letter S key in
    let b = with_ay_joined a in
    let c = without_last_letter A b in
    record {
      some = cut_some 6 c (omega arith) (last_some A b (joined_some a (last_some S key some)));
      few = cut_few 6 c;
      letters = λ k d lt. is_in _ (All-from_recursion IsLetter (take 6 c) (take_are 6 c (last_are A b (joined_are a (last_are S key are)))) k d lt);
    }

-- the letters of a text
text_letters : (text : List ℕ) → AreLetters (letters_of text)
text_letters [] = tt
text_letters (c ∷ cs) = either AreLetters (in_alphabet c) (c ∷ letters_of cs) (letters_of cs) (λ is. (letter c (grind (arith, nat_tests)) (grind (arith, nat_tests)), text_letters cs)) (λ _. text_letters cs)

pub text_key : (text : List ℕ) → 0 < length (letters_of text) → IsKey (tail_of (body 0 (ended (front (letters_of text))) []))
text_key text some =
    let letters = letters_of text in
    tail_key (body 0 (ended (front letters)) []) (whole_are letters (text_letters text))
    (body_some 0 (ended (front letters)) (inl refl) (ended_are (front letters) (front_are letters (text_letters text))) (ended_some (front letters) (front_some letters some)))
