-- This project's NYSIIS: tail(body(end(front(letters)))). `nysiis` carries it (clause `key`).
use Rattle.std.specs.Prelude.{ℕ, List, ◌≤◌, All, IsTrue, length, zero, suc, [], ◌∷◌, ◌++◌, ◌-◌, ◌&&◌, ◌||◌, not, ◌==◌, nat_lt, if◌then◌else◌, Option, Some, None, take, slice_index}
use Rattle.phonetic_keys.specs.Alphabet.{in_alphabet, letters_of, A, C, D, E, F, G, H, I, K, M, N, P, Q, R, S, T, V, W, Y, Z, in_vowels}
use Rattle.phonetic_keys.specs.declared.rewriting.Three.{Three}

-- The form of a NYSIIS key: what `Nysiis` is seen as (`Nysiis::bytes`, clause `letters`).

-- one to six letters A to Z
pub record IsKey (key : List ℕ) : Type 0 where
  pub some : 1 ≤ length key
  pub few : length key ≤ 6
  pub letters : All (λ letter. IsTrue (in_alphabet letter)) key

-- three letters in a row, 0 where there is none
abbrev pub three_letters : ℕ → ℕ → ℕ → Three
three_letters p q r = record { here = p; next = q; later = r }

-- the letters behind a place, of which the first two are rewritten
abbrev pub rewritten_behind : List ℕ → Three → List ℕ
rewritten_behind [] t = []
rewritten_behind (q ∷ []) t = t.next ∷ []
rewritten_behind (q ∷ r ∷ cs) t = t.next ∷ t.later ∷ cs

-- FRONT: the first that fits, once

unfoldable pub front_rule : ℕ → ℕ → ℕ → Three
front_rule p q r =
    if p == M && q == A && r == C then three_letters M C C
    else (if p == K && q == N then three_letters N N r
    else (if p == K then three_letters C q r
    else (if p == P && (q == H || q == F) then three_letters F F r
    else (if p == S && q == C && r == H then three_letters S S S
    else three_letters p q r))))

abbrev pub front : List ℕ → List ℕ
front [] = []
front (p ∷ cs) =
    let t = front_rule p (slice_index cs 0) (slice_index cs 1) in t.here ∷ rewritten_behind cs t

-- END: the first that fits, once

-- what two last letters become, 0 where they stay
unfoldable pub end_rule : ℕ → ℕ → ℕ
end_rule x y =
    if (x == E || x == I) && y == E then Y
    else (if (x == D || x == R || x == N) && y == T then D
    else (if (x == R || x == N) && y == D then D else 0))

abbrev pub ended : List ℕ → List ℕ
ended [] = []
ended (x ∷ []) = x ∷ []
ended (x ∷ y ∷ []) = if end_rule x y == 0 then x ∷ y ∷ [] else end_rule x y ∷ []
ended (x ∷ y ∷ z ∷ zs) = x ∷ ended (y ∷ z ∷ zs)

-- BODY

-- the first rule that fits at a place; before is the letter before, 0 at the first place, where nothing is rewritten
unfoldable pub body_rule : ℕ → ℕ → ℕ → ℕ → Three
body_rule before p q r =
    if before == 0 then three_letters p q r
    else (if p == E && q == V then three_letters A F r
    else (if in_vowels p then three_letters A q r
    else (if p == Q then three_letters G q r
    else (if p == Z then three_letters S q r
    else (if p == M then three_letters N q r
    else (if p == K && q == N then three_letters N q r
    else (if p == K then three_letters C q r
    else (if p == S && q == C && r == H then three_letters S S S
    else (if p == P && q == H then three_letters F F r
    else (if p == H && (not (in_vowels before) || not (in_vowels q)) then three_letters before q r
    else (if p == W && in_vowels before then three_letters before q r
    else three_letters p q r)))))))))))

abbrev pub last_of : List ℕ → ℕ
last_of key = slice_index key (length key - 1)

-- a key with a letter behind it, if it differs from the key's last
abbrev pub spelled_on : List ℕ → ℕ → List ℕ
spelled_on key c = if last_of key == c then key else key ++ c ∷ []

-- the key after so many more places: of the letter before, the text from there on, and the key so far
abbrev pub body_over : ℕ → ℕ → List ℕ → List ℕ → List ℕ
body_over zero before text key = key
body_over (suc n) before [] key = key
body_over (suc n) before (p ∷ cs) key =
    let t = body_rule before p (slice_index cs 0) (slice_index cs 1) in
    body_over n t.here (rewritten_behind cs t) (spelled_on key t.here)

unfoldable pub body : ℕ → List ℕ → List ℕ → List ℕ
body before text key = body_over (length text) before text key

-- TAIL, never past the first letter

abbrev pub without_last_letter : ℕ → List ℕ → List ℕ
without_last_letter c key = if nat_lt 1 (length key) && last_of key == c then take (length key - 1) key else key

abbrev pub with_ay_joined : List ℕ → List ℕ
with_ay_joined key =
    if nat_lt 2 (length key) && slice_index key (length key - 2) == A && last_of key == Y
    then take (length key - 2) key ++ Y ∷ []
    else key

-- at most that many letters
abbrev pub tail_to : ℕ → List ℕ → List ℕ
tail_to most key = take most (without_last_letter A (with_ay_joined (without_last_letter S key)))

unfoldable pub tail_of : List ℕ → List ℕ
tail_of key = tail_to 6 key

abbrev pub nysiis_key : List ℕ → Option (List ℕ)
nysiis_key [] = None
nysiis_key (c ∷ cs) = Some (tail_of (body 0 (ended (front (c ∷ cs))) []))

-- the NYSIIS key of a text; none where it has no letter
abbrev pub nysiis_of : List ℕ → Option (List ℕ)
nysiis_of text = nysiis_key (letters_of text)
