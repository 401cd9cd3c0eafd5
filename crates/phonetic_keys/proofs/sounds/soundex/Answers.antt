use Rattle.std.proofs.Common.{◌≡◌, ℕ, zero, suc, ◌≤◌, ◌<◌, List, [], ◌∷◌, ◌++◌, Some, codes, take, drop, length, get_or, ap, sym, ◌∙◌, arith}
use Rattle.std.proofs.lemmas.List.{at_drop_all}
use Rattle.phonetic_keys.specs.Carry.{key_with}
use Rattle.phonetic_keys.specs.Alphabet.{letters_of}
use Rattle.phonetic_keys.specs.Soundex.{carried, code_behind, soundex_key}
use Rattle.phonetic_keys.proofs.CarryingLaw.{counted_carried}
use Rattle.phonetic_keys.proofs.sounds.soundex.Goals as goal

-- a key that is full, or has zeros from count on, is what its front and zeros give
filled : (key : List ℕ) (count : ℕ) → length key ≡ 4 → 1 ≤ count → count ≤ 4 → ((k : ℕ) → count ≤ k → k < 4 → get_or key k 0 ≡ 48) → key ≡ take 4 (take count key ++ codes "000")
filled (a ∷ b ∷ c ∷ d ∷ []) (suc zero) size some few z =
    let x = z 1 (omega arith) (omega arith) in
    let y = z 2 (omega arith) (omega arith) in
    let w = z 3 (omega arith) (omega arith) in cc
filled (a ∷ b ∷ c ∷ d ∷ []) (suc (suc zero)) size some few z =
    let y = z 2 (omega arith) (omega arith) in
    let w = z 3 (omega arith) (omega arith) in cc
filled (a ∷ b ∷ c ∷ d ∷ []) (suc (suc (suc zero))) size some few z =
    let w = z 3 (omega arith) (omega arith) in cc
filled (a ∷ b ∷ c ∷ d ∷ []) (suc (suc (suc (suc zero)))) size some few z = cc
filled xs count size some few z = absurd (omega arith)

-- the key by carrying is the key by looking back
key_by_carrying : (letters cs : List ℕ) (c : ℕ) → letters ≡ c ∷ cs → soundex_key letters ≡ Some (take 4 (c ∷ (carried (code_behind 48 c) cs ++ codes "000")))
key_by_carrying letters cs c is = ap soundex_key is ∙ ap (λ ds. Some (take 4 (c ∷ (ds ++ codes "000")))) (counted_carried c cs)

pub returns-clause-key : goal.returns-clause-key
returns-clause-key c =
    let letters = key_by_carrying (letters_of c.args.text.now) (letters_of c.in_ok-first.rest.now) c.in_ok-first.first c.in_ok-first.ensures.1 in
    let over : letters_of (drop c.loop-byte.byte-index c.in_ok-first.rest.now) ≡ [] = at_drop_all letters_of c.in_ok-first.rest.now c.loop-byte.byte-index (omega arith) in
    let carry = c.loop-byte.invariant.carry in
    let is = filled c.loop-byte.carry.key c.loop-byte.carry.count carry.size carry.some carry.few carry.zeros in
    ap Some (is ∙ ap (λ ds. key_with c.loop-byte.carry (carried c.loop-byte.carry.last ds)) (sym over) ∙ c.loop-byte.invariant.key) ∙ sym letters
