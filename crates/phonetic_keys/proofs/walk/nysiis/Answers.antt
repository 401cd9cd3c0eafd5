use Rattle.std.proofs.Common.{◌≡◌, ℕ, ◌+◌, ◌<◌, ◌≤◌, List, [], ◌∷◌, Bool, Some, cond, true, false, drop, length, get_or, refl, ap, sym, ◌∙◌, subst, arith}
use Rattle.std.proofs.lemmas.List.{at_drop_all, at_drop_more}
use Rattle.std.proofs.lemmas.Bool.Decides.{nat_tests}
use Rattle.phonetic_keys.specs.Alphabet.{in_alphabet, letters_of}
use Rattle.phonetic_keys.specs.Nysiis.{body, ended, front, nysiis_key, spelled_on, tail_of, IsKey}
use Rattle.phonetic_keys.specs.Walks.{KeepsKey, HasNoGaps, StepsOverPlace, text_of}
use Rattle.phonetic_keys.specs.declared.walk.Walk.{Walk}
use Rattle.phonetic_keys.proofs.CarryingLaw.{text_key}
use Rattle.phonetic_keys.proofs.WalkLemmas.{full, filled_more, step_over}
use Rattle.phonetic_keys.proofs.walk.nysiis.Goals as goal
use Rattle.phonetic_keys.proofs.walk.nysiis.Goals.{then-is_letter, else-is_letter}

-- the letters from a place on, by whether a letter stands there
letters_here : (xs : List ℕ) (i : ℕ) (test : Bool) → i < length xs → in_alphabet (get_or xs i 0) ≡ test → letters_of (drop i xs) ≡ cond test (get_or xs i 0 ∷ letters_of (drop (i + 1) xs)) (letters_of (drop (i + 1) xs))
letters_here xs i test lt is = at_drop_more letters_of xs i 0 lt ∙ ap (λ b. cond b (get_or xs i 0 ∷ letters_of (drop (i + 1) xs)) (letters_of (drop (i + 1) xs))) is

positive : (c : ℕ) → in_alphabet c ≡ true → 0 < c
positive c letter = grind (arith, nat_tests)

-- the key of a text with a letter
with_letter : (letters : List ℕ) → 0 < length letters → nysiis_key letters ≡ Some (tail_of (body 0 (ended (front letters)) []))
with_letter [] some = absurd (omega arith)
with_letter (c ∷ cs) some = refl

pub loop-byte-init : goal.loop-byte-init
loop-byte-init c =
    let starts = c.in_ok-walk.ensures in
    record {
      filled = starts.filled;
      key = ([], starts.key, ap (λ b. body b (ended (text_of c.in_ok-walk.walk (letters_of c.in_ok-walk.rest.now))) []) starts.before ∙ ap (λ cs. body 0 (ended cs) []) starts.text);
    }

pub step-requires : goal.step-requires
step-requires c =
    let xs = c.in_ok-walk.rest.now in
    let i = c.loop-byte.byte-index in
    let here = letters_here xs i true c.loop-byte-test.true (sym c.is_letter.ensures ∙ c.if-is_letter.true) in
    (full c.loop-byte.walk (get_or xs i 0) (letters_of (drop (i + 1) xs)) (subst (λ ls. HasNoGaps c.loop-byte.walk ls) here c.loop-byte.invariant.filled)).p

pub loop-byte-preserved : goal.loop-byte-preserved
loop-byte-preserved c =
    let xs = c.in_ok-walk.rest.now in
    let i = c.loop-byte.byte-index in
    let more = letters_of (drop (i + 1) xs) in
    let before = c.loop-byte.invariant.key in
    elim c.if-is_letter.branch [
      | then-is_letter w ↦
          let letter = sym c.is_letter.ensures ∙ w.if-is_letter.true in
          let here = letters_here xs i true c.loop-byte-test.true letter in
          let filled = subst (λ ls. HasNoGaps c.loop-byte.walk ls) here c.loop-byte.invariant.filled in
          let is = full c.loop-byte.walk (get_or xs i 0) more filled in
          let some = positive (get_or xs i 0) letter in
          let stepped : StepsOverPlace c.loop-byte.walk c.if-is_letter.walk (get_or xs i 0) = subst (λ v. StepsOverPlace c.loop-byte.walk v (get_or xs i 0)) (sym w.walk-is) w.step.ensures in
          record {
            filled = filled_more c.loop-byte.walk c.if-is_letter.walk (get_or xs i 0) more some is stepped;
            key = (
              spelled_on before.0 c.if-is_letter.walk.before,
              stepped.key before.0 before.1,
              sym (step_over c.loop-byte.walk c.if-is_letter.walk before.0 (get_or xs i 0) more some is stepped)
                  ∙ ap (λ ls. body c.loop-byte.walk.before (ended (text_of c.loop-byte.walk ls)) before.0) (sym here)
                  ∙ before.2,
            );
          }
      | else-is_letter w ↦
          let none = letters_here xs i false c.loop-byte-test.true (sym c.is_letter.ensures ∙ w.if-is_letter.false) in
          let kept = c.loop-byte.invariant in
          subst (λ v. record { filled : HasNoGaps v more; key : (all : List ℕ) × KeepsKey all v.key × (body v.before (ended (text_of v more)) all ≡ body 0 (ended (front (letters_of c.args.text.now))) []) }) (sym w.walk-is) (record {
            filled = subst (λ ls. HasNoGaps c.loop-byte.walk ls) none kept.filled;
            key = (before.0, before.1, ap (λ ls. body c.loop-byte.walk.before (ended (text_of c.loop-byte.walk ls)) before.0) (sym none) ∙ before.2);
          })
    ]

-- where no letter is left, what the walk gives is the key
finished : (xs : List ℕ) (i : ℕ) (w : Walk) (letters result : List ℕ) → length xs ≤ i
    → (all : List ℕ) × KeepsKey all w.key × (body w.before (ended (text_of w (letters_of (drop i xs)))) all ≡ body 0 (ended (front letters)) [])
    → ((all : List ℕ) → KeepsKey all w.key → result ≡ tail_of (body w.before (ended (text_of w [])) all))
    → result ≡ tail_of (body 0 (ended (front letters)) [])
finished xs i w letters result end before gives =
    let over : letters_of (drop i xs) ≡ [] = at_drop_all letters_of xs i end in
    gives before.0 before.1
    ∙ ap (λ ls. tail_of (body w.before (ended (text_of w ls)) before.0)) (sym over)
    ∙ ap tail_of before.2

pub key-requires : goal.key-requires
key-requires c =
    let letters = letters_of c.args.text.now in
    let is : c.finish.result ≡ tail_of (body 0 (ended (front letters)) []) =
    finished c.in_ok-walk.rest.now c.loop-byte.byte-index c.loop-byte.walk letters c.finish.result (omega arith) c.loop-byte.invariant.key c.finish.ensures in
    subst IsKey (sym is) (text_key c.args.text.now c.in_ok-walk.ensures.some)

pub returns-clause-key : goal.returns-clause-key
returns-clause-key c =
    let letters = letters_of c.args.text.now in
    ap Some (c.key.ensures ∙ finished c.in_ok-walk.rest.now c.loop-byte.byte-index c.loop-byte.walk letters c.finish.result (omega arith) c.loop-byte.invariant.key c.finish.ensures)
    ∙ sym (with_letter letters c.in_ok-walk.ensures.some)
