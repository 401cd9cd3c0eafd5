-- The tail of a long key is its front.
use Rattle.std.proofs.Common.{◌≡◌, ℕ, ◌+◌, ◌-◌, ◌≤◌, List, [], ◌∷◌, ◌++◌, Bool, true, false, cond, take, length, refl, ap, sym, ◌∙◌, arith, ◌↔◌, zero, suc, ◌<◌, min, slice_index, take-take}
use Rattle.std.proofs.lemmas.Grind.{common_steps}
use Rattle.phonetic_keys.specs.Alphabet.{A, S, Y}
use Rattle.phonetic_keys.specs.Nysiis.{tail_to, without_last_letter, with_ay_joined, body, body_over, ended, rewritten_behind, body_rule, spelled_on}
use Rattle.phonetic_keys.specs.declared.rewriting.Three.{Three}
use Rattle.phonetic_keys.specs.Walks.{KeepsLetters, HasNoGaps, StepsOverPlace, shown, text_of}
use Rattle.phonetic_keys.specs.declared.walk.Walk.{Walk}

-- the first n letters are the same, and there are at least k
record SameFront (n k : ℕ) (xs ys : List ℕ) : Type 0 where
  pub front : take n xs ≡ take n ys
  pub room : k ≤ length xs

chosen : (n k : ℕ) (b : Bool) (xs ys zs : List ℕ) → SameFront n k xs zs → SameFront n k ys zs → SameFront n k (cond b xs ys) zs
chosen n k true xs ys zs p q = p
chosen n k false xs ys zs p q = q

shorter : (n m : ℕ) (key : List ℕ) → n ≤ m → m ≤ length key → SameFront n n (take m key) key
shorter n m key le inside = record { front = grind (arith, common_steps); room = grind (arith, common_steps) }

joined : (n m y : ℕ) (key : List ℕ) → n ≤ m → m ≤ length key → SameFront n (n + 1) (take m key ++ y ∷ []) key
joined n m y key le inside = record { front = grind (arith, common_steps); room = grind (arith, common_steps) }

without_last_front : (n c : ℕ) (key : List ℕ) → n + 1 ≤ length key → SameFront n n (without_last_letter c key) key
without_last_front n c key room = chosen n n _ _ _ _ (shorter n (length key - 1) key (omega arith) (omega arith)) (record { front = refl; room = omega arith })

joined_front : (n : ℕ) (key : List ℕ) → n + 2 ≤ length key → SameFront n (n + 1) (with_ay_joined key) key
joined_front n key room = chosen n (n + 1) _ _ _ _ (joined n (length key - 2) Y key (omega arith) (omega arith)) (record { front = refl; room = omega arith })

lower : (n m k : ℕ) (xs ys : List ℕ) → n ≤ m → SameFront m k xs ys → take n xs ≡ take n ys
lower n m k xs ys le s = sym (take-take n m xs le) ∙ ap (λ zs. take n zs) s.front ∙ take-take n m ys le

pub long_tail : (n : ℕ) (key : List ℕ) → n + 3 ≤ length key → tail_to n key ≡ take n key
long_tail n key room =
    let a = without_last_front (n + 2) S key (omega arith) in
    let b = joined_front n (without_last_letter S key) a.room in
    let d = without_last_front n A (with_ay_joined (without_last_letter S key)) b.room in
    d.front ∙ b.front ∙ lower n (n + 2) (n + 2) (without_last_letter S key) key (omega arith) a

-- a buffer that is full holds the front of the key
pub full_front : (letters all : List ℕ) (count m n : ℕ) → take count letters ≡ take (length letters) all → length letters ≡ m → m ≤ count → n ≤ m → take n (take m letters) ≡ take n all
full_front letters all count m n front size full le = grind (arith, common_steps)

-- A step of a walk, on letters.

pub shown_some : (c : ℕ) (cs : List ℕ) → 0 < c → shown c cs ≡ c ∷ cs
shown_some zero cs h = absurd (omega arith)
shown_some (suc c) cs h = refl

pub shown_none : (c : ℕ) (cs : List ℕ) → c ≡ 0 → shown c cs ≡ cs
shown_none zero cs h = refl
shown_none (suc c) cs h = absurd (omega arith)

zero_by : (a b : ℕ) → (0 < a) ↔ (0 < b) → a ≡ 0 → b ≡ 0
zero_by a b e h = grind arith

zero_back : (a b : ℕ) → (0 < a) ↔ (0 < b) → b ≡ 0 → a ≡ 0
zero_back a b e h = grind arith

one_each : (a b : ℕ) → (0 < a) ↔ (0 < b) → min 1 a ≡ min 1 b
one_each a b e = grind arith

length_behind : (cs : List ℕ) (t : Three) → length (rewritten_behind cs t) ≡ length cs
length_behind [] t = refl
length_behind (q ∷ []) t = refl
length_behind (q ∷ r ∷ cs) t = refl

body_place : (before p : ℕ) (cs all : List ℕ) (t : Three) → t ≡ body_rule before p (slice_index cs 0) (slice_index cs 1) → body before (p ∷ cs) all ≡ body t.here (rewritten_behind cs t) (spelled_on all t.here)
unfolding body
body_place before p cs all t is =
    ap (λ (u : Three). body_over (length cs) u.here (rewritten_behind cs u) (spelled_on all u.here)) (sym is)
    ∙ ap (λ n. body_over n t.here (rewritten_behind cs t) (spelled_on all t.here)) (sym (length_behind cs t))

first_seen : (q r : ℕ) (zs : List ℕ) → (q ≡ 0 → r ≡ 0) → (r ≡ 0 → zs ≡ []) → slice_index (shown q (shown r zs)) 0 ≡ q
first_seen (suc q) r zs g h = refl
first_seen zero zero zs g h = ap (λ xs. slice_index xs 0) (h refl)
first_seen zero (suc r) zs g h = g refl

second_seen : (q r : ℕ) (zs : List ℕ) → (q ≡ 0 → r ≡ 0) → (r ≡ 0 → zs ≡ []) → slice_index (shown q (shown r zs)) 1 ≡ r
second_seen (suc q) (suc r) zs g h = refl
second_seen (suc q) zero zs g h = ap (λ xs. slice_index xs 0) (h refl)
second_seen zero zero zs g h = ap (λ xs. slice_index xs 1) (h refl)
second_seen zero (suc r) zs g h = absurd (let e : suc r ≡ 0 = g refl in omega arith)

behind_seen : (p q r : ℕ) (zs : List ℕ) (t : Three) → (q ≡ 0 → r ≡ 0) → (r ≡ 0 → zs ≡ []) → KeepsLetters p q r t → rewritten_behind (shown q (shown r zs)) t ≡ shown t.next (shown t.later zs)
behind_seen p (suc q) (suc r) zs t g h k =
    sym (shown_some t.next _ (k.next.0 (omega arith)) ∙ ap (λ xs. t.next ∷ xs) (shown_some t.later zs (k.later.0 (omega arith))))
behind_seen p (suc q) zero zs t g h k =
    ap (λ xs. rewritten_behind (suc q ∷ xs) t) (h refl)
    ∙ sym (shown_some t.next _ (k.next.0 (omega arith)) ∙ ap (λ xs. t.next ∷ xs) (shown_none t.later zs (zero_by zero t.later k.later refl) ∙ h refl))
behind_seen p zero zero zs t g h k =
    ap (λ xs. rewritten_behind xs t) (h refl)
    ∙ sym (shown_none t.next _ (zero_by zero t.next k.next refl) ∙ shown_none t.later zs (zero_by zero t.later k.later refl) ∙ h refl)
behind_seen p zero (suc r) zs t g h k = absurd (let e : suc r ≡ 0 = g refl in omega arith)

-- one place, where the text behind the first three letters may be any
pub place : (before p q r : ℕ) (zs all : List ℕ) (t : Three) → (q ≡ 0 → r ≡ 0) → (r ≡ 0 → zs ≡ []) → KeepsLetters p q r t → t ≡ body_rule before p q r → body before (p ∷ shown q (shown r zs)) all ≡ body t.here (shown t.next (shown t.later zs)) (spelled_on all t.here)
place before p q r zs all t g h k is =
    body_place before p (shown q (shown r zs)) all t (is ∙ sym (ap (λ a. body_rule before p a (slice_index (shown q (shown r zs)) 1)) (first_seen q r zs g h) ∙ ap (λ b. body_rule before p q b) (second_seen q r zs g h)))
    ∙ ap (λ cs. body t.here cs (spelled_on all t.here)) (behind_seen p q r zs t g h k)

pub body_over_nothing : (before : ℕ) (all : List ℕ) → body before [] all ≡ all
unfolding body
body_over_nothing before all = refl

length_shown : (c : ℕ) (cs : List ℕ) → length (shown c cs) ≡ min 1 c + length cs
length_shown zero cs = omega arith
length_shown (suc c) cs = omega arith

-- a step over a place leaves one letter less
pub one_less : (w v : Walk) → 0 < w.p → StepsOverPlace w v 0 → length (text_of v []) < length (text_of w [])
one_less w v some steps =
    let a = length_shown w.p (shown w.q (shown w.r (shown w.s []))) in
    let b = length_shown w.q (shown w.r (shown w.s [])) in
    let d = length_shown w.r (shown w.s []) in
    let e = length_shown v.p (shown v.q (shown v.r (shown v.s []))) in
    let f = length_shown v.q (shown v.r (shown v.s [])) in
    let tail : shown v.r (shown v.s []) ≡ shown w.s [] = ap (λ r. shown r (shown v.s [])) steps.r ∙ ap (λ s. shown w.s (shown s [])) steps.s in
    let k = ap length tail in
    let x = one_each w.q v.p steps.p in
    let y = one_each w.r v.q steps.q in
    omega arith

pub nothing_left : (w : Walk) → HasNoGaps w [] → w.p ≡ 0 → text_of w [] ≡ []
nothing_left w filled none =
    let q = filled.p none in let r = filled.q q in let s = filled.r r in
    shown_none w.p _ none ∙ shown_none w.q _ q ∙ shown_none w.r _ r ∙ shown_none w.s _ s

pub filled_after_step : (w v : Walk) → HasNoGaps w [] → StepsOverPlace w v 0 → HasNoGaps v []
filled_after_step w v filled steps = record {
  p = λ h. zero_by w.r v.q steps.q (filled.q (zero_back w.q v.p steps.p h));
  q = λ h. steps.r ∙ filled.r (zero_back w.r v.q steps.q h);
  r = λ h. steps.s;
  s = λ h. refl;
}

-- a step, where no letter is still to come
pub step_to_end : (w v : Walk) (all : List ℕ) → 0 < w.p → HasNoGaps w [] → StepsOverPlace w v 0 → body w.before (text_of w []) all ≡ body v.before (text_of v []) (spelled_on all v.before)
step_to_end w v all some filled steps =
    ap (λ cs. body w.before cs all) (shown_some w.p _ some)
    ∙ steps.text all (shown w.s []) filled.q (λ r. shown_none w.s [] (filled.r r))
    ∙ ap (λ zs. body v.before (shown v.p (shown v.q zs)) (spelled_on all v.before)) (sym (ap (λ r. shown r (shown v.s [])) steps.r ∙ ap (λ s. shown w.s (shown s [])) steps.s))

-- where a letter is still to come, all places at hand have one
pub record IsFull (w : Walk) : Type 0 where
  pub p : 0 < w.p
  pub q : 0 < w.q
  pub r : 0 < w.r
  pub s : 0 < w.s

nonzero : (n : ℕ) → (n ≡ 0 → ⊥) → 0 < n
nonzero zero h = absurd (h refl)
nonzero (suc n) h = omega arith

pub full : (w : Walk) (c : ℕ) (more : List ℕ) → HasNoGaps w (c ∷ more) → IsFull w
full w c more filled =
    let s : 0 < w.s = nonzero w.s (λ h. let e : c ∷ more ≡ [] = filled.s h in cc) in
    let r : 0 < w.r = nonzero w.r (λ h. let e = filled.r h in omega arith) in
    let q : 0 < w.q = nonzero w.q (λ h. let e = filled.q h in omega arith) in
    let p : 0 < w.p = nonzero w.p (λ h. let e = filled.p h in omega arith) in
    record { p = p; q = q; r = r; s = s }

pub filled_more : (w v : Walk) (c : ℕ) (more : List ℕ) → 0 < c → IsFull w → StepsOverPlace w v c → HasNoGaps v more
filled_more w v c more some is steps =
    record { p = λ h. absurd (omega arith); q = λ h. absurd (omega arith); r = λ h. absurd (omega arith); s = λ h. absurd (omega arith) }

ended_far : (p q r s c : ℕ) (more : List ℕ) → 0 < p → 0 < q → 0 < r → 0 < s → ended (shown p (shown q (shown r (shown s (c ∷ more))))) ≡ p ∷ shown q (shown r (ended (s ∷ c ∷ more)))
ended_far (suc p) (suc q) (suc r) (suc s) c more hp hq hr hs = refl
ended_far p q r s c more hp hq hr hs = absurd (omega arith)

ended_near : (p q s c : ℕ) (more : List ℕ) → 0 < p → 0 < q → 0 < s → 0 < c → ended (shown p (shown q (shown s (shown c more)))) ≡ shown p (shown q (ended (s ∷ c ∷ more)))
ended_near (suc p) (suc q) (suc s) (suc c) more hp hq hs hc = refl
ended_near p q s c more hp hq hs hc = absurd (omega arith)

-- a step, where the letter that it takes was still to come
pub step_over : (w v : Walk) (all : List ℕ) (c : ℕ) (more : List ℕ) → 0 < c → IsFull w → StepsOverPlace w v c → body w.before (ended (text_of w (c ∷ more))) all ≡ body v.before (ended (text_of v more)) (spelled_on all v.before)
step_over w v all c more some is steps =
    let q = is.q in let r = is.r in
    ap (λ cs. body w.before cs all) (ended_far w.p w.q w.r w.s c more is.p is.q is.r is.s)
    ∙ steps.text all (ended (w.s ∷ c ∷ more)) (λ h. absurd (omega arith)) (λ h. absurd (omega arith))
    ∙ ap (λ cs. body v.before cs (spelled_on all v.before)) (sym (
    ap (λ r. ended (shown v.p (shown v.q (shown r (shown v.s more))))) steps.r
    ∙ ap (λ s. ended (shown v.p (shown v.q (shown w.s (shown s more))))) steps.s
    ∙ ended_near v.p v.q w.s c more (steps.p.0 is.q) (steps.q.0 is.r) is.s some))
