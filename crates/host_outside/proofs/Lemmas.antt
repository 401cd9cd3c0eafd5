-- A name that is split at its last slash.
use Rattle.std.proofs.Common.{◌≡◌, ℕ, refl, zero, suc, ◌+◌, ◌-◌, ◌≤◌, ◌<◌, List, length, get_or, take, drop, Some, None, MatchOption, sym, ap, ◌∙◌, ⊎_elim, arith, Bor, eq-eqb, ne_eqb, get_or-drop, length-drop, Option, option_map, ◌∷◌, ◌++◌, [], subst, HoldsAt, ℤ, Bool, true, false, ◌&&◌, int_eq, nat_eq, IfSome}
use Rattle.std.specs.Str.Pattern.{RFindsChar}
use Rattle.std.specs.Path.{rfind_below, rsplit_once}
use Rattle.std.proofs.lemmas.Str.Pattern.{NoCharPasses-char}
use Rattle.std.proofs.lemmas.Str.{len_utf8_ascii}
use Rattle.std.proofs.lemmas.Bool.{cases_eq, cond-true, cond-false, and_parts, eqb-true}
use Rattle.std.proofs.lemmas.List.{get_or_at}
use Rattle.std.specs.Bool.{OnFalse, OnTrue}
use Rattle.std.proofs.lemmas.Bool.Decides.{Decides-int_eq}
use Rattle.host_outside.specs.HostFile.{IsSameFile}
use Rattle.host_outside.specs.declared.host_file.FileState.{FileState}

none_below : (c : ℕ) (text : List ℕ) (n : ℕ) → ((i : ℕ) → i < n → get_or text i 0 ≡ c → ⊥) → rfind_below c text n ≡ None
none_below c text zero h = refl
none_below c text (suc n) h = cond-false _ _ _ (ne_eqb _ c (h n (omega arith))) ∙ none_below c text n (λ i l. h i (omega arith))

last_below : (c : ℕ) (text : List ℕ) (k n : ℕ) → k < n → get_or text k 0 ≡ c → ((i : ℕ) → k < i → i < n → get_or text i 0 ≡ c → ⊥) → rfind_below c text n ≡ Some k
last_below c text k zero l at h = absurd (omega arith)
last_below c text k (suc n) l at h =
    ⊎_elim
    (λ e. cond-true _ _ _ (eq-eqb _ c (ap (λ j. get_or text j 0) (sym e) ∙ at)) ∙ ap (λ j. Some j) (sym e))
    (λ other. cond-false _ _ _ (ne_eqb _ c (h n (omega arith) (omega arith))) ∙ last_below c text k n (omega arith) at (λ i a b. h i a (omega arith)))
    (cases_eq k n)

-- what `str::rsplit_once` finds of an ASCII character is the split at the last such byte
pub split_at_last : (c : ℕ) (text : List ℕ) (r : Option (Bor (List ℕ) × Bor (List ℕ)))
    → MatchOption r (RFindsChar c text None) (λ x. (i : ℕ) × (j : ℕ) × RFindsChar c text (Some (i, j)) × (x.0.now ≡ take i text) × (x.1.now ≡ drop j text) × (i ≤ j) × (length x.0.now ≡ i) × (length x.1.now + j ≡ length text))
    → c < 128 → option_map (λ x. (x.0.now, x.1.now)) r ≡ rsplit_once c text
unfolding rsplit_once
split_at_last c text None h low =
    sym (ap (option_map (λ i. (take i text, drop (i + 1) text))) (none_below c text (length text) (λ i. NoCharPasses-char c text i h low)))
split_at_last c text (Some x) h low =
    let i = h.0 in
    let j = h.1 in
    let next : j ≡ i + 1 = omega (arith, h.2.1.ends, len_utf8_ascii c low) in
    let later : (k : ℕ) → i < k → k < length text → get_or text k 0 ≡ c → ⊥ = λ k a l e.
    let back : j + (k - j) ≡ k = omega arith in
    NoCharPasses-char c (drop j text) (k - j) h.2.0 low (omega (arith, length-drop j text)) (get_or-drop j text (k - j) 0 ∙ ap (λ n. get_or text n 0) back ∙ e) in
    let found = last_below c text i (length text) (omega (arith, h.7)) (h.2.1.byte low) later in
    let second = h.4 ∙ ap (λ n. drop n text) next in
    (λ t. Some (h.3 t, second t)) ∙ sym (ap (option_map (λ k. (take k text, drop (k + 1) text))) found)

-- A list with one element more.

-- the pushed element stands where the list ended
pub holds_pushed : {T : Type 0} (P : T → Type 0) (old new : List T) (e : T) (at : ℕ) → length old ≡ at → new ≡ old ++ (e ∷ []) → P e → HoldsAt P new at
holds_pushed P old new e at ends is p = λ d. subst P (sym (ap (λ items. get_or items at d) is ∙ get_or_at old e [] d at ends)) p

-- a state of the same file as the one that a folder tells is a state of that folder
pub folder_of_state : (told : Option FileState) (state kept : FileState) → IfSome told (λ now. state ≡ now) → IsSameFile kept state → IfSome told (λ now. IsSameFile kept now)
folder_of_state None state kept e same = tt
folder_of_state (Some now) state kept e same = subst (IsSameFile kept) e same

-- what follows where a test says so
pub on_true : (b : Bool) (P : Type 0) → (b ≡ true → P) → OnTrue b P
on_true true P f = f refl
on_true false P f = tt

-- states are equal where their parts are
pub same_parts : (a b : FileState) → a.device ≡ b.device → a.inode ≡ b.inode → a.size ≡ b.size → a.modified ≡ b.modified → a.modified_nanos ≡ b.modified_nanos → a.changed ≡ b.changed → a.changed_nanos ≡ b.changed_nanos → a ≡ b
same_parts a b device inode size modified modified_nanos changed changed_nanos =
    let made : ℕ → ℕ → ℕ → ℤ → ℤ → ℤ → ℤ → FileState = λ d i s m n c k. record { device = d; inode = i; size = s; modified = m; modified_nanos = n; changed = c; changed_nanos = k } in
    let same : made a.device a.inode a.size a.modified a.modified_nanos a.changed a.changed_nanos ≡ made b.device b.inode b.size b.modified b.modified_nanos b.changed b.changed_nanos = cc in
    same

-- states are equal where the test of their parts says so
pub same_state : (a b : FileState) → (nat_eq a.device b.device && (nat_eq a.inode b.inode && (nat_eq a.size b.size && (int_eq a.modified b.modified && (int_eq a.modified_nanos b.modified_nanos && (int_eq a.changed b.changed && int_eq a.changed_nanos b.changed_nanos)))))) ≡ true → a ≡ b
same_state a b h =
    let device = and_parts (nat_eq a.device b.device) _ h in
    let inode = and_parts (nat_eq a.inode b.inode) _ device.1 in
    let size = and_parts (nat_eq a.size b.size) _ inode.1 in
    let modified = and_parts (int_eq a.modified b.modified) _ size.1 in
    let modified_nanos = and_parts (int_eq a.modified_nanos b.modified_nanos) _ modified.1 in
    let changed = and_parts (int_eq a.changed b.changed) (int_eq a.changed_nanos b.changed_nanos) modified_nanos.1 in
    same_parts a b
    (eqb-true _ _ device.0)
    (eqb-true _ _ inode.0)
    (eqb-true _ _ size.0)
    ((Decides-int_eq _ _).0 modified.0)
    ((Decides-int_eq _ _).0 modified_nanos.0)
    ((Decides-int_eq _ _).0 changed.0)
    ((Decides-int_eq _ _).0 changed.1)

-- what follows where a test says that it is not so
pub on_false : (b : Bool) (P : Type 0) → (b ≡ false → P) → OnFalse b P
on_false true P f = tt
on_false false P f = f refl

both : (s t : Bool) → s ≡ true → t ≡ true → (s && t) ≡ true
both true t e h = h
both false t e h = e

same_test : (a : FileState) → (nat_eq a.device a.device && (nat_eq a.inode a.inode && (nat_eq a.size a.size && (int_eq a.modified a.modified && (int_eq a.modified_nanos a.modified_nanos && (int_eq a.changed a.changed && int_eq a.changed_nanos a.changed_nanos)))))) ≡ true
same_test a =
    both _ _ (eq-eqb a.device a.device refl) (both _ _ (eq-eqb a.inode a.inode refl) (both _ _ (eq-eqb a.size a.size refl)
    (both _ _ ((Decides-int_eq a.modified a.modified).1 refl) (both _ _ ((Decides-int_eq a.modified_nanos a.modified_nanos).1 refl) (both _ _ ((Decides-int_eq a.changed a.changed).1 refl) ((Decides-int_eq a.changed_nanos a.changed_nanos).1 refl))))))

-- states are not equal where the test of their parts says so
pub other_state : (a b : FileState) → (nat_eq a.device b.device && (nat_eq a.inode b.inode && (nat_eq a.size b.size && (int_eq a.modified b.modified && (int_eq a.modified_nanos b.modified_nanos && (int_eq a.changed b.changed && int_eq a.changed_nanos b.changed_nanos)))))) ≡ false → a ≡ b → ⊥
other_state a b h e =
    let same = subst (λ x. (nat_eq a.device x.device && (nat_eq a.inode x.inode && (nat_eq a.size x.size && (int_eq a.modified x.modified && (int_eq a.modified_nanos x.modified_nanos && (int_eq a.changed x.changed && int_eq a.changed_nanos x.changed_nanos)))))) ≡ true) e (same_test a) in
    absurd (cc (sym h ∙ same))
