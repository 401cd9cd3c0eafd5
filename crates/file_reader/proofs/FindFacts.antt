-- The first item that passes a test, sought from the front.
use Rattle.std.proofs.Common.{◌≡◌, ◌≢◌, ◌<◌, ◌≤◌, ◌+◌, ◌==◌, ◌∷◌, ◌∙◌, ℕ, nat_lt, Bool, true, false, List, length, get_or, drop, None, Some, ap, refl, sym, arith, zero, suc, [], find, ◌++◌, map, take}
use Rattle.std.proofs.lemmas.List.{drop_more, append_assoc, map-append, take_more}
use Rattle.std.proofs.lemmas.Bool.Decides.{nat_tests}
use Rattle.file_reader.specs.Words.{fault_by}
use Rattle.link_base.specs.declared.fault.Fault.{Fault}
use Rattle.csv.specs.Records.{field_at}

from_here : {A : Type 0} (p : A → Bool) (xs : List A) (i : ℕ) (x : A) → i < length xs → x ≡ get_or xs i x → find p (drop i xs) ≡ find p (x ∷ drop (i + 1) xs)
from_here {A = A} p xs i x lt is = ap (find p) (drop_more xs i x lt ∙ ap (λ (w : A). w ∷ drop (i + 1) xs) (sym is))

-- an item that passes
pub fault_here : {A : Type 0} (make : A → Fault) (p : A → Bool) (xs : List A) (i : ℕ) (x : A) → i < length xs → x ≡ get_or xs i x → find p (drop i xs) ≡ find p xs → p x ≡ true
    → fault_by make (find p xs) ≡ Some (make x)
fault_here make p xs i x lt is told passes =
    let here : find p (x ∷ drop (i + 1) xs) ≡ Some x = rw passes refl in
    ap (fault_by make) (sym told ∙ from_here p xs i x lt is ∙ here)

-- one that does not
pub find_next : {A : Type 0} (p : A → Bool) (xs : List A) (i : ℕ) (x : A) → i < length xs → x ≡ get_or xs i x → find p (drop i xs) ≡ find p xs → p x ≡ false
    → find p (drop (i + 1) xs) ≡ find p xs
find_next p xs i x lt is told fails =
    let next : find p (x ∷ drop (i + 1) xs) ≡ find p (drop (i + 1) xs) = rw fails refl in
    sym next ∙ sym (from_here p xs i x lt is) ∙ told

pub more_than : (n m : ℕ) → n < m → nat_lt n m ≡ true
more_than n m lt = grind (arith, nat_tests)

pub no_more : (n m : ℕ) → m ≤ n → nat_lt n m ≡ false
no_more n m le = grind (arith, nat_tests)

pub is_none : (n : ℕ) → n ≡ 0 → (n == 0) ≡ true
is_none n e = rw e refl

pub is_some : (n : ℕ) → n ≢ 0 → (n == 0) ≡ false
is_some n le = grind (arith, nat_tests)

-- a field that is not there
pub field-none : (fields : List (List ℕ)) (at : ℕ) → field_at fields at ≡ None → get_or fields at [] ≡ []
unfolding field_at
field-none [] at e = refl
field-none (f ∷ fs) zero e = cc e
field-none (f ∷ fs) (suc at) e = field-none fs at e

-- A list that grows by what is made of one item more.

one_more : {B : Type 0} (before now new made more : List B) (x : B) → now ≡ before ++ made → new ≡ now ++ x ∷ [] → more ≡ made ++ x ∷ [] → new ≡ before ++ more
one_more {B = B} before now new made more x told grown is =
    grown ∙ ap (λ (l : List B). l ++ x ∷ []) told ∙ append_assoc before made (x ∷ []) ∙ ap (λ (l : List B). before ++ l) (sym is)

pub taken_more : {A : Type 0} (before now new xs : List A) (i : ℕ) (none : A) → i < length xs
    → now ≡ before ++ take i xs → new ≡ now ++ get_or xs i none ∷ [] → new ≡ before ++ take (i + 1) xs
taken_more before now new xs i none lt told grown =
    one_more before now new (take i xs) (take (i + 1) xs) (get_or xs i none) told grown (take_more xs i none lt)

pub made_more : {A B : Type 0} (f : A → B) (before now new : List B) (xs : List A) (i : ℕ) (none : A) → i < length xs
    → now ≡ before ++ map f (take i xs) → new ≡ now ++ f (get_or xs i none) ∷ [] → new ≡ before ++ map f (take (i + 1) xs)
made_more f before now new xs i none lt told grown =
    one_more before now new (map f (take i xs)) (map f (take (i + 1) xs)) (f (get_or xs i none)) told grown (ap (map f) (take_more xs i none lt) ∙ map-append f (take i xs) (get_or xs i none ∷ []))
