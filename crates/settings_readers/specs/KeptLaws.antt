-- What all that a part of a settings file gives keeps, and its laws: a part keeps what its readers keep. They are said over all readers
-- and all ranges, which no clause of a call can range over, so they stand here; the ranges of a plan follow by them.
use Rattle.std.proofs.Common.{◌≡◌, ℕ, ℤ, pos, negsuc, ◌+◌, ◌≤◌, List, [], ◌∷◌, ◌++◌, length, codes, Bool, true, false, Option, Some, None, Result, Ok, Err, refl, subst, ◌∙◌, arith, length-append, inl, inr, ap, bytes_eq}
use Rattle.std.specs.Prelude.{⊤, decimal, nat_le, unwrap_or, IfSome, MatchBool}
use Rattle.std.specs.List.{list_all}
use Rattle.std.proofs.lemmas.Bool.{and_parts, cases_Bool, leb-true}
use Rattle.toml.specs.Data.{Data, Items, no_items, item, Members, get_member, as_str, as_integer, as_array, as_table}
use Rattle.settings_readers.specs.declared.fault.KeyFault.{KeyFault}
use Rattle.settings_readers.specs.Values.{◌>>=◌, typed, ranged, in_range, read_needed, read_optional, read_without, needed, optional, without, without_both, defaulted, choice, is_within, magnitude, named_in, whole, items_len, each, sized, array_of, on_table}
use Rattle.link_base.specs.Words.{refuses-then}
use Rattle.settings_readers.specs.KeyFaults.{Gives, is_want, IsAnswer, Refuses}

-- what a part gives has a property
unfoldable pub Keeps : {A : Type 0} → Result A KeyFault → (A → Type 0) → Type 0
Keeps (Ok x) P = P x
Keeps (Err f) P = ⊤

-- what a reader gives has a property, at every path
abbrev pub Reads : {A : Type 0} → (List ℕ → Data → Result A KeyFault) → (A → Type 0) → Type 0
Reads read P = (at : List ℕ) (d : Data) → Keeps (read at d) P

pub keeps_value : {A : Type 0} (P : A → Type 0) (x : A) → P x → Keeps (Ok x) P
unfolding Keeps
keeps_value P x h = h

pub keeps_any : {A : Type 0} (r : Result A KeyFault) → Keeps r (λ x. ⊤)
unfolding Keeps
keeps_any (Ok x) = tt
keeps_any (Err f) = tt

pub kept : {A : Type 0} (P : A → Type 0) (r : Result A KeyFault) (x : A) → Keeps r P → r ≡ Ok x → P x
unfolding Keeps
kept P r x h e = subst (λ q. Keeps q P) e h

pub then_keeps : {A B : Type 0} (P : A → Type 0) (Q : B → Type 0) (r : Result A KeyFault) (next : A → Result B KeyFault) → Keeps r P → ((x : A) → P x → Keeps (next x) Q) → Keeps (r >>= next) Q
unfolding Keeps
then_keeps P Q (Ok x) next h more = more x h
then_keeps P Q (Err f) next h more = tt

-- whatever the first part gives
pub next_keeps : {A B : Type 0} (Q : B → Type 0) (r : Result A KeyFault) (next : A → Result B KeyFault) → ((x : A) → Keeps (next x) Q) → Keeps (r >>= next) Q
next_keeps Q r next more = then_keeps _ _ r next (keeps_any r) (λ x any. more x)

pub keeps_so : {A : Type 0} (P Q : A → Type 0) (r : Result A KeyFault) → Keeps r P → ((x : A) → P x → Q x) → Keeps r Q
unfolding Keeps
keeps_so P Q (Ok x) h so = so x h
keeps_so P Q (Err f) h so = tt

pub ranged_keeps : {A : Type 0} (P : A → Type 0) (at : List ℕ) (o : Option A) → IfSome o P → Keeps (ranged at o) P
unfolding Keeps
ranged_keeps P at None h = tt
ranged_keeps P at (Some x) h = h

pub in_range_keeps : {A : Type 0} (P : A → Type 0) (at : List ℕ) (ok : Bool) (x : A) → (ok ≡ true → P x) → Keeps (in_range at ok x) P
unfolding Keeps
in_range_keeps P at true x h = h refl
in_range_keeps P at false x h = tt

at_needed : {A : Type 0} (P : A → Type 0) (read : List ℕ → Data → Result A KeyFault) (at : List ℕ) (o : Option Data) → Reads read P → Keeps (read_needed read at o) P
unfolding Keeps
at_needed P read at None h = tt
at_needed P read at (Some d) h = h at d

pub needed_keeps : {A : Type 0} (P : A → Type 0) (read : List ℕ → Data → Result A KeyFault) (t : Members) (above key : List ℕ) → Reads read P → Keeps (needed read t above key) P
needed_keeps P read t above key h = at_needed _ read (above ++ key) (get_member key t) h

at_optional : {A : Type 0} (P : A → Type 0) (read : List ℕ → Data → Result A KeyFault) (at : List ℕ) (o : Option Data) → Reads read P → Keeps (read_optional read at o) (λ given. IfSome given P)
at_optional P read at None h = keeps_value _ None tt
at_optional P read at (Some d) h = then_keeps _ _ (read at d) _ (h at d) (λ x is. keeps_value _ (Some x) is)

pub optional_keeps : {A : Type 0} (P : A → Type 0) (read : List ℕ → Data → Result A KeyFault) (t : Members) (above key : List ℕ) → Reads read P → Keeps (optional read t above key) (λ given. IfSome given P)
optional_keeps P read t above key h = at_optional _ read (above ++ key) (get_member key t) h

or_default : {A : Type 0} (P : A → Type 0) (o : Option A) (default : A) → P default → IfSome o P → P (unwrap_or o default)
or_default P None default d h = d
or_default P (Some x) default d h = h

pub defaulted_keeps : {A : Type 0} (P : A → Type 0) (read : List ℕ → Data → Result A KeyFault) (default : A) (t : Members) (above key : List ℕ) → Reads read P → P default → Keeps (defaulted read default t above key) P
defaulted_keeps P read default t above key h d =
    then_keeps _ _ (optional read t above key) _ (optional_keeps _ read t above key h) (λ given is. keeps_value _ (unwrap_or given default) (or_default P given default d is))

-- an array keeps what each item keeps in the light of those before it
abbrev pub ReadsNext : {A : Type 0} → (List A → List ℕ → Data → Result A KeyFault) → (List A → Type 0) → Type 0
ReadsNext {A} read P = (before : List A) → P before → Reads (read before) (λ x. P (before ++ x ∷ []))

each_keeps : {A : Type 0} (P : List A → Type 0) (read : List A → List ℕ → Data → Result A KeyFault) → ReadsNext read P → (above : List ℕ) (ds : Items) (before : List A) (n : ℕ) → P before
    → Keeps (each read above ds before n) (λ (xs : List A). (P xs) × (length xs ≡ length before + items_len ds))
each_keeps P read h above no_items before n so_far = keeps_value _ before (so_far, omega arith)
each_keeps P read h above (item d ds) before n so_far =
    then_keeps _ _ (read before (above ++ decimal n) d) _ (h before so_far (above ++ decimal n) d) (λ x is.
    keeps_so _ _ _ (each_keeps P read h above ds (before ++ x ∷ []) (n + 1) is) (λ xs more. (more.0, more.1 ∙ omega (arith, length-append before (x ∷ [])))))

sized_keeps : (low high : ℕ) → Reads (sized low high) (λ (ds : Items). (low ≤ items_len ds) × (items_len ds ≤ high))
sized_keeps low high at d = next_keeps _ (typed at (as_array d)) _ (λ ds. in_range_keeps _ at _ ds (λ fits.
    let (least, most) = and_parts (nat_le low (items_len ds)) (nat_le (items_len ds) high) fits in
    (leb-true low (items_len ds) least, leb-true (items_len ds) high most)))

pub array_keeps : {A : Type 0} (P : List A → Type 0) (low high : ℕ) (read : List A → List ℕ → Data → Result A KeyFault) → P [] → ReadsNext read P
    → Reads (array_of low high read) (λ (xs : List A). (P xs) × (low ≤ length xs) × (length xs ≤ high))
array_keeps P low high read none h at d =
    then_keeps _ _ (sized low high at d) _ (sized_keeps low high at d) (λ ds sizes.
    keeps_so _ _ _ (each_keeps P read h (at ++ codes ".") ds [] 1 none) (λ xs is. (is.0, omega (arith, is.1, sizes.0), omega (arith, is.1, sizes.1))))

pub on_table_keeps : {A : Type 0} (P : A → Type 0) (read : Members → List ℕ → Result A KeyFault) → ((t : Members) (above : List ℕ) → Keeps (read t above) P) → Reads (on_table read) P
on_table_keeps P read h at d = next_keeps _ (typed at (as_table d)) _ (λ t. h t (at ++ codes "."))

-- a whole number is in its range
abbrev pub IsWithin : ℕ → ℕ → ℕ → Type 0
IsWithin low high n = (low ≤ n) × (n ≤ high)

within_is : (low high : ℕ) (z : ℤ) → is_within low high z ≡ true → IsWithin low high (magnitude z)
within_is low high (pos n) h =
    let (least, most) = and_parts (nat_le low n) (nat_le n high) h in
    (leb-true low n least, leb-true n high most)
within_is low high (negsuc n) h = absurd cc

pub whole_keeps : (low high : ℕ) → Reads (whole low high) (IsWithin low high)
whole_keeps low high at d = next_keeps _ (typed at (as_integer d)) _ (λ z. in_range_keeps _ at _ (magnitude z) (within_is low high z))

pub choice_keeps : {A : Type 0} (P : A → Type 0) (named : List ℕ → Option A) → ((s : List ℕ) → IfSome (named s) P) → Reads (choice named) P
choice_keeps P named h at d = next_keeps _ (typed at (as_str d)) _ (λ s. ranged_keeps _ at (named s) (h s))

-- what the words of a table name passes a test that all of them pass
pub named_passes : {A : Type 0} (test : A → Bool) (rows : List (List ℕ × A)) → list_all (λ (row : List ℕ × A). test row.1) rows ≡ true → (s : List ℕ) → IfSome (named_in rows s) (λ x. test x ≡ true)
named_passes test [] all s = tt
named_passes {A = A} test (row ∷ rows) all s =
    let (here, later) = and_parts (test row.1) (list_all (λ (row : List ℕ × A). test row.1) rows) all in
    elim (cases_Bool (bytes_eq s row.0)) [ inl is ↦ rw is here | inr other ↦ rw other (named_passes test rows later s) ]

-- a value beside which a key does not belong, or neither of two
at_without : {A : Type 0} (P : A → Type 0) (x : A) (at : List ℕ) (o : Option Data) → P x → Keeps (read_without x at o) P
unfolding Keeps
at_without P x at None h = h
at_without P x at (Some d) h = tt

pub without_keeps : {A : Type 0} (P : A → Type 0) (x : A) (t : Members) (above key : List ℕ) → P x → Keeps (without x t above key) P
without_keeps P x t above key h = at_without P x (above ++ key) (get_member key t) h

pub without_both_keeps : {A : Type 0} (P : A → Type 0) (x : A) (t : Members) (above key other : List ℕ) → P x → Keeps (without_both x t above key other) P
without_both_keeps P x t above key other h = next_keeps _ (without {A = Unit {0}} tt t above key) _ (λ no_key. without_keeps _ x t above other h)

-- Laws of parts that are read one after the other: what is given goes on to the next part, and what is refused is refused by all. They
-- are said over all parts, which no clause of a call can range over, so they stand here, and the proofs of readers cite them.

-- where the first part is refused, all are
pub refuses_then : {A B : Type 0} (r : Result A KeyFault) (next : A → Result B KeyFault) (f : KeyFault) → Refuses r f → Refuses (r >>= next) f
refuses_then r next f h = refuses-then is_want r next f h

-- a refusal after a part that gave a value
pub then_refused : {A B : Type 0} (r : Result A KeyFault) (x : A) (next : A → Result B KeyFault) (f : KeyFault) → r ≡ Ok x → Refuses (next x) f → Refuses (r >>= next) f
then_refused r x next f is h = rw is h

-- what is given after a part that gave a value
pub then_given : {A B : Type 0} (r : Result A KeyFault) (x : A) (next : A → Result B KeyFault) (all : Result B KeyFault) → r ≡ Ok x → next x ≡ all → (r >>= next) ≡ all
then_given r x next all is h = ap (λ q. q >>= next) is ∙ h

-- a refusal of an equal part
pub refused_same : {A : Type 0} (x y : Result A KeyFault) (f : KeyFault) → x ≡ y → Refuses x f → Refuses y f
refused_same x y f same h = rw (← same) h

same_refusal : {X T : Type 0} (b : Bool) (f g : KeyFault) (given : Result X KeyFault) (expected : Result T KeyFault) → given ≡ Err f → expected ≡ Err f → MatchBool b ⊤ (given ≡ Err g) → MatchBool b ⊤ (expected ≡ Err g)
same_refusal true f g given expected is same h = tt
same_refusal false f g given expected is same h = cc

-- a refusal by the fault that is defined
pub refused_as : {X T : Type 0} (view : X → T) (f : KeyFault) (expected : Result T KeyFault) (r : Result X KeyFault) → expected ≡ Err f → IsAnswer (Err f) r → Gives view expected r
refused_as view f expected (Ok x) is h = absurd cc
refused_as view f expected (Err g) is h = same_refusal (is_want g) f g _ expected refl is h
