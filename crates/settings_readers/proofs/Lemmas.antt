-- A walk over the members of a table, in a loop over its map.
use Rattle.std.proofs.Common.{◌≡◌, Bool, true, false, List, ◌∷◌, ◌++◌, ℕ, Err, Result, string_bytes, sym, ◌∙◌, refl, ◌<◌, ◌+◌, [], Ok, length, length-append, drop, map, get_or, Option, Some, ap, subst, arith, decimal, nat_le, ◌&&◌, ◌||◌, ◌⊎◌, Less, nat_cmp, inl, inr, bytes_eq, string_cmp}
use Rattle.toml.proofs.Views.{Entry, is_before-sorted}
use Rattle.toml.specs.View.{members_view, items_view, view}
use Rattle.settings_readers.specs.declared.fault.KeyFault.{KeyFault}
use Rattle.settings_readers.specs.declared.fault.KeyFault.TheVariants.{UnknownKey}
use Rattle.settings_readers.specs.Values.{known, ◌>>=◌, in_range, each, items_len, sized, named_in}
use Rattle.std.specs.List.{list_any}
use Rattle.std.proofs.lemmas.List.{drop_more}
use Rattle.toml.specs.Data.{Data, as_array, Members, no_members, member, is_before}
use Rattle.toml.specs.declared.value.Value.{Value}
use Rattle.settings_readers.specs.KeyFaults.{Refuses, above, IsKeyOf, keys_ascend, IsLeastUnknown}
use Rattle.settings_readers.specs.KeptLaws.{refuses_then}
use Rattle.std.proofs.lemmas.Bool.{and_parts, cases_Bool, false≢true}
use Rattle.std.specs.Cmp.Lexicographic.{slice_cmp}
use Rattle.std.specs.List.Sorted.{IsStrictlySortedBy}
use Rattle.std.specs.Map.{keys_of}

-- a known key at the front
pub known_more : (is_known : List ℕ → Bool) (all rest : List Entry) (e : Entry) (path key : List ℕ) (total : Result (Unit {0}) KeyFault) → all ≡ e ∷ rest → key ≡ string_bytes e.0 → is_known key ≡ true
    → known is_known (members_view all) path ≡ total → known is_known (members_view rest) path ≡ total
known_more is_known all rest e path key total parts same listed so_far =
    let here : is_known (string_bytes e.0) ≡ true = rw (← same) listed in
    let one : known is_known (members_view all) path ≡ known is_known (members_view rest) path = rw (parts, here) refl in
    sym one ∙ so_far

-- an unknown key at the front
pub known_stops : (is_known : List ℕ → Bool) (all rest : List Entry) (e : Entry) (path key at : List ℕ) (total : Result (Unit {0}) KeyFault) → all ≡ e ∷ rest → key ≡ string_bytes e.0 → is_known key ≡ false
    → at ≡ path ++ string_bytes e.0 → known is_known (members_view all) path ≡ total → total ≡ Err (UnknownKey at)
known_stops is_known all rest e path key at total parts same unlisted joined so_far =
    let here : is_known (string_bytes e.0) ≡ false = rw (← same) unlisted in
    let one : known is_known (members_view all) path ≡ Err (UnknownKey at) = rw (parts, here, joined) refl in
    sym so_far ∙ one

-- The length of an array, its items and choices one by one, and refusals.

pub items_len-view : (vs : List Value) → items_len (items_view vs) ≡ length vs
items_len-view [] = refl
items_len-view (v ∷ vs) = omega (arith, items_len-view vs)

pub sized_is : (low high n : ℕ) (at : List ℕ) (d : Data) (vs : List Value) → Some (items_view vs) ≡ as_array d → n ≡ length vs
    → sized low high at d ≡ in_range at (nat_le low n && nat_le n high) (items_view vs)
sized_is low high n at d vs is len = rw (← is, items_len-view, ← len)

-- the items from one on, by that item
each_from : {A : Type 0} (read : List A → List ℕ → Data → Result A KeyFault) (above : List ℕ) (vs : List Value) (i : ℕ) (v : Value) (before : List A) → i < length vs → v ≡ get_or vs i v
    → each read above (items_view (drop i vs)) before (i + 1) ≡ (read before (above ++ decimal (i + 1)) (view v) >>= λ x. each read above (items_view (drop (i + 1) vs)) (before ++ x ∷ []) (i + 1 + 1))
each_from read above vs i v before lt is =
    let left : drop i vs ≡ v ∷ drop (i + 1) vs = drop_more vs i v lt ∙ ap (λ w. w ∷ drop (i + 1) vs) (sym is) in
    ap (λ ws. each read above (items_view ws) before (i + 1)) left

-- an item that is read
pub each_more : {A : Type 0} (read : List A → List ℕ → Data → Result A KeyFault) (above : List ℕ) (vs : List Value) (i : ℕ) (v : Value) (before seen more : List A) (x : A) (total : Result (List A) KeyFault) → i < length vs → v ≡ get_or vs i v
    → seen ≡ before → read seen (above ++ decimal (i + 1)) (view v) ≡ Ok x → more ≡ before ++ x ∷ [] → each read above (items_view (drop i vs)) before (i + 1) ≡ total
    → each read above (items_view (drop (i + 1) vs)) more (i + 1 + 1) ≡ total
each_more {A = A} read above vs i v before seen more x total lt is same reads grown so_far =
    let here : read before (above ++ decimal (i + 1)) (view v) ≡ Ok x = ap (λ b. read b (above ++ decimal (i + 1)) (view v)) (sym same) ∙ reads in
    let next : Result (List A) KeyFault = each read above (items_view (drop (i + 1) vs)) (before ++ x ∷ []) (i + 1 + 1) in
    let taken : each read above (items_view (drop i vs)) before (i + 1) ≡ next = each_from read above vs i v before lt is ∙ ap (λ r. r >>= λ y. each read above (items_view (drop (i + 1) vs)) (before ++ y ∷ []) (i + 1 + 1)) here in
    ap (λ b. each read above (items_view (drop (i + 1) vs)) b (i + 1 + 1)) grown ∙ sym taken ∙ so_far

pub one_longer : {A : Type 0} (before more : List A) (x : A) (i : ℕ) → more ≡ before ++ x ∷ [] → length before ≡ i → length more ≡ i + 1
one_longer before more x i grown len = omega (arith, ap length grown, length-append before (x ∷ []), len)

-- an item that is refused
pub each_refused : {A : Type 0} (read : List A → List ℕ → Data → Result A KeyFault) (above : List ℕ) (vs : List Value) (i : ℕ) (v : Value) (before seen : List A) (f : KeyFault) (total : Result (List A) KeyFault) → i < length vs → v ≡ get_or vs i v
    → seen ≡ before → Refuses (read seen (above ++ decimal (i + 1)) (view v)) f → each read above (items_view (drop i vs)) before (i + 1) ≡ total
    → Refuses total f
each_refused read above vs i v before seen f total lt is same refused so_far =
    let here : Refuses (read before (above ++ decimal (i + 1)) (view v)) f = subst (λ b. Refuses (read b (above ++ decimal (i + 1)) (view v)) f) same refused in
    let all = refuses_then (read before (above ++ decimal (i + 1)) (view v)) (λ y. each read above (items_view (drop (i + 1) vs)) (before ++ y ∷ []) (i + 1 + 1)) f here in
    subst (λ r. Refuses r f) (sym (each_from read above vs i v before lt is) ∙ so_far) all

-- a choice that is passed by
pub named_more : {E X : Type 0} (f : E → List ℕ × X) (all : List E) (i : ℕ) (e : E) (text : List ℕ) (total : Option X) → i < length all → e ≡ get_or all i e
    → bytes_eq text (f e).0 ≡ false → named_in (map f (drop i all)) text ≡ total → named_in (map f (drop (i + 1) all)) text ≡ total
named_more {X = X} f all i e text total lt is off so_far =
    let left : drop i all ≡ e ∷ drop (i + 1) all = drop_more all i e lt ∙ ap (λ w. w ∷ drop (i + 1) all) (sym is) in
    let here : named_in (map f (drop i all)) text ≡ named_in (map f (drop (i + 1) all)) text = rw (left, off) refl in
    sym here ∙ so_far

-- a test of what is read of each item
pub any-map : {E X : Type 0} (test : X → Bool) (f : E → X) (all : List E) → list_any test (map f all) ≡ list_any (λ e. test (f e)) all
any-map test f [] = refl
any-map test f (e ∷ all) = ap (λ b. test (f e) || b) (any-map test f all)

-- The first unknown key of keys that ascend is the least.

abbrev pub NamesLeast : (List ℕ → Bool) → Members → List ℕ → KeyFault → Type 0
NamesLeast is_known t path f = (key : List ℕ) × (f ≡ UnknownKey (path ++ key)) × IsLeastUnknown is_known t key

least_later : (is_known : List ℕ → Bool) (k : List ℕ) (ms : Members) (key : List ℕ) → is_known k ≡ true → IsLeastUnknown is_known ms key
    → (q : List ℕ) → (q ≡ k) ⊎ IsKeyOf ms q → is_known q ≡ false → (q ≡ key) ⊎ (slice_cmp nat_cmp key q ≡ Less)
least_later is_known k ms key listed least q (inl same) unknown = absurd (false≢true (sym unknown ∙ ap is_known same ∙ listed))
least_later is_known k ms key listed least q (inr later) unknown = least.least q later unknown

least_here : (is_known : List ℕ → Bool) (k : List ℕ) (ms : Members) → is_before k ms ≡ true → keys_ascend ms ≡ true
    → (q : List ℕ) → (q ≡ k) ⊎ IsKeyOf ms q → is_known q ≡ false → (q ≡ k) ⊎ (slice_cmp nat_cmp k q ≡ Less)
least_here is_known k ms front sorted q (inl same) unknown = inl same
least_here is_known k ms front sorted q (inr later) unknown = inr (above k ms front sorted q later)

pub names_least : (is_known : List ℕ → Bool) (t : Members) (path : List ℕ) (f : KeyFault) → keys_ascend t ≡ true → known is_known t path ≡ Err f → NamesLeast is_known t path f
names_least is_known no_members path f sorted h = absurd cc
names_least is_known (member k d ms) path f sorted h =
    let (front, more) = and_parts (is_before k ms) (keys_ascend ms) sorted in
    elim (cases_Bool (is_known k)) [
      | inl listed ↦
          let rest : known is_known ms path ≡ Err f = rw listed at h in
          let p = names_least is_known ms path f more rest in
          (p.0, p.1, record { there = inr p.2.there; unknown = p.2.unknown; least = least_later is_known k ms p.0 listed p.2 })
      | inr unlisted ↦
          let here : Err (UnknownKey (path ++ k)) ≡ Err f = rw unlisted at h in
          (k, cc, record { there = inl refl; unknown = unlisted; least = least_here is_known k ms front more })
    ]

pub sorted_ascend : (es : List Entry) → IsStrictlySortedBy string_cmp (keys_of es) → keys_ascend (members_view es) ≡ true
unfolding IsStrictlySortedBy
sorted_ascend [] h = refl
sorted_ascend (e ∷ es) h = rw (is_before-sorted e.0 es h.0, sorted_ascend es h.1)
