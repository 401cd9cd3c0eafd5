-- Single values: their types and ranges (`whole_number`, clause `gives`; `named_in`; the readers `Choice`, `Whole` and
-- `Truth`, by the clause of `Reader::read`).
use Rattle.std.specs.Prelude.{List, ℕ, Bool, ◌++◌, Option, Some, None, unwrap_or, Result, Ok, Err, if◌then◌else◌, [], ◌∷◌, ℤ, pos, negsuc, false, ◌&&◌, nat_le, ◌+◌, codes, decimal, bytes_eq}
use Rattle.toml.specs.Data.{Data, Members, no_members, member, get_member, as_str, as_integer, as_bool, Items, no_items, item, as_array, as_table}
use Rattle.link_base.specs.Words.{and_then}
use Rattle.settings_readers.specs.declared.fault.KeyFault.{KeyFault}
use Rattle.settings_readers.specs.declared.fault.KeyFault.TheVariants.{UnknownKey, MissingKey, WrongType, OutOfRange}

-- Parts of a settings file, one after the other: each gives a value or its first fault (`Keys::known`, `Keys::without`,
-- `Keys::without_both`, `Keys::needed`, `Keys::optional` and `Keys::defaulted`, each by its one clause).

-- a part, and where it gives a value the next part
infixl 10 ◌>>=◌
abbrev pub ◌>>=◌ : {A B : Type 0} → Result A KeyFault → (A → Result B KeyFault) → Result B KeyFault
r >>= next = and_then r next

-- what stands at a path, where it has its type
abbrev pub typed : {A : Type 0} → List ℕ → Option A → Result A KeyFault
typed at None = Err (WrongType at)
typed at (Some x) = Ok x

-- what stands at a path, where it is in its range
abbrev pub ranged : {A : Type 0} → List ℕ → Option A → Result A KeyFault
ranged at None = Err (OutOfRange at)
ranged at (Some x) = Ok x

abbrev pub in_range : {A : Type 0} → List ℕ → Bool → A → Result A KeyFault
in_range at ok x = if ok then Ok x else Err (OutOfRange at)

-- a key that has to be there, read at its path
abbrev pub read_needed : {A : Type 0} → (List ℕ → Data → Result A KeyFault) → List ℕ → Option Data → Result A KeyFault
read_needed read at None = Err (MissingKey at)
read_needed read at (Some d) = read at d

-- a key that may be there
abbrev pub read_optional : {A : Type 0} → (List ℕ → Data → Result A KeyFault) → List ℕ → Option Data → Result (Option A) KeyFault
read_optional read at None = Ok None
read_optional read at (Some d) = read at d >>= λ x. Ok (Some x)

-- a value beside which a key does not belong
abbrev pub read_without : {A : Type 0} → A → List ℕ → Option Data → Result A KeyFault
read_without x at None = Ok x
read_without x at (Some d) = Err (UnknownKey at)

-- the same at a key of a table; what stands above is empty, or a path and a point
abbrev pub needed : {A : Type 0} → (List ℕ → Data → Result A KeyFault) → Members → List ℕ → List ℕ → Result A KeyFault
needed read t above key = read_needed read (above ++ key) (get_member key t)

abbrev pub optional : {A : Type 0} → (List ℕ → Data → Result A KeyFault) → Members → List ℕ → List ℕ → Result (Option A) KeyFault
optional read t above key = read_optional read (above ++ key) (get_member key t)

abbrev pub without : {A : Type 0} → A → Members → List ℕ → List ℕ → Result A KeyFault
without x t above key = read_without x (above ++ key) (get_member key t)

-- a value beside which neither of two keys belongs
abbrev pub without_both : {A : Type 0} → A → Members → List ℕ → List ℕ → List ℕ → Result A KeyFault
without_both x t above key other = without {A = Unit {0}} tt t above key >>= λ no_key. without x t above other

-- a key that may be there, with its default
abbrev pub defaulted : {A : Type 0} → (List ℕ → Data → Result A KeyFault) → A → Members → List ℕ → List ℕ → Result A KeyFault
defaulted read default t above key = optional read t above key >>= λ o. Ok (unwrap_or o default)

-- every key of a table is known; else the fault names the first that is not, and keys ascend
abbrev pub known : (List ℕ → Bool) → Members → List ℕ → Result (Unit {0}) KeyFault
known is_known no_members above = Ok tt
known is_known (member key d ms) above = if is_known key then known is_known ms above else Err (UnknownKey (above ++ key))

-- a text that names one of several choices
abbrev pub choice : {A : Type 0} → (List ℕ → Option A) → List ℕ → Data → Result A KeyFault
choice named at d = typed at (as_str d) >>= λ s. ranged at (named s)

-- the first choice whose word it is
abbrev pub named_in : {A : Type 0} → List (List ℕ × A) → List ℕ → Option A
named_in [] s = None
named_in (c ∷ cs) s = if bytes_eq s c.0 then Some c.1 else named_in cs s

abbrev pub is_within : ℕ → ℕ → ℤ → Bool
is_within low high (pos n) = nat_le low n && nat_le n high
is_within low high (negsuc n) = false

-- a whole number that is not negative
abbrev pub magnitude : ℤ → ℕ
magnitude (pos n) = n
magnitude (negsuc n) = 0

-- a whole number from low to high
abbrev pub whole : ℕ → ℕ → List ℕ → Data → Result ℕ KeyFault
whole low high at d = typed at (as_integer d) >>= λ z. in_range at (is_within low high z) (magnitude z)

abbrev pub truth : List ℕ → Data → Result Bool KeyFault
truth at d = typed at (as_bool d)

-- Arrays: their length is tested first, then each item in the light of those before it (`Items::read`, clause `gives`;
-- `Rows::read`).

abbrev pub items_len : Items → ℕ
items_len no_items = 0
items_len (item d ds) = 1 + items_len ds

-- the items from number n on, each read in the light of those before it, at the path that its number ends
abbrev pub each : {A : Type 0} → (List A → List ℕ → Data → Result A KeyFault) → List ℕ → Items → List A → ℕ → Result (List A) KeyFault
each read above no_items before n = Ok before
each read above (item d ds) before n = read before (above ++ decimal n) d >>= λ x. each read above ds (before ++ x ∷ []) (n + 1)

abbrev pub sized : ℕ → ℕ → List ℕ → Data → Result Items KeyFault
sized low high at d = typed at (as_array d) >>= λ ds. in_range at (nat_le low (items_len ds) && nat_le (items_len ds) high) ds

-- an array of low to high items
abbrev pub array_of : {A : Type 0} → ℕ → ℕ → (List A → List ℕ → Data → Result A KeyFault) → List ℕ → Data → Result (List A) KeyFault
array_of low high read at d = sized low high at d >>= λ ds. each read (at ++ codes ".") ds [] 1

-- an item that is a table, whose keys stand below its path
abbrev pub on_table : {A : Type 0} → (Members → List ℕ → Result A KeyFault) → List ℕ → Data → Result A KeyFault
on_table read at d = typed at (as_table d) >>= λ t. read t (at ++ codes ".")
