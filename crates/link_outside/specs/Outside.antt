-- What the calls of a store and a sink do: the clauses of the traits `Store` (`load`, `put`) and `Sink` (`put_all`).
use Rattle.std.specs.Prelude.{◌≡◌, ◌⊎◌, ◌+◌, ◌-◌, ◌^◌, ◌<◌, ◌≤◌, ℕ, List, [], ◌∷◌, ◌++◌, take, length, min, bytes_eq, if◌then◌else◌, Option, Some, Result, Ok, Err, ⊤, IsSomeAnd}
use Rattle.link_outside.specs.declared.outside.Load.{Load}
use Rattle.link_outside.specs.declared.outside.Load.TheVariants.{Whole, Over}
use Rattle.link_outside.specs.declared.outside.StoreCall.{StoreCall}
use Rattle.link_outside.specs.declared.outside.StoreError.{StoreError}
use Rattle.link_outside.specs.declared.outside.StoreError.TheVariants as store
use Rattle.link_outside.specs.declared.outside.SinkError.{SinkError}
use Rattle.link_outside.specs.declared.outside.SinkError.TheVariants as sink

-- what names hold
abbrev pub Held : Type 0
Held = List ℕ → Option (List ℕ)

-- what names hold once one of them holds these bytes: every other name holds what it held
abbrev pub held_with : List ℕ → List ℕ → Held → Held
held_with name bytes held = λ other. if bytes_eq name other then Some bytes else held other

-- a load has no more bytes than it may
abbrev pub IsWithinLimit : ℕ → Load → Type 0
IsWithinLimit limit (Whole text) = length text ≤ limit
IsWithinLimit limit (Over text) = length text ≡ limit + 1

-- what a load shows of these bytes: all, or one more than the limit where there are more
abbrev pub Shows : List ℕ → ℕ → Load → Type 0
Shows bytes limit (Whole text) = text ≡ bytes
Shows bytes limit (Over text) = (limit < length bytes) × (text ≡ take (limit + 1) bytes)

-- a load gives what is held, and nothing where nothing is
abbrev pub Loads : Option (List ℕ) → ℕ → Result Load StoreError → Type 0
Loads content limit (Ok load) = IsSomeAnd content (λ bytes. Shows bytes limit load)
Loads content limit (Err e) = ⊤

-- after a put the names hold what was wanted; after a failed one this, or what they held
abbrev pub PutsAs : {T E : Type 0} → Held → Held → Held → Result T E → Type 0
PutsAs wanted old new (Ok x) = new ≡ wanted
PutsAs wanted old new (Err e) = (new ≡ old) ⊎ (new ≡ wanted)

-- a call that failed stands in the list of faults, and want of memory does not
abbrev pub IsLogged : List StoreCall → List StoreCall → StoreCall → StoreError → Type 0
IsLogged old new call store.Failed = new ≡ old ++ (call ∷ [])
IsLogged old new call store.NoMemory = new ≡ old

-- the list of faults gains the call exactly where it failed
abbrev pub LogsFailure : {T : Type 0} → List StoreCall → List StoreCall → StoreCall → Result T StoreError → Type 0
LogsFailure old new call (Ok x) = new ≡ old
LogsFailure old new call (Err e) = IsLogged old new call e

-- a part of the bytes from the front is taken
abbrev pub TakesFront : List ℕ → List ℕ → List ℕ → Type 0
TakesFront bytes old new = (part : List ℕ) × (rest : List ℕ) × (part ++ rest ≡ bytes) × (new ≡ old ++ part)

-- the bytes are taken, or at an error a part of them from the front
abbrev pub Appends : {T : Type 0} → List ℕ → List ℕ → List ℕ → Result T SinkError → Type 0
Appends bytes old new (Ok x) = new ≡ old ++ bytes
Appends bytes old new (Err e) = TakesFront bytes old new

-- a count rose, or stands at the last value of a `u64`
abbrev pub Rose : ℕ → ℕ → Type 0
Rose before now = min (before + 1) (2 ^ 64 - 1) ≤ now

-- a sink's count rises where it fails, and stays where it does not
abbrev pub FailsByRise : {T : Type 0} → ℕ → ℕ → Result T SinkError → Type 0
FailsByRise before now (Ok x) = now ≡ before
FailsByRise before now (Err sink.Failed) = Rose before now
FailsByRise before now (Err sink.NoMemory) = now ≡ before

pub record HasCause {T : Type 0} (before now : ℕ) (result : Result T SinkError) : Type 0 where
  pub later : before ≤ now
  pub failed : FailsByRise before now result
