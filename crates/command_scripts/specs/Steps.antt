-- The steps of a command up to its end: loads one after the other, and what is computed of the loaded bytes. Every call
-- that goes through steps says so by `Takes`, in its clause `takes` or its lone clause.
use Rattle.std.specs.Prelude.{◌≡◌, ℕ, List, false, ◌++◌, ◌∷◌, [], length, nat_le, if◌then◌else◌, Option, Some, None, Result, Ok, Err, ⊤, ◌⊎◌, IsOkAnd}
use Rattle.link_outside.specs.Outside.{Held}
use Rattle.link_outside.specs.declared.outside.StoreCall.{StoreCall}
use Rattle.link_base.specs.declared.fault.FileRole.{FileRole}
use Rattle.link_outside.specs.declared.refusal.Refusal.{Refusal}
use Rattle.link_base.specs.Words.{and_then}
use Rattle.link_base.specs.declared.fault.Fault.{Fault}
use Rattle.link_limits.specs.declared.TheConstants.{MOST_FILE_BYTES}
use Rattle.command_scripts.specs.Causes.{Cause, cause_of, the_input, the_memory, the_output, the_store, the_words}
use Rattle.link_base.specs.declared.fault.Fault.TheVariants as fault
use Rattle.link_outside.specs.declared.refusal.Refusal.TheVariants as refusal

-- A store and a sink as the clauses on a call (`Takes`, `HandsOver`, `PutsAll`, `Does`) see them, before and after.

pub record StoreSeen : Type 1 where
  pub tells : Type 0
  pub held_before : Held
  pub held_after : Held
  pub faults_before : List StoreCall
  pub faults_after : List StoreCall

pub record SinkSeen : Type 1 where
  pub tells : Type 0
  pub taken_before : List ℕ
  pub taken_after : List ℕ
  pub faults_before : ℕ
  pub faults_after : ℕ

-- what clauses see of a store by its own words
abbrev pub store_seen : {S : Type 0} → Type 0 → (S → Held) → (S → List StoreCall) → S → S → StoreSeen
store_seen tells held faults old new =
    record { tells = tells; held_before = held old; held_after = held new; faults_before = faults old; faults_after = faults new }

-- what clauses see of a sink by its own words
abbrev pub sink_seen : {S : Type 0} → Type 0 → (S → List ℕ) → (S → ℕ) → S → S → SinkSeen
sink_seen tells taken faults old new =
    record { tells = tells; taken_before = taken old; taken_after = taken new; faults_before = faults old; faults_after = faults new }

-- no name holds anything else than it did, and no call failed
pub record IsUntouched (store : StoreSeen) : Type 0 where
  pub held : store.held_after ≡ store.held_before
  pub faults : store.faults_after ≡ store.faults_before

-- a sink as if it was not called: it took nothing, and its count stands
pub record IsUncalled (out : SinkSeen) : Type 0 where
  pub taken : out.taken_after ≡ out.taken_before
  pub faults : out.faults_after ≡ out.faults_before

-- What a load of an input gives, by what its name holds: the clauses of `load_whole`.

-- the bytes of an input, where its name is held and they are within the limit
abbrev pub loaded : FileRole → ℕ → List ℕ → Option (List ℕ) → Result (List ℕ) Refusal
loaded r limit name None = Err (refusal.Store name)
loaded r limit name (Some bytes) = if nat_le (length bytes) limit then Ok bytes else Err (refusal.Fault (fault.FileTooLong r limit))

-- the call that loads a name
abbrev pub load_of : List ℕ → StoreCall
load_of name = record { put = false; name = name }

-- a refusal is the one that is defined, but for want of memory and the store, whose causes stand apart
abbrev pub LoadRefuses : Result (List ℕ) Refusal → Refusal → Type 0
LoadRefuses expected (refusal.Fault fault.NoMemory) = ⊤
LoadRefuses expected (refusal.Store name) = ⊤
LoadRefuses expected f = expected ≡ Err f

-- a load gives the bytes that are defined, or a refusal
abbrev pub LoadGives : Result (List ℕ) Refusal → Result (List ℕ) Refusal → Type 0
LoadGives expected (Ok bytes) = expected ≡ Ok bytes
LoadGives expected (Err f) = LoadRefuses expected f

-- a fault of a load: the file is too long, the store failed, or memory is wanted
abbrev pub IsLoadFault : FileRole → ℕ → List ℕ → Refusal → Type 0
IsLoadFault r limit name (refusal.Fault (fault.FileTooLong file most)) = (file ≡ r) × (most ≡ limit)
IsLoadFault r limit name (refusal.Store failed) = failed ≡ name
IsLoadFault r limit name (refusal.Fault fault.NoMemory) = ⊤
IsLoadFault r limit name f = ⊥

-- a store fault names the call that failed, which the list of faults has gained; no other answer changes the list
abbrev pub HasLoadCause : List StoreCall → List StoreCall → List ℕ → Result (List ℕ) Refusal → Type 0
HasLoadCause old new name (Ok bytes) = new ≡ old
HasLoadCause old new name (Err (refusal.Store failed)) = new ≡ old ++ load_of name ∷ []
HasLoadCause old new name (Err f) = new ≡ old

-- a load of a name up to a limit, with the steps that its bytes lead to; or the end, with a value or a fault of what was loaded
pub data Steps (T : Type 0) : Type 0 where
  load : FileRole → ℕ → List ℕ → (List ℕ → Steps T) → Steps T
  gives : Result T Fault → Steps T

-- steps, and then those that their value leads to
infixl 10 ◌>>=◌
unfoldable pub ◌>>=◌ : {A B : Type 0} → Steps A → (A → Steps B) → Steps B
load r limit name step >>= next = load r limit name (λ bytes. step bytes >>= next)
gives (Ok x) >>= next = next x
gives (Err f) >>= next = gives (Err f)

-- the load of a file up to a limit
abbrev pub file_within : ℕ → FileRole → List ℕ → Steps (List ℕ)
file_within limit r name = load r limit name (λ bytes. gives (Ok bytes))

-- the load of a file of at most 64 MiB
abbrev pub file : FileRole → List ℕ → Steps (List ℕ)
file r name = file_within MOST_FILE_BYTES r name

-- a result whose fault refuses a command
abbrev pub refused_by : {T : Type 0} → Result T Fault → Result T Refusal
refused_by (Ok x) = Ok x
refused_by (Err f) = Err (refusal.Fault f)

-- what the steps come to over what names hold: their value, or the first refusal
abbrev pub outcome : {T : Type 0} → Steps T → Held → Result T Refusal
outcome (load r limit name step) held = and_then (loaded r limit name (held name)) (λ bytes. outcome (step bytes) held)
outcome (gives result) held = refused_by result

-- what the steps come to for some loaded bytes
abbrev pub Might : {T : Type 0} → Steps T → (Result T Refusal → Type 0) → Type 0
Might (load r limit name step) P = P (Err (refusal.Fault (fault.FileTooLong r limit))) ⊎ ((bytes : List ℕ) × Might (step bytes) P)
Might (gives result) P = P (refused_by result)

-- the steps come to a result: for some loaded bytes, and where the store tells, by what names hold
pub record ComesTo {T : Type 0} (steps : Steps T) (store : StoreSeen) (result : Result T Refusal) : Type 0 where
  pub possible : Might steps (λ r. r ≡ result)
  pub told : store.tells → outcome steps store.held_before ≡ result

-- a load of these steps that is reached over what names hold
abbrev pub IsLoadIn : {T : Type 0} → Steps T → Held → StoreCall → Type 0
IsLoadIn (load r limit name step) held call =
    (call ≡ load_of name) ⊎ IsOkAnd (loaded r limit name (held name)) (λ bytes. IsLoadIn (step bytes) held call)
IsLoadIn (gives result) held call = ⊥

-- a load of these steps that is reached for some loaded bytes
abbrev pub MightLoad : {T : Type 0} → Steps T → StoreCall → Type 0
MightLoad (load r limit name step) call = (call ≡ load_of name) ⊎ ((bytes : List ℕ) × MightLoad (step bytes) call)
MightLoad (gives result) call = ⊥

-- a load of these steps is reached: for some loaded bytes, and where the store tells, by what names hold
pub record Reaches {T : Type 0} (steps : Steps T) (store : StoreSeen) (call : StoreCall) : Type 0 where
  pub possible : MightLoad steps call
  pub told : store.tells → IsLoadIn steps store.held_before call

-- a load of these steps failed: its call is what the list of faults has gained
pub record LoadFails {T : Type 0} (steps : Steps T) (store : StoreSeen) (name : List ℕ) : Type 0 where
  pub logged : store.faults_after ≡ store.faults_before ++ load_of name ∷ []
  pub reached : Reaches steps store (load_of name)

-- the steps came to this with no call that failed
pub record Came {T : Type 0} (steps : Steps T) (store : StoreSeen) (result : Result T Refusal) : Type 0 where
  pub to : ComesTo steps store result
  pub faults : store.faults_after ≡ store.faults_before

-- the steps end at a fault: a load failed, memory was wanted, or the steps come to that fault
abbrev pub StopsBy : {T : Type 0} → Cause → Steps T → StoreSeen → Refusal → Type 0
StopsBy the_words steps store f = ⊥
StopsBy (the_store name) steps store f = LoadFails steps store name
StopsBy the_output steps store f = ⊥
StopsBy the_memory steps store f = store.faults_after ≡ store.faults_before
StopsBy the_input steps store f = Came steps store (Err f)

abbrev pub Goes : {T : Type 0} → Steps T → StoreSeen → Result T Refusal → Type 0
Goes steps store (Ok x) = Came steps store (Ok x)
Goes steps store (Err f) = StopsBy (cause_of f) steps store f

-- a result, its value seen by a view
abbrev pub seen_by : {X T : Type 0} → (X → T) → Result X Refusal → Result T Refusal
seen_by view (Ok x) = Ok (view x)
seen_by view (Err f) = Err f

-- a call goes through these steps, and gives what they come to; no name holds anything else than it did
pub record Takes {T : Type 0} (steps : Steps T) (store : StoreSeen) (result : Result T Refusal) : Type 0 where
  pub goes : Goes steps store result
  pub held : store.held_after ≡ store.held_before

-- a call goes through these steps and makes something of which this holds; or memory was wanted, or it ends at a fault of the steps
abbrev pub Makes : {T X : Type 0} → Steps T → (T → X → Type 0) → StoreSeen → Result X Refusal → Type 0
Makes {T = T} steps P store (Ok made) = (x : T) × Takes steps store (Ok x) × P x made
Makes steps P store (Err f) = Takes steps store (Err f)
