-- What the store and the sink in memory are seen as: what names hold and what was taken, the plan of failures and the
-- number of calls so far (the clauses of `MemoryStore` and `MemorySink`).
use Rattle.std.specs.Prelude.{ℕ, List, [], ◌∷◌, Option, Some, None, bytes_eq, if◌then◌else◌, ◌≡◌, ◌+◌, ◌-◌, ◌^◌, ◌==◌, ◌++◌, min, find, Bool, true, false, Result, Ok, Err, ⊤}
use Rattle.link_outside.specs.Outside.{Held, Shows}
use Rattle.link_outside.specs.declared.memory_store.Entry.{Entry}
use Rattle.link_outside.specs.declared.memory_store.Failure.{Failure}
use Rattle.link_outside.specs.declared.outside.StoreCall.{StoreCall}
use Rattle.std.specs.List.{list_any}
use Rattle.link_outside.specs.declared.outside.Load.{Load}
use Rattle.link_outside.specs.declared.outside.SinkError.{SinkError}
use Rattle.link_outside.specs.declared.outside.StoreError.{StoreError}
use Rattle.link_outside.specs.declared.outside.SinkError.TheVariants as sink
use Rattle.link_outside.specs.declared.outside.StoreError.TheVariants as store

-- a store in memory: entries, of which the first with a name counts, the plan, the calls so far, and those that failed
pub record StoreInMemory : Type 0 where
  pub entries : List Entry
  pub plan : List Failure
  pub calls : ℕ
  pub faults : List StoreCall

-- a sink in memory: the bytes taken, the calls that are planned to fail, the calls so far, and the count of faults
pub record SinkInMemory : Type 0 where
  pub bytes : List ℕ
  pub plan : List ℕ
  pub calls : ℕ
  pub faults : ℕ

abbrev pub held_in : List Entry → List ℕ → Option (List ℕ)
held_in [] name = None
held_in (e ∷ es) name = if bytes_eq e.name name then Some e.bytes else held_in es name

abbrev pub memory_held : StoreInMemory → Held
memory_held s = held_in s.entries

-- What a store and a sink in memory do by their plan of failures: the clauses `planned` of `MemoryStore::load`,
-- `MemoryStore::put` and `MemorySink::put_all`.

-- the number of the next call, from 1; it stays at the last value of a `u32`
abbrev pub next_call : ℕ → ℕ
next_call calls = min (calls + 1) (2 ^ 32 - 1)

-- the failure that is planned at a call: the first of the plan with its number
abbrev pub failure_at : List Failure → ℕ → Option Failure
failure_at plan call = find (λ (f : Failure). f.call == call) plan

-- a call is planned to fail
abbrev pub is_planned : List ℕ → ℕ → Bool
is_planned plan call = list_any (λ n. n == call) plan

-- a load fails exactly where that is planned or the name is not held, and else shows what is held; want of memory is free
abbrev pub LoadsByPlan : Option Failure → Option (List ℕ) → ℕ → Result Load StoreError → Type 0
LoadsByPlan None (Some bytes) limit (Ok load) = Shows bytes limit load
LoadsByPlan None (Some bytes) limit (Err store.Failed) = ⊥
LoadsByPlan None None limit (Ok load) = ⊥
LoadsByPlan (Some f) content limit (Ok load) = ⊥
LoadsByPlan planned content limit (Err e) = ⊤

-- a put fails exactly where that is planned. What names hold then: the new bytes where the failure is applied, else
-- what they held; and what they held at want of memory, which is free
abbrev pub PutsByPlan : {T : Type 0} → Option Failure → Held → Held → Held → Result T StoreError → Type 0
PutsByPlan None wanted old new (Ok x) = new ≡ wanted
PutsByPlan None wanted old new (Err store.Failed) = ⊥
PutsByPlan (Some f) wanted old new (Ok x) = ⊥
PutsByPlan (Some f) wanted old new (Err store.Failed) = new ≡ (if f.applied then wanted else old)
PutsByPlan planned wanted old new (Err store.NoMemory) = new ≡ old

-- a sink fails exactly where that is planned, and then takes nothing; where it is not planned, want of memory is free
abbrev pub TakesByPlan : {T : Type 0} → Bool → List ℕ → List ℕ → List ℕ → Result T SinkError → Type 0
TakesByPlan false bytes old new (Ok x) = new ≡ old ++ bytes
TakesByPlan false bytes old new (Err sink.Failed) = ⊥
TakesByPlan true bytes old new (Ok x) = ⊥
TakesByPlan false bytes old new (Err sink.NoMemory) = new ≡ old
TakesByPlan true bytes old new (Err sink.Failed) = new ≡ old
TakesByPlan true bytes old new (Err sink.NoMemory) = ⊥
