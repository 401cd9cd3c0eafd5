-- What is due of a command that is not refused, and what doing it leaves: the dues of which `Does` speaks, and the puts of `put_each` (`PutsAll`).
use Rattle.std.specs.Prelude.{◌≡◌, ◌⊎◌, ◌≤◌, ◌<◌, ◌+◌, ◌++◌, ◌∷◌, [], ℕ, List, length, map, take, slice_index_or, true, ⊤, Result, Ok, Err}
use Rattle.link_outside.specs.Outside.{Held, held_with, TakesFront, Rose}
use Rattle.link_outside.specs.declared.outside.StoreCall.{StoreCall}
use Rattle.command_scripts.specs.Steps.{IsUncalled, SinkSeen, StoreSeen}
use Rattle.command_scripts.specs.declared.ends.Ended.{Ended}
use Rattle.command_scripts.specs.declared.ends.Ended.TheVariants.{Done}
use Rattle.command_scripts.specs.declared.ends.Output.{Output}
use Rattle.link_outside.specs.declared.refusal.Refusal.{Refusal}
use Rattle.command_scripts.specs.Causes.{Cause, cause_of, the_memory, the_output, the_store}
use Rattle.link_base.specs.declared.fault.Fault.TheVariants as fault
use Rattle.link_outside.specs.declared.refusal.Refusal.TheVariants as refusal

-- bytes that a name is to hold
pub record Put : Type 0 where
  pub name : List ℕ
  pub bytes : List ℕ

abbrev pub a_put : List ℕ → List ℕ → Put
a_put name bytes = record { name = name; bytes = bytes }

-- a text for `out`, after which the command has ended so; or puts, one after the other
pub data Due : Type 0 where
  prints : Ended → List ℕ → Due
  puts : List Put → Due

-- the text that was found is printed
abbrev pub is_printed : List ℕ → Due → Type 0
is_printed text due = due ≡ prints Done text

abbrev pub ended_of : Due → Ended
ended_of (prints ended text) = ended
ended_of (puts all) = Done

-- a text is handed to `out`
abbrev pub Prints : Due → Type 0
Prints (prints ended text) = ⊤
Prints (puts all) = ⊥

abbrev pub puts_of : Due → List Put
puts_of (prints ended text) = []
puts_of (puts all) = all

-- what names hold after these puts
abbrev pub after_puts : List Put → Held → Held
after_puts [] held = held
after_puts (put ∷ rest) held = after_puts rest (held_with put.name put.bytes held)

-- names hold what they held and the puts that are due
abbrev pub HoldsAll : Due → StoreSeen → Type 0
HoldsAll (prints ended text) store = store.held_after ≡ store.held_before
HoldsAll (puts all) store = store.tells → store.held_after ≡ after_puts all store.held_before

-- some of the puts were made, from the first on
abbrev pub PutsSome : List Put → StoreSeen → Type 0
PutsSome all store = (count : ℕ) × (count ≤ length all) × (store.held_after ≡ after_puts (take count all) store.held_before)

abbrev pub HoldsSome : Due → StoreSeen → Type 0
HoldsSome (prints ended text) store = store.held_after ≡ store.held_before
HoldsSome (puts all) store = store.tells → PutsSome all store

abbrev pub no_put : Put
no_put = record { name = []; bytes = [] }

-- the call that puts under a name
abbrev pub put_of : List ℕ → StoreCall
put_of name = record { put = true; name = name }

-- a put failed: those before it were made, and its name holds the new bytes or what it held
abbrev pub PutFails : List Put → StoreSeen → StoreCall → Type 0
PutFails all store call =
    (count : ℕ) × (count < length all) × (call ≡ put_of (slice_index_or all count no_put).name)
    × (store.tells → (store.held_after ≡ after_puts (take count all) store.held_before)
    ⊎ (store.held_after ≡ after_puts (take (count + 1) all) store.held_before))

-- `out` took the whole text that is due, with no fault; where none is due it was not called
abbrev pub TakesAll : Due → SinkSeen → Type 0
TakesAll (prints ended text) out = (out.tells → out.taken_after ≡ out.taken_before ++ text) × (out.faults_after ≡ out.faults_before)
TakesAll (puts all) out = IsUncalled out

-- `out` took a front of the text that is due; where none is due it was not called
abbrev pub TakesSome : Due → SinkSeen → Type 0
TakesSome (prints ended text) out = out.tells → TakesFront text out.taken_before out.taken_after
TakesSome (puts all) out = IsUncalled out

-- machinery: the puts of outputs as a body holds them
abbrev pub put_in : Output → Put
put_in output = record { name = output.name.now; bytes = output.bytes.now }

abbrev pub puts_in : List Output → List Put
puts_in outputs = map put_in outputs

-- The two ends of a command, by their clauses: a text for `out` (`print`, `print_text`, `print_lines`), or puts one after the other (`put_each`,
-- `put_journal`). The call that follows a script to such an end speaks of `Does` alone.

abbrev pub HandFails : Cause → List ℕ → SinkSeen → Type 0
HandFails the_output text out = Rose out.faults_before out.faults_after × (out.tells → TakesFront text out.taken_before out.taken_after)
HandFails the_memory text out = (out.faults_after ≡ out.faults_before) × (out.tells → TakesFront text out.taken_before out.taken_after)
HandFails cause text out = ⊥

abbrev pub Hands : Ended → List ℕ → SinkSeen → Result Ended Refusal → Type 0
Hands ended text out (Ok e) =
    (e ≡ ended) × (out.tells → out.taken_after ≡ out.taken_before ++ text) × (out.faults_after ≡ out.faults_before)
Hands ended text out (Err f) = HandFails (cause_of f) text out

-- a text was handed to `out`, with which the command ends so
pub record HandsOver (ended : Ended) (text : List ℕ) (out : SinkSeen) (answer : Result Ended Refusal) : Type 0 where
  pub ways : Hands ended text out answer
  pub later : out.faults_before ≤ out.faults_after

-- memory was wanted for the text that `out` was to take, which was not called
pub record IsWanted (out : SinkSeen) (answer : Result Ended Refusal) : Type 0 where
  pub wants : answer ≡ Err (refusal.Fault fault.NoMemory)
  pub quiet : IsUncalled out

-- after a put that failed its name holds the new bytes or what it held
abbrev pub PutsOrNot : Put → StoreSeen → Type 0
PutsOrNot put store =
    store.tells → (store.held_after ≡ store.held_before) ⊎ (store.held_after ≡ held_with put.name put.bytes store.held_before)

abbrev pub OneFails : Cause → Put → StoreSeen → Type 0
OneFails (the_store name) put store =
    (name ≡ put.name) × (store.faults_after ≡ store.faults_before ++ put_of put.name ∷ []) × PutsOrNot put store
OneFails the_memory put store = (store.faults_after ≡ store.faults_before) × PutsOrNot put store
OneFails cause put store = ⊥

-- one put was made
abbrev pub PutsOne : {T : Type 0} → Put → StoreSeen → Result T Refusal → Type 0
PutsOne put store (Ok x) =
    (store.faults_after ≡ store.faults_before)
    × (store.tells → store.held_after ≡ held_with put.name put.bytes store.held_before)
PutsOne put store (Err f) = OneFails (cause_of f) put store

abbrev pub EachFails : Cause → List Put → StoreSeen → Type 0
EachFails (the_store name) all store =
    (call : StoreCall) × (call.name ≡ name) × (store.faults_after ≡ store.faults_before ++ call ∷ []) × PutFails all store call
EachFails the_memory all store = (store.faults_after ≡ store.faults_before) × (store.tells → PutsSome all store)
EachFails cause all store = ⊥

abbrev pub PutsEach : List Put → StoreSeen → Result Ended Refusal → Type 0
PutsEach all store (Ok ended) =
    (ended ≡ Done) × (store.faults_after ≡ store.faults_before) × (store.tells → store.held_after ≡ after_puts all store.held_before)
PutsEach all store (Err f) = EachFails (cause_of f) all store

-- puts were made in their order, up to a failure
pub record PutsAll (all : List Put) (store : StoreSeen) (answer : Result Ended Refusal) : Type 0 where
  pub ways : PutsEach all store answer
