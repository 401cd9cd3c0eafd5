-- A command as its script, and what it does to the store and to `out`, by each of its answers: the clause of each call that follows a script to
-- its end.
use Rattle.std.specs.Prelude.{◌≡◌, ◌⊎◌, ◌≤◌, ◌++◌, ◌∷◌, [], ℕ, List, Result, Ok, Err}
use Rattle.link_outside.specs.Outside.{Rose}
use Rattle.link_outside.specs.declared.outside.StoreCall.{StoreCall}
use Rattle.link_outside.specs.declared.refusal.Refusal.{Refusal}
use Rattle.command_scripts.specs.Causes.{Cause, cause_of, the_input, the_memory, the_output, the_store, the_words}
use Rattle.command_scripts.specs.Steps.{IsUncalled, IsUntouched, SinkSeen, StoreSeen, ComesTo, Reaches, Steps}
use Rattle.command_scripts.specs.Due.{Due, ended_of, HoldsAll, HoldsSome, Prints, PutFails, puts_of, TakesAll, TakesSome}
use Rattle.command_scripts.specs.declared.ends.Ended.{Ended}

-- a command: its steps, and what may be due of the value that they give
pub record Script : Type 1 where
  pub Found : Type 0
  pub steps : Steps Found
  pub due : Found → Due → Type 0

-- this is due: the steps come to a value of which it may be due
pub record IsDue (script : Script) (store : StoreSeen) (due : Due) : Type 0 where
  pub found : script.Found
  pub steps : ComesTo script.steps store (Ok found)
  pub so : script.due found due

-- it ended: what is due, and nothing else, was handed to `out` or put
pub record Ends (script : Script) (store : StoreSeen) (out : SinkSeen) (ended : Ended) : Type 0 where
  pub due : Due
  pub is_due : IsDue script store due
  pub as_due : ended_of due ≡ ended
  pub held : HoldsAll due store
  pub taken : TakesAll due out
  pub faults : store.faults_after ≡ store.faults_before

-- a load failed that is reached, or a put that is due
abbrev pub FailsAt : Script → StoreSeen → StoreCall → Type 0
FailsAt script store call =
    (Reaches script.steps store call × (store.held_after ≡ store.held_before))
    ⊎ ((due : Due) × IsDue script store due × PutFails (puts_of due) store call)

-- the store failed at a call with this name, which its list of faults has gained; `out` was not called
pub record StoreFails (script : Script) (store : StoreSeen) (out : SinkSeen) (name : List ℕ) : Type 0 where
  pub call : StoreCall
  pub named : call.name ≡ name
  pub logged : store.faults_after ≡ store.faults_before ++ call ∷ []
  pub place : FailsAt script store call
  pub quiet : IsUncalled out

-- `out` failed: its count rose, and it took a front of the text that is due
pub record SinkFails (script : Script) (store : StoreSeen) (out : SinkSeen) : Type 0 where
  pub due : Due
  pub is_due : IsDue script store due
  pub printed : Prints due
  pub rose : Rose out.faults_before out.faults_after
  pub taken : TakesSome due out
  pub untouched : IsUntouched store

-- a part of what is due was done
pub record DoesPart (script : Script) (store : StoreSeen) (out : SinkSeen) : Type 0 where
  pub due : Due
  pub is_due : IsDue script store due
  pub held : HoldsSome due store
  pub taken : TakesSome due out

-- memory was wanted, and nothing failed: nothing was done, or a part of what is due
pub record WantsMemory (script : Script) (store : StoreSeen) (out : SinkSeen) : Type 0 where
  pub faults : store.faults_after ≡ store.faults_before
  pub counted : out.faults_after ≡ out.faults_before
  pub part : ((store.held_after ≡ store.held_before) × IsUncalled out) ⊎ DoesPart script store out

-- the steps come to this fault, and nothing was done
pub record IsRefused (script : Script) (store : StoreSeen) (out : SinkSeen) (f : Refusal) : Type 0 where
  pub first : ComesTo script.steps store (Err f)
  pub untouched : IsUntouched store
  pub quiet : IsUncalled out

abbrev pub FailsBy : Cause → Script → StoreSeen → SinkSeen → Refusal → Type 0
FailsBy the_words script store out f = ⊥
FailsBy (the_store name) script store out f = StoreFails script store out name
FailsBy the_output script store out f = SinkFails script store out
FailsBy the_memory script store out f = WantsMemory script store out
FailsBy the_input script store out f = IsRefused script store out f

abbrev pub Answers : Script → StoreSeen → SinkSeen → Result Ended Refusal → Type 0
Answers script store out (Ok ended) = Ends script store out ended
Answers script store out (Err f) = FailsBy (cause_of f) script store out f

-- a command is done, or refused for its cause; the count of `out` never falls
pub record Does (script : Script) (store : StoreSeen) (out : SinkSeen) (answer : Result Ended Refusal) : Type 0 where
  pub answers : Answers script store out answer
  pub later : out.faults_before ≤ out.faults_after
