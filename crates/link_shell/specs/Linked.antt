-- What the top calls do: the clauses of `perform` and `linkage`.
use Rattle.std.specs.Prelude.{◌≡◌, ◌≢◌, ◌≤◌, ℕ, List, Option, Some, None, Result, Ok, Err, ⊤, []}
use Rattle.link_outside.specs.Refusal.{refusal_line, refusal_status}
use Rattle.link_outside.specs.Outside.{Appends, HasCause, Rose}
use Rattle.link_outside.specs.declared.outside.SinkError.{SinkError}
use Rattle.link_outside.specs.declared.refusal.Refusal.{Refusal}
use Rattle.command_scripts.specs.Words.{Cause, cause_of, the_memory, Does, IsDue, Script, Due, ended_of, Prints, IsUncalled, IsUntouched, SinkSeen, StoreSeen, ComesTo}
use Rattle.command_scripts.specs.declared.ends.Ended.{Ended}
use Rattle.command_scripts.specs.declared.ends.Ended.TheVariants.{Done, Refuted}
use Rattle.link_shell.specs.Commands.{Command, command_of, script_of}
use Rattle.link_shell.specs.Meaning.{ProvedByRun, YesWhereProved, RowsSayYes, YesMeans}
use Rattle.link_shell.specs.Headline.{Headline, FilledRule}
use Rattle.link_shell.specs.KeptVerdicts.{NoVerdictLost}
use Rattle.link_shell.specs.Limits.{TheLimits}
use Rattle.link_outside.specs.declared.outside.SinkError.TheVariants as sink
use Rattle.link_outside.specs.declared.refusal.Refusal.TheVariants as refusal

-- words that are no form of a command: `Usage` is answered, and nothing is done
pub record IsNoForm (store : StoreSeen) (out : SinkSeen) (answer : Result Ended Refusal) : Type 0 where
  pub usage : answer ≡ Err refusal.Usage
  pub untouched : IsUntouched store
  pub quiet : IsUncalled out

abbrev pub Follows : Option Command → StoreSeen → SinkSeen → Result Ended Refusal → Type 0
Follows None store out answer = IsNoForm store out answer
Follows (Some command) store out answer = Does (script_of command) store out answer

-- `Usage` is answered exactly to words that are no form of a command
abbrev pub IsExactUsage : Option Command → Result Ended Refusal → Type 0
IsExactUsage None answer = answer ≡ Err refusal.Usage
IsExactUsage (Some command) answer = answer ≢ Err refusal.Usage

-- no text is ever due of a command; no put is
abbrev pub NeverPrints : Script → Type 0
NeverPrints script = (found : script.Found) (due : Due) → script.due found due → ¬ Prints due

abbrev pub NeverPuts : Script → Type 0
NeverPuts script = (found : script.Found) (due : Due) → script.due found due → Prints due

-- where no text is ever due `out` is not called, and so is never at fault
abbrev pub IsSilent : Option Command → SinkSeen → Result Ended Refusal → Type 0
IsSilent None out answer = IsUncalled out
IsSilent (Some command) out answer = NeverPrints (script_of command) → IsUncalled out × (answer ≢ Err refusal.Output)

-- where no put is ever due no name holds anything else than it did
abbrev pub IsStill : Option Command → StoreSeen → Type 0
IsStill None store = store.held_after ≡ store.held_before
IsStill (Some command) store = NeverPuts (script_of command) → store.held_after ≡ store.held_before

-- a refusal is that of the steps, but for want of memory
abbrev pub RefusesBy : Cause → Script → StoreSeen → Refusal → Type 0
RefusesBy the_memory script store f = ⊤
RefusesBy cause script store f = ComesTo script.steps store (Err f)

-- a command is done or refused as is defined, but for want of memory
abbrev pub IsComplete : Option Command → StoreSeen → Result Ended Refusal → Type 0
IsComplete None store answer = answer ≡ Err refusal.Usage
IsComplete (Some command) store (Ok ended) = (due : Due) × IsDue (script_of command) store due × (ended_of due ≡ ended)
IsComplete (Some command) store (Err f) = RefusesBy (cause_of f) (script_of command) store f

-- what words do to the store and to `out`, with the answer; it is complete where nothing of the outside failed
pub record Performed (words : List (List ℕ)) (store : StoreSeen) (out : SinkSeen) (answer : Result Ended Refusal) : Type 0 where
  pub usage : IsExactUsage (command_of words) answer
  pub follows : Follows (command_of words) store out answer
  pub silent : IsSilent (command_of words) out answer
  pub still : IsStill (command_of words) store
  pub later : out.faults_before ≤ out.faults_after
  pub complete : store.faults_after ≡ store.faults_before → ¬ (Rose out.faults_before out.faults_after)
      → IsComplete (command_of words) store answer

-- the status after a fault whose line was handed to `err`
abbrev pub status_after : {T : Type 0} → Refusal → Result T SinkError → ℕ
status_after f (Ok x) = refusal_status f
status_after f (Err sink.Failed) = refusal_status f
status_after f (Err sink.NoMemory) = 8

-- the line of a fault was handed to `err`, and the status is that of the fault
pub record Told (err : SinkSeen) (f : Refusal) (status : ℕ) : Type 0 where
  pub written : Result (Unit {0}) SinkError
  pub status_is : status ≡ status_after f written
  pub line : err.tells → Appends (refusal_line f) err.taken_before err.taken_after written
  pub cause : HasCause err.faults_before err.faults_after written

-- what `err` takes, and the status: nothing at 0 and 9, and else the line of the fault or a front of it
abbrev pub Reported : SinkSeen → Result Ended Refusal → ℕ → Type 0
Reported err (Ok Done) status = (status ≡ 0) × IsUncalled err
Reported err (Ok Refuted) status = (status ≡ 9) × IsUncalled err
Reported err (Err f) status = Told err f status

-- What `linkage` says of the store, of `out` and of the status holds of `perform` and its answer too: the clause `carried` of `perform`.

-- the status of an answer
abbrev pub status_of_answer : Result Ended Refusal → ℕ
status_of_answer (Ok Done) = 0
status_of_answer (Ok Refuted) = 9
status_of_answer (Err f) = refusal_status f

-- a sink that is not called
abbrev pub uncalled : SinkSeen
uncalled = record { tells = ⊥; taken_before = []; taken_after = []; faults_before = 0; faults_after = 0 }

-- what `run` writes, that it is verified, what `verify` tells, and that no verdict is lost, at the status of the answer
pub record Carried (words : List (List ℕ)) (store : StoreSeen) (out : SinkSeen) (answer : Result Ended Refusal) : Type 0 where
  pub headline : Headline words store out uncalled (status_of_answer answer)
  pub proved_by_run : ProvedByRun words store (status_of_answer answer)
  pub yes_where_proved : YesWhereProved words store out (status_of_answer answer)
  pub yes_means : YesMeans words store out (status_of_answer answer)
  pub rows_say_yes : RowsSayYes words store out (status_of_answer answer)
  pub no_verdict_lost : NoVerdictLost words store (status_of_answer answer)

-- What holds of the program whatever it is asked and whatever names hold: the clause `always` of `linkage`.

-- its limits are the numbers that users are told, and each command that decides goes by the filled table
pub record Always : Type 0 where
  pub limits : TheLimits
  pub filled_rule : FilledRule
