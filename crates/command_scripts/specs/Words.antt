-- No public clause names this module: it hands on the words of this crate that the crates above share, types, constants and
-- definitions, each by the name that it has where it is declared, so that a proof or a definition imports all of them by one line.
pub use Rattle.command_scripts.specs.Causes.{Cause, cause_of, the_input, the_memory, the_output, the_store, the_words}
pub use Rattle.command_scripts.specs.Does.{Answers, Does, DoesPart, Ends, FailsAt, FailsBy, IsDue, Script}
pub use Rattle.command_scripts.specs.DoesLaws.{does_fail, does_go, does_lines, does_print, does_puts, does_stop, does_want, does_want_after, journal_put, puts_as, puts_go, puts_stop}
pub use Rattle.command_scripts.specs.Due.{Due, HoldsAll, HoldsSome, Prints, Put, PutFails, PutsSome, TakesAll, TakesSome, a_put, after_puts, ended_of, is_printed, no_put, prints, put_in, puts, puts_in, puts_of}
pub use Rattle.command_scripts.specs.StepLaws.{at_err, makes_end, makes_go, makes_want, no_err, no_ok, of_bytes, ok_same, outcome_go, seen_err, takes_fault, takes_go, takes_load, takes_ok, takes_refused, takes_seen, takes_stop}
pub use Rattle.command_scripts.specs.Steps.{ComesTo, IsUncalled, IsUntouched, SinkSeen, Steps, StoreSeen, Takes, file, file_within, gives, load, loaded, outcome, refused_by, ◌>>=◌}
