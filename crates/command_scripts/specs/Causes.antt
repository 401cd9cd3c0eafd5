-- The causes of the faults, as the clauses on steps (`Takes`), on ends (`HandsOver`, `PutsAll`) and on whole commands (`Does`) tell them apart.
use Rattle.std.specs.Prelude.{ℕ, List}
use Rattle.link_base.specs.declared.fault.Fault.TheVariants as fault
use Rattle.link_outside.specs.declared.refusal.Refusal.{Refusal}
use Rattle.link_outside.specs.declared.refusal.Refusal.TheVariants as refusal

pub data Cause : Type 0 where
  the_words : Cause
  the_store : List ℕ → Cause
  the_output : Cause
  the_memory : Cause
  the_input : Cause

-- the words of a command, the store at a name, `out`, want of memory; and else the bytes of an input or a limit
abbrev pub cause_of : Refusal → Cause
cause_of refusal.Usage = the_words
cause_of (refusal.Store name) = the_store name
cause_of refusal.Output = the_output
cause_of (refusal.Fault fault.NoMemory) = the_memory
cause_of f = the_input
