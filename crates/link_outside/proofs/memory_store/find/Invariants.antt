use Rattle.std.proofs.Common.{◌≡◌, drop}
use Rattle.link_outside.specs.Fakes.{held_in}
use Rattle.link_outside.proofs.memory_store.find.Given as goal

abbrev pub invariant-loop-entry : goal.invariant-loop-entry
invariant-loop-entry l = held_in l.entries l.name ≡ held_in (drop l.entry-index l.entries) l.name
